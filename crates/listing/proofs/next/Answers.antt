-- A cursor that has lines left writes the next one. Assumes nothing.
use native.Mathlib.Omega.{arith}
use Rattle.listing.specs.Listing.{text}
use Rattle.listing.proofs.Lines.{stands_next, going}
use Rattle.listing.proofs.next.Goals as goal

pub returns : goal.returns
returns c =
    let st = c.args in
    let lt = c.if-c.false in
    λ input k s. (
      going input st.c st.cells.now st.table.now k st.line.now s lt,
      stands_next input st.c st.cells.now st.table.now k st.line.now s c.write_next.result _ lt (c.write_next.ensures (text input) (s.serves (omega arith)).1 lt),
    )
