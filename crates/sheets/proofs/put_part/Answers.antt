-- `sheets::put_part`: the load is put, and the legs after it. Assumes nothing.
use native.Mathlib.Omega.{arith}
use Rattle.sheets.proofs.Parts.{text_part, length_part, slot_few}
use Rattle.sheets.proofs.put_part.Goals as goal

pub put_number-requires : goal.put_number-requires
put_number-requires g c =
    let st = c.args in
    g.met.S.Sink.laws.fewer _ _ _ (omega (arith, length_part st.h st.g st.rest.now)) c.requires.2

pub put_legs-requires : goal.put_legs-requires
put_legs-requires g c =
    let st = c.args in (
      c.requires.0,
      omega (arith, slot_few st.h st.g st.rest.now c.requires.1),
      g.met.S.Sink.laws.room _ _ _ _ c.put_number.ensures (rw (length_part st.h st.g st.rest.now) at c.requires.2),
    )

pub returns : goal.returns
returns g c =
    let st = c.args in
    rw (text_part st.h st.g st.rest.now) (g.met.S.Sink.laws.more _ _ _ _ _ c.put_number.ensures c.put_legs.ensures)
