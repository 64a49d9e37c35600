use mathlib.Core.Path.{◌≡◌, refl}
use Prim.Native.Nat.{◌+◌}
use native.Mathlib.Omega.{arith}
use borrow.Author.Rules.{rules}
use Rattle.line.specs.Laws.{front_laws}
use Rattle.line.proofs.Pieces.{written}
use Rattle.sheets.proofs.Parts.{sheet_none, one_part, length_sheet, sheet_longer}
use Rattle.sheets.proofs.Scenarios.write.Goals as goal

pub loop-k-init : goal.loop-k-init
loop-k-init c = (omega arith, rw (sheet_none c.args.self.now.h c.args.self.now.g c.args.self.now.events.now).0 (front_laws.none _ (omega arith)))

pub put_part-requires : goal.put_part-requires
put_part-requires c =
    let st = c.args.self.now in
    let lp = c.loop-k in
    let s = st.events.now in
    let p = one_part st.m st.h st.g st.spaced s st.enough lp.k _ c.loop-k-test.true c.runs.ensures in
    (st.spaced, p.short, front_laws.room _ _ _ _ lp.invariant.1 (omega (arith, length_sheet st.h st.g s lp.k _ p, sheet_longer st.h st.g s (lp.k + 1) st.m (omega arith))))

pub loop-k-preserved : goal.loop-k-preserved
loop-k-preserved c =
    let st = c.args.self.now in
    let lp = c.loop-k in
    let p = one_part st.m st.h st.g st.spaced st.events.now st.enough lp.k _ c.loop-k-test.true c.runs.ensures in
    (omega arith, rw p.text_more (front_laws.more _ _ _ _ _ lp.invariant.1 c.put_part.ensures))

pub returns : goal.returns
returns c =
    let lp = c.loop-k in
    let all : lp.k ≡ c.args.self.now.m = omega arith in
    search (rules, written _ _ _ refl (rw all at lp.invariant.1))
