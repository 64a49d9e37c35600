use mathlib.Core.Path.{refl, sym, ◌∙◌}
use native.Mathlib.Omega.{arith}
use Rattle.promises.specs.Draws.{outcome}
use Rattle.promises.proofs.Draws.{drawn_served}
use Rattle.draws.proofs.Laws.{written_first, written_made, written_more, written_all}
use Rattle.draws.proofs.write_draws.Goals as goal

pub loop-i-init : goal.loop-i-init
unfolding outcome
loop-i-init c = let st = c.args in written_first st.limit st.n st.z _ st.out.now st.seed refl c.requires.2

pub unwrap-draw-requires : goal.unwrap-draw-requires
unwrap-draw-requires c =
    let st = c.args in
    let lp = c.loop-i in
    written_made st.limit st.n st.z _ st.out.now lp.i lp.state lp.out lp.invariant c.take.result (omega arith) c.take.ensures

pub loop-i-preserved : goal.loop-i-preserved
loop-i-preserved c =
    let st = c.args in
    let lp = c.loop-i in
    written_more st.limit st.n st.z _ st.out.now lp.i lp.state lp.out lp.invariant c.unwrap-draw.result (omega arith) (omega arith) (rw c.unwrap-draw.ensures at c.take.ensures)

pub returns : goal.returns
returns c =
    let st = c.args in
    let lp = c.loop-i in
    let w = lp.invariant in
    w.holds ∙ sym (drawn_served st.n st.z st.seed st.limit st.out.now (omega arith) (omega arith) w.front (written_all st.limit st.n st.z _ st.out.now lp.i lp.state lp.out w (omega arith))).1
