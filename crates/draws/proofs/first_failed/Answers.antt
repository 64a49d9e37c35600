use mathlib.Core.Path.{◌≡◌, refl, sym, ap, ◌∙◌}
use native.Mathlib.Omega.{arith}
use native.Mathlib.Nat.{sub-zero}
use Rattle.promises.specs.Draws.{outcome}
use Rattle.refusal.proofs.Places.{place_here, place_nowhere}
use Rattle.draws.specs.Making.{first_failed}
use Rattle.draws.proofs.Laws.{from_failed, from_more, from_end, failed-onto}
use Rattle.draws.proofs.first_failed.Goals as goal

pub loop-i-init : goal.loop-i-init
unfolding outcome
loop-i-init c = rw sub-zero refl

pub returns-in_default : goal.returns-in_default
returns-in_default c =
    let st = c.args in
    let lp = c.loop-i in
    let e : first_failed st.z (outcome st.n st.z st.seed st.limit) ≡ lp.i = lp.invariant ∙ ap (first_failed st.z) (from_failed st.limit st.n st.z lp.i lp.state (omega arith) (sym c.in_default.ensures)) in
    rw e (place_here st.z lp.i (omega arith))

pub loop-i-preserved : goal.loop-i-preserved
loop-i-preserved c =
    let st = c.args in
    let lp = c.loop-i in
    lp.invariant ∙ ap (first_failed st.z) (from_more st.limit st.n st.z lp.i lp.state (omega arith) _ _ (sym c.in-Some.ensures)) ∙ failed-onto st.z _ _

pub returns : goal.returns
returns c =
    let st = c.args in
    let lp = c.loop-i in
    let e : first_failed st.z (outcome st.n st.z st.seed st.limit) ≡ st.z = lp.invariant ∙ ap (first_failed st.z) (from_end st.limit st.n st.z lp.i lp.state (omega arith)) in
    rw e (place_nowhere st.z st.z (omega arith))
