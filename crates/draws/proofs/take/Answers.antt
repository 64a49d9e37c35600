use mathlib.Core.Path.{sym, ap, ◌∙◌}
use mathlib.Core.Bool.{not}
use native.Mathlib.Omega.{arith}
use Rattle.draws.proofs.Laws.{taken_here, taken_later, taken_nowhere}
use Rattle.draws.proofs.take.Goals as goal

pub returns-then-not-is_thrown : goal.returns-then-not-is_thrown
returns-then-not-is_thrown c =
    let lp = c.loop in
    sym (lp.invariant ∙ taken_here c.args.limit lp.counter c.args.w lp.state _ _ (omega arith) c.next_state-state.ensures c.mix-raw.ensures (ap not (rw c.is_thrown.ensures at c.if-not-is_thrown.true)))

pub loop-preserved : goal.loop-preserved
loop-preserved c =
    let lp = c.loop in
    lp.invariant ∙ taken_later c.args.limit lp.counter c.args.w lp.state _ _ (omega arith) c.next_state-state.ensures c.mix-raw.ensures (ap not (rw c.is_thrown.ensures at c.if-not-is_thrown.false))

pub returns : goal.returns
returns c = sym (c.loop.invariant ∙ taken_nowhere c.args.limit c.loop.counter c.args.w c.loop.state (omega arith))
