-- Before place i stand the first i draws, and each step puts the next one after them.
use Rattle.promises.specs.Draws.{outcome}
use Rattle.draws.proofs.Laws.{Written}
use Rattle.draws.proofs.write_draws.Given as goal

abbrev pub invariant-loop-i : goal.invariant-loop-i
invariant-loop-i l = Written l.limit l.n l.z (outcome l.n l.z l.seed l.limit) l.initial.out l.i l.state l.out
