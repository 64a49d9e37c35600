-- The draws before place i are made, so the first that is not is the first from there on.
use mathlib.Core.Path.{◌≡◌}
use Prim.Native.Nat.{◌-◌}
use Rattle.promises.specs.Draws.{draws_from, outcome}
use Rattle.draws.specs.Making.{first_failed}
use Rattle.draws.proofs.first_failed.Given as goal

abbrev pub invariant-loop-i : goal.invariant-loop-i
invariant-loop-i l = first_failed l.z (outcome l.n l.z l.seed l.limit) ≡ first_failed l.z (draws_from l.limit l.n (l.z - l.i) l.i l.state)
