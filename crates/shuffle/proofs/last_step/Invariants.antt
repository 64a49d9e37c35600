-- The step before the link is on the chain of the draw's bucket, and no step from the link on before i has the same draw.
-- A link goes to an earlier step.
use Rattle.std.proofs.Common.{List, ℕ, ◌++◌, length}
use Rattle.shuffle.specs.Places.{Walkable}
use Rattle.shuffle.proofs.Chains.{Walked}
use Rattle.shuffle.proofs.last_step.Given as goal

abbrev pub invariant-loop-link : goal.invariant-loop-link
invariant-loop-link l = (front : List ℕ) × Walkable (length front) l.draws l.i (front ++ l.links) × Walked (length front) l.draws l.i l.link

abbrev pub decreases-loop-link : goal.decreases-loop-link
decreases-loop-link l = l.link
