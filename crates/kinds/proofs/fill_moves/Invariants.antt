-- The rows so far are those of the kind's automaton, and the rest is as it was.
-- Assumes nothing.
use mathlib.Core.Path.{◌≡◌}
use Prim.Native.Nat.{◌-◌, ◌≤◌}
use lib.ListN.{length}
use Rattle.kinds.specs.Kinds.{as_kind, with_rows}
use Rattle.kinds.proofs.fill_moves.Given as goal

abbrev pub invariant-loop-s : goal.invariant-loop-s
invariant-loop-s l = (l.s ≤ l.n) × (l.n ≤ 32) × (length l.moves ≡ length l.initial.moves) × (l.moves ≡ with_rows l.initial.moves l.m (as_kind l.k) l.s)

abbrev pub decreases-loop-s : goal.decreases-loop-s
decreases-loop-s l = l.n - l.s
