-- The entries so far are those with the hours more, and the rest is as it was.
-- Assumes nothing.
use mathlib.Core.Path.{◌≡◌}
use Prim.Native.Nat.{◌-◌, ◌≤◌}
use lib.ListN.{length}
use Rattle.rig.specs.Record.{move_at}
use Rattle.kinds.specs.Kinds.{with_column, hour_of}
use Rattle.kinds.proofs.fill_hours.Given as goal

abbrev pub invariant-loop-s : goal.invariant-loop-s
invariant-loop-s l = (l.s ≤ l.t) × (length l.moves ≡ length l.initial.moves) × (l.moves ≡ with_column l.initial.moves l.m l.e (λ s. hour_of l.t l.a l.b l.first s (move_at l.initial.moves l.m s l.e)) l.s)

abbrev pub decreases-loop-s : goal.decreases-loop-s
decreases-loop-s l = l.t - l.s
