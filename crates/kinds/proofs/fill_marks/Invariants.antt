-- The marks so far are those of the kind, and the rest is as it was.
-- Assumes nothing.
use mathlib.Core.Path.{◌≡◌}
use mathlib.Core.List.{[]}
use Prim.Native.Nat.{◌-◌, ◌≤◌}
use lib.ListN.{length}
use Rattle.lists.specs.Lists.{pick, overwrite}
use Rattle.promises.specs.Rig.{marked_of}
use Rattle.rig.specs.Record.{stop_index}
use Rattle.kinds.specs.Kinds.{as_kind}
use Rattle.kinds.proofs.fill_marks.Given as goal

abbrev pub invariant-loop-s : goal.invariant-loop-s
invariant-loop-s l =
    (l.s ≤ l.s-end) × (length l.stops ≡ length l.initial.stops) × (l.stops ≡ overwrite l.initial.stops (stop_index l.m) (λ s. pick (marked_of (as_kind l.k) [] s) 1 0) l.s)

abbrev pub decreases-loop-s : goal.decreases-loop-s
decreases-loop-s l = l.s-end - l.s
