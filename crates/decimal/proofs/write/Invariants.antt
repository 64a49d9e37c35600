-- `decimal::write`: the digits of what is left, and after them what stands behind `at`, are the digits of n and what followed them at the start.
-- `last_put` is one digit less left and one more stored, `only_put` the end. Assumes nothing.
use mathlib.Core.Path.{◌≡◌}
use mathlib.Core.List.{◌++◌}
use Prim.Native.Nat.{suc, ◌<◌}
use lib.ListN.{length, drop}
use Rattle.lists.specs.Decimal.{decimal}
use Rattle.decimal.proofs.write.Given as goal

abbrev pub invariant-loop-left : goal.invariant-loop-left
invariant-loop-left l =
    (l.ten ≡ 10) × (length l.out ≡ length l.initial.out) × (l.at < length l.out) × (suc l.at ≡ length (decimal l.left))
    × (decimal l.left ++ drop (suc l.at) l.out ≡ decimal l.n ++ drop (length (decimal l.n)) l.initial.out)

abbrev pub decreases-loop-left : goal.decreases-loop-left
decreases-loop-left l = l.left
