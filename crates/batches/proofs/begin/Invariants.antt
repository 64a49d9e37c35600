-- The invariant: the first k scenarios stand so.
use mathlib.Core.Path.{◌≡◌}
use Prim.Native.Nat.{ℕ, ◌<◌}
use lib.ListN.{length, get_or}
use Rattle.batches.specs.declared.Standing.{Standing}
use Rattle.batches.specs.Batches.{nowhere}
use Rattle.batches.proofs.begin.Given as goal

abbrev pub invariant-loop-k : goal.invariant-loop-k
invariant-loop-k l = (length l.standings ≡ length l.list) × ((j : ℕ) → j < l.k → ◌≡◌ {A = Standing} (get_or l.standings j nowhere) (record { state = l.x; left = get_or l.list j 0 }))
