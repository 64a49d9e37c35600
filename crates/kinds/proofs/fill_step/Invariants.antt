-- The entries so far are those of the step, and the rest is as it was.
-- Assumes nothing.
use mathlib.Core.Path.{◌≡◌}
use mathlib.Core.List.{[], ◌∷◌}
use Prim.Native.Nat.{ℕ, ◌-◌, ◌≤◌}
use lib.IntN.{ℤ}
use lib.ListN.{length}
use Rattle.promises.specs.Text.{bal, amp, states_of}
use Rattle.promises.specs.Rig.{next_of}
use Rattle.kinds.specs.Kinds.{entry_of, with_column}
use Rattle.kinds.proofs.fill_step.Given as goal

abbrev pub entry_by : ℤ → ℤ → ℕ → ℤ → ℕ → ℕ
entry_by lo hi e d j = entry_of (states_of (bal lo hi)) (next_of (bal lo hi) (amp e d ∷ []) j e)

abbrev pub invariant-loop-j : goal.invariant-loop-j
invariant-loop-j l = (l.j ≤ l.n) × (l.n ≤ 32) × (length l.moves ≡ length l.initial.moves) × (l.moves ≡ with_column l.initial.moves l.m l.e (entry_by l.lo l.hi l.e l.d) l.j)

abbrev pub decreases-loop-j : goal.decreases-loop-j
decreases-loop-j l = l.n - l.j
