-- The invariant: the numbers es are read and written over the front of the list, and the fields that are not read yet are left.
-- Assumes nothing.
use mathlib.Core.Path.{◌≡◌}
use mathlib.Core.List.{List}
use Prim.Native.Nat.{ℕ}
use lib.ListN.{length}
use Rattle.decoding.specs.Forms.{over}
use Rattle.decoding.proofs.Listed.{Reads}
use Rattle.decoding.proofs.ord_form.Given as goal

pub record SoFar (fs : List (List ℕ)) (order₀ : List ℕ) (gs : List (List ℕ)) (order : List ℕ) (count : ℕ) : Type 0 where
  pub numbers_are : List ℕ
  pub reads : Reads fs gs numbers_are
  pub counted : count ≡ length numbers_are
  pub written : order ≡ over numbers_are order₀

abbrev pub invariant-loop-field : goal.invariant-loop-field
invariant-loop-field l = SoFar l.initial.fields l.initial.order l.fields l.order l.count

abbrev pub decreases-loop-field : goal.decreases-loop-field
decreases-loop-field l = length l.fields
