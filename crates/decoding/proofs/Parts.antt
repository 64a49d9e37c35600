-- The pieces of a list of bytes, found at the first byte that parts them. Assumes nothing.
use mathlib.Core.Path.{◌≡◌, refl, ap}
use mathlib.Core.Bool.{Bool, true, false, ◌&&◌, cond}
use mathlib.Core.List.{List, [], ◌∷◌}
use Prim.Native.Nat.{ℕ, suc, ◌+◌, ◌≤◌, ◌<◌}
use native.Mathlib.Numerals.{add-one}
use native.Mathlib.Omega.{arith}
use lib.ListN.{length, take, drop}
use lib.Dec.{eqb, ltb}
use borrow.Author.Tests.{ltb-true, ltb-false}
use Rattle.std.specs.Prelude.{Option, Some, None, MatchOption}
use Rattle.std.specs.List.{position_or_len}
use Rattle.std.specs.Cmp.Lexicographic.{pointwise}
use Rattle.lists.specs.Lists.{pick, index_of}
use Rattle.lists.proofs.Tests.{case}
use Rattle.promises.specs.Text.{onto, split_on, same}

-- ---- where a byte first stands

position_is : (l : List ℕ) (b : ℕ) → position_or_len (λ x. eqb x b) l ≡ index_of l b
unfolding index_of
position_is [] b = refl
position_is (x ∷ l) b = case (eqb x b) (λ p. rw p) (λ p. rw (p, position_is l b) (omega arith))

-- what `position` finds
pub first_at : (l : List ℕ) (b : ℕ) (o : Option ℕ) → o ≡ cond (ltb (position_or_len (λ x. eqb x b) l) (length l)) (Some (position_or_len (λ x. eqb x b) l)) None → MatchOption o (length l ≤ index_of l b) (λ i. (i ≡ index_of l b) × (i < length l))
first_at l b o e = rw (e, position_is l b) (case (ltb (index_of l b) (length l))
    (λ p. rw p (refl, ltb-true _ _ p))
    (λ p. rw p (ltb-false _ _ p)))

pub index_of_le : (l : List ℕ) (b : ℕ) → index_of l b ≤ length l
unfolding index_of
index_of_le [] b = omega arith
index_of_le (x ∷ l) b = go (eqb x b) (index_of_le l b)
  where
    go : (t : Bool) → index_of l b ≤ length l → pick t 0 (suc (index_of l b)) ≤ suc (length l)
    go true h = omega arith
    go false h = omega arith

-- ---- the pieces

-- nothing parts the list
pub split_on-whole : (b : ℕ) (l : List ℕ) → length l ≤ index_of l b → split_on b l ≡ l ∷ []
unfolding index_of split_on onto
split_on-whole b [] h = refl
split_on-whole b (x ∷ l) h = case (eqb x b) (λ p. let z = rw p at h in absurd (omega arith)) (λ p. let z = rw p at h in rw (p, split_on-whole b l (omega arith)))

-- the first piece, and the pieces of what follows it
pub split_on-first : (b : ℕ) (l : List ℕ) → index_of l b < length l → split_on b l ≡ take (index_of l b) l ∷ split_on b (drop (index_of l b + 1) l)
unfolding index_of split_on onto
split_on-first b [] h = absurd (omega arith)
split_on-first b (x ∷ l) h = case (eqb x b) (λ p. rw p) (λ p. let z = rw p at h in rw (p, split_on-first b l (omega arith), add-one (index_of l b), add-one))

-- ---- two lists, byte by byte

pub same_is : (s t : List ℕ) → same s t ≡ pointwise eqb s t
unfolding same
same_is [] [] = refl
same_is [] (b ∷ t) = refl
same_is (a ∷ s) [] = refl
same_is (a ∷ s) (b ∷ t) = ap (λ x. eqb a b && x) (same_is s t)

pub same_length : (s t : List ℕ) → (length s ≡ length t → ⊥) → same s t ≡ false
unfolding same
same_length [] [] h = absurd (h refl)
same_length [] (b ∷ t) h = refl
same_length (a ∷ s) [] h = refl
same_length (a ∷ s) (b ∷ t) h = go (eqb a b) (same_length s t (λ q. h (ap suc q)))
  where
    go : (x : Bool) → same s t ≡ false → (x && same s t) ≡ false
    go true q = q
    go false q = refl
