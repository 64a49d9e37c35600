-- The places of different numbers in a list, and permutations of the numbers below n. Assumes nothing.
use mathlib.Core.Path.{◌≡◌, refl, sym, ap, ◌∙◌, subst}
use mathlib.Core.Logic.{◌≢◌}
use mathlib.Core.Bool.{false}
use mathlib.Core.List.Memᴰ.{head as here}
use mathlib.Core.List.Memᴰ.{tail as there}
use mathlib.Core.List.{List, [], ◌∷◌, Memᴰ as In}
use Prim.Native.Nat.{ℕ, zero, suc, ◌≤◌, ◌<◌}
use native.Mathlib.Omega.{arith}
use lib.ListN.{length, get_or}
use lib.Dec.{eqb, ltb}
use borrow.Author.Tests.{eq-eqb, ne_eqb, eqb-true, eqb-false, lt-ltb, le-ltb, ltb-true, ltb-false}
use Rattle.lists.specs.Lists.{any, range, index_of, Pairwise, more, Sample, Permutation}
use Rattle.lists.proofs.Tests.{contra, case}
use Rattle.lists.proofs.Members.{any_some, any_in, get_or-in}
use Rattle.lists.proofs.Ordered.{pairwise_imp, range_in, range-ordered}
use Rattle.lists.proofs.Tables.{length-range, get_or-range}
use Rattle.lists.proofs.Distinct.{distinct-length, same_length}

-- ---- the places of different numbers

-- a number stands where its first place is
get_or-index_of : {a : ℕ} {l : List ℕ} → In a l → get_or l (index_of l a) 0 ≡ a
unfolding index_of
get_or-index_of {a = a} {l = []} x'' = elim x'' [ ]
get_or-index_of {a} {l = d ∷ l} (here q) = rw (eq-eqb d a (sym q)) (sym q)
get_or-index_of {a} {l = d ∷ l} (there i) = let ih = get_or-index_of i in case (eqb d a) (λ q. rw q (eqb-true d a q)) (λ q. rw q ih)

pub index_of-one : {l : List ℕ} {a b : ℕ} → In a l → In b l → index_of l a ≡ index_of l b → a ≡ b
index_of-one {l} i j q = sym (get_or-index_of i) ∙ ap (λ k. get_or l k 0) q ∙ get_or-index_of j

pub index_of_at : (l : List ℕ) (i : ℕ) → Pairwise ◌≢◌ l → i < length l → index_of l (get_or l i 0) ≡ i
unfolding index_of
index_of_at [] i p h = absurd (omega arith)
index_of_at (d ∷ l) zero p h = rw (eq-eqb d d refl)
index_of_at (d ∷ l) (suc i) (more f p) h = rw (ne_eqb d (get_or l i 0) (f (get_or l i 0) (get_or-in l i 0 (omega arith))), index_of_at l i p (omega arith))

-- a number stands in a list where its first place is in it
pub index_of-any : (l : List ℕ) (e : ℕ) → ltb (index_of l e) (length l) ≡ any (eqb e) l
unfolding index_of
index_of-any [] e = le-ltb 0 0 (omega arith)
index_of-any (d ∷ l) e = case (eqb d e)
    (λ p. rw (p, eq-eqb e d (sym (eqb-true d e p))) (lt-ltb 0 (suc (length l)) (omega arith)))
    (λ p. rw (p, ne_eqb e d (λ q. eqb-false d e p (sym q))) (less (index_of l e) (length l) ∙ index_of-any l e))
  where
    less : (a b : ℕ) → ltb (suc a) (suc b) ≡ ltb a b
    less a b = case (ltb a b) (λ p. rw p (lt-ltb (suc a) (suc b) (omega (arith, ltb-true a b p)))) (λ p. rw p (le-ltb (suc a) (suc b) (omega (arith, ltb-false a b p))))

-- ---- permutations

pub range_permutation : (n : ℕ) → Permutation n (range n)
range_permutation n = record { once = pairwise_imp (λ a b i j h q. omega arith) (range-ordered n); just = range_in n }

pub permutation_length : (n : ℕ) (l : List ℕ) → Permutation n l → length l ≡ n
permutation_length n l p =
    same_length l (range n) p.once (range_permutation n).once (λ e i. (range_in n e).1 ((p.just e).0 i)) (λ e i. (p.just e).1 ((range_in n e).0 i))
    ∙ length-range n

-- n different numbers below n are all of them
module _ (n : ℕ) (l : List ℕ) (full : length l ≡ n) (s : Sample n l) where
  all_there : (e : ℕ) → e < n → In e l
  all_there e h = case (any (λ d. eqb d e) l)
      (λ q. let (d, i, p) = any_some (λ d. eqb d e) l q in subst (λ x. In x l) (eqb-true d e p) i)
      (λ q. absurd (too_many q))
    where
      in_range : (a : ℕ) → In a (e ∷ l) → In a (range n)
      in_range a (here p) = (range_in n a).1 (omega arith)
      in_range a (there i) = (range_in n a).1 (s.below a i)

      too_many : any (λ d. eqb d e) l ≡ false → ⊥
      too_many q =
          let le : length (e ∷ l) ≤ length (range n) = distinct-length (e ∷ l) (range n) (more (λ b i p. contra (any_in (λ d. eqb d e) i (eq-eqb b e (sym p))) q) s.once) in_range in
          omega (arith, length-range n)

  pub full_permutation : Permutation n l
  full_permutation = record { once = s.once; just = λ e. (s.below e, all_there e) }

pub index_of-range : (n a : ℕ) → a < n → index_of (range n) a ≡ a
index_of-range n a h = ap (index_of (range n)) (sym (get_or-range n a h)) ∙ index_of_at (range n) a (range_permutation n).once (rw length-range h)
