-- Lists without repeats: contained in a list they are no longer than it, and each element stands at one place. Assumes nothing.
use mathlib.Core.Path.{◌≡◌, refl, sym, ap, ◌∙◌, subst}
use mathlib.Core.Logic.{◌⊎◌, inl, inr, ◌≢◌}
use mathlib.Core.List.{List, [], ◌∷◌, ◌++◌}
use mathlib.Core.List.Memᴰ.{append_cases as in-append}
use mathlib.Core.List.Memᴰ.{append_left as in_left}
use mathlib.Core.List.Memᴰ.{append_right as in_right}
use mathlib.Core.List.Memᴰ.{head as here}
use mathlib.Core.List.Memᴰ.{tail as there}
use mathlib.Core.List.{Memᴰ as In}
use Prim.Native.Nat.{ℕ, suc, ◌≤◌, ◌<◌}
use native.Mathlib.Omega.{arith}
use lib.ListN.{length, get_or, length-append}
use Rattle.lists.specs.Lists.{Pairwise, none, more}
use Rattle.lists.proofs.Tests.{ℕ_trichotomy}
use Rattle.lists.proofs.Ordered.{pairwise_at}

pub in_split : {A : Type 0} {a : A} {l : List A} → In a l → (xs : List A) × (ys : List A) × (l ≡ xs ++ (a ∷ ys))
in_split (here {xs = l} q) = ([], l, ap (λ x. x ∷ l) (sym q))
in_split (there {x = x} i) = let (xs, ys, q) = in_split i in (x ∷ xs, ys, ap (λ l. x ∷ l) q)

-- where an element stands
pub in_place : {A : Type 0} (d : A) {a : A} {l : List A} → In a l → (k : ℕ) × (k < length l) × (get_or l k d ≡ a)
in_place d (here q) = (0, omega arith, sym q)
in_place d (there i) = let (k, lt, q) = in_place d i in (suc k, omega arith, q)

-- a list without repeats is no longer than one that has all its elements
pub distinct-length : {A : Type 0} (l m : List A) → Pairwise ◌≢◌ l → ((a : A) → In a l → In a m) → length l ≤ length m
distinct-length [] m d sub = omega arith
distinct-length {A} (x ∷ l) m (more f d) sub = go (in_split (sub x (here refl))) (distinct-length l)
  where
    go : (xs : List A) × (ys : List A) × (m ≡ xs ++ (x ∷ ys)) → ((k : List A) → Pairwise ◌≢◌ l → ((a : A) → In a l → In a k) → length l ≤ length k) → length (x ∷ l) ≤ length m
    go (xs, ys, q) ih =
        let le : length l ≤ length (xs ++ ys) = ih (xs ++ ys) d (λ a i. without a i (in-append xs (subst (In a) q (sub a (there i))))) in
        omega (arith, length-append xs ys, length-append xs (x ∷ ys), ap length q)
      where
        without : (a : A) → In a l → In a xs ⊎ In a (x ∷ ys) → In a (xs ++ ys)
        without a i (inl j) = in_left ys j
        without a i (inr (here p)) = absurd (f a i (sym p))
        without a i (inr (there j)) = in_right xs j

-- two lists without repeats that have the same elements are equally long
pub same_length : {A : Type 0} (l m : List A) → Pairwise ◌≢◌ l → Pairwise ◌≢◌ m → ((a : A) → In a l → In a m) → ((a : A) → In a m → In a l) → length l ≡ length m
same_length l m d e sub sup = omega (arith, distinct-length l m d sub, distinct-length m l e sup)

pub distinct-once : {A : Type 0} (d : A) (l : List A) → Pairwise ◌≢◌ l → (i j : ℕ) → i < length l → j < length l → get_or l i d ≡ get_or l j d → i ≡ j
distinct-once d l p i j a b q = go (ℕ_trichotomy i j)
  where
    go : (i < j) ⊎ ((i ≡ j) ⊎ (j < i)) → i ≡ j
    go (inl h) = absurd (pairwise_at d i j p h b q)
    go (inr (inl h)) = h
    go (inr (inr h)) = absurd (pairwise_at d j i p h a (sym q))

pub once-distinct : {A : Type 0} (d : A) (l : List A) → ((i j : ℕ) → i < length l → j < length l → get_or l i d ≡ get_or l j d → i ≡ j) → Pairwise ◌≢◌ l
once-distinct d [] once = none
once-distinct {A} d (x ∷ l) once = more (λ b i q. apart b q (in_place d i)) (once-distinct d l (λ i j a b q. less i j (once (suc i) (suc j) (omega arith) (omega arith) q)))
  where
    apart : (b : A) → x ≡ b → (k : ℕ) × (k < length l) × (get_or l k d ≡ b) → ⊥
    apart b q (k, lt, r) = let z : 0 ≡ suc k = once 0 (suc k) (omega arith) (omega arith) (q ∙ sym r) in omega arith

    less : (i j : ℕ) → suc i ≡ suc j → i ≡ j
    less i j q = omega arith
