-- The elements of a list that pass a test. Assumes nothing.
use mathlib.Core.Path.{◌≡◌, refl, ap, ◌∙◌}
use mathlib.Core.Bool.{Bool, true, false}
use mathlib.Core.List.Memᴰ.{head as here}
use mathlib.Core.List.Memᴰ.{tail as there}
use mathlib.Core.List.{List, [], ◌∷◌, ◌++◌, Memᴰ as In}
use Prim.Native.Nat.{ℕ, ◌≤◌}
use native.Mathlib.Omega.{arith}
use lib.ListN.{length}
use Rattle.lists.specs.Lists.{pick, filter, Pairwise, none, more}
use Rattle.lists.proofs.Tests.{case, contra}

module _ (f : ℕ → Bool) where
  -- what is left was in the list and passes
  pub in_filter : {e : ℕ} (l : List ℕ) → In e (filter f l) → In e l × (f e ≡ true)
  in_filter {e = e} [] i = elim i [ ]
  in_filter {e} (x ∷ l) i = go (f x) refl (in_filter l) i
    where
      go : (b : Bool) → f x ≡ b → (In e (filter f l) → In e l × (f e ≡ true)) → In e (pick b (x ∷ filter f l) (filter f l)) → In e (x ∷ l) × (f e ≡ true)
      go true q ih (here h) = (here h, ap f h ∙ q)
      go true q ih (there h) = let (j, t) = ih h in (there j, t)
      go false q ih h = let (j, t) = ih h in (there j, t)

  pub filter_in : {e : ℕ} {l : List ℕ} → In e l → f e ≡ true → In e (filter f l)
  filter_in {e} (here {x = x} {xs = l} h) t = go (f x) refl
    where
      go : (b : Bool) → f x ≡ b → In e (pick b (x ∷ filter f l) (filter f l))
      go true q = here h
      go false q = contra t (ap f h ∙ q)
  filter_in {e} (there {x = x} {xs = l} h) t = go (f x) (filter_in h t)
    where
      go : (b : Bool) → In e (filter f l) → In e (pick b (x ∷ filter f l) (filter f l))
      go true i = there i
      go false i = i

  pub pairwise_filter : {R : ℕ → ℕ → Type 0} {l : List ℕ} → Pairwise R l → Pairwise R (filter f l)
  pairwise_filter none = none
  pairwise_filter {R} (more {a = x} {l = l} g p) = go (f x) (pairwise_filter p)
    where
      go : (b : Bool) → Pairwise R (filter f l) → Pairwise R (pick b (x ∷ filter f l) (filter f l))
      go true ih = more (λ b i. g b (in_filter l i).0) ih
      go false ih = ih

  pub filter_append : (l m : List ℕ) → filter f (l ++ m) ≡ filter f l ++ filter f m
  filter_append [] m = refl
  filter_append (x ∷ l) m = case (f x) (λ q. rw q (ap (λ (k : List ℕ). x ∷ k) (filter_append l m))) (λ q. rw q (filter_append l m))

  pub length_filter : (l : List ℕ) → length (filter f l) ≤ length l
  length_filter [] = omega arith
  length_filter (x ∷ l) = let ih = length_filter l in case (f x) (λ q. rw q (omega arith)) (λ q. rw q (omega arith))
