-- Sums over lists: in parts, added, and in any order. Assumes nothing.
use mathlib.Core.Path.{◌≡◌, refl, sym, ap, ◌∙◌, fun_ext}
use mathlib.Core.Logic.{⊎_elim}
use mathlib.Core.Bool.{Bool, true, false}
use mathlib.Core.List.Memᴰ.{head as here}
use mathlib.Core.List.Memᴰ.{tail as there}
use mathlib.Core.List.{List, [], ◌∷◌, ◌++◌, map, Memᴰ as In}
use Prim.Native.Nat.{ℕ, zero, suc, ◌+◌, ◌≤◌, ◌<◌}
use native.Mathlib.Omega.{arith}
use native.Mathlib.Decide.{ℕ_discrete}
use native.Mathlib.Numerals.{add-one}
use lib.ListN.{length, get_or, take}
use lib.Seq.{take-suc}
use lib.Dec.{ltb, eqb}
use borrow.Author.Tests.{lt-ltb, le-ltb, eq-eqb, ne_eqb}
use Rattle.lists.specs.Lists.{pick, sum, concat_map, range}
use Rattle.lists.proofs.Tests.{split}

pub sum_same : (f g : ℕ → ℕ) (l : List ℕ) → ((x : ℕ) → f x ≡ g x) → sum f l ≡ sum g l
sum_same f g l h = ap (λ (c : ℕ → ℕ). sum c l) (fun_ext h)

pub sum-append : (f : ℕ → ℕ) (l m : List ℕ) → sum f (l ++ m) ≡ sum f l + sum f m
sum-append f [] m = omega arith
sum-append f (x ∷ l) m = omega (arith, sum-append f l m)

pub sum_snoc : (f : ℕ → ℕ) (l : List ℕ) (x : ℕ) → sum f (l ++ x ∷ []) ≡ sum f l + f x
sum_snoc f l x = sum-append f l (x ∷ []) ∙ ap (λ n. sum f l + n) (omega arith)

pub sum-take : (f : ℕ → ℕ) (n : ℕ) (l : List ℕ) → sum f (take n l) ≤ sum f l
sum-take f zero l = omega arith
sum-take f (suc n) [] = omega arith
sum-take f (suc n) (x ∷ l) = omega (arith, sum-take f n l)

-- one element more
pub sum-take_suc : (f : ℕ → ℕ) (l : List ℕ) (c : ℕ) → c < length l → sum f (take (c + 1) l) ≡ sum f (take c l) + f (get_or l c 0)
sum-take_suc f l c h = rw (add-one c, take-suc l c 0 h) (sum_snoc f (take c l) (get_or l c 0))

pub sum-none : (f : ℕ → ℕ) (l : List ℕ) → ((e : ℕ) → In e l → f e ≡ 0) → sum f l ≡ 0
sum-none f [] h = refl
sum-none f (x ∷ l) h = omega (arith, h x (here refl), sum-none f l (λ e i. h e (there i)))

pub sum-some : (f : ℕ → ℕ) (l : List ℕ) → 0 < sum f l → (e : ℕ) × In e l × (0 < f e)
sum-some f [] h = absurd (omega arith)
sum-some f (x ∷ l) h = ⊎_elim (λ k. (x, here refl, k)) (λ k. let (e, i, m) = sum-some f l (omega arith) in (e, there i, m)) (split 1 (f x))

pub sum-concat_map : (f : ℕ → List ℕ) (l : List ℕ) → sum (λ n. n) (concat_map f l) ≡ sum (λ x. sum (λ n. n) (f x)) l
sum-concat_map f [] = refl
sum-concat_map f (x ∷ l) = sum-append (λ n. n) (f x) (concat_map f l) ∙ ap (λ n. sum (λ n. n) (f x) + n) (sum-concat_map f l)

pub sum-map : (f : ℕ → ℕ) (l : List ℕ) → sum (λ n. n) (map f l) ≡ sum f l
sum-map f [] = refl
sum-map f (x ∷ l) = ap (λ n. f x + n) (sum-map f l)

sum_both : (f g : ℕ → ℕ) (l : List ℕ) → sum (λ x. f x + g x) l ≡ sum f l + sum g l
sum_both f g [] = omega arith
sum_both f g (x ∷ l) = omega (arith, sum_both f g l)

-- sums may be taken in any order
pub sum-swap : (f : ℕ → ℕ → ℕ) (l m : List ℕ) → sum (λ x. sum (f x) m) l ≡ sum (λ y. sum (λ x. f x y) l) m
sum-swap f [] m = sym (sum-none (λ y. 0) m (λ e i. refl))
sum-swap f (x ∷ l) m = ap (λ n. sum (f x) m + n) (sum-swap f l m) ∙ sym (sum_both (f x) (λ y. sum (λ x. f x y) l) m)

pub sum-pick : (b : Bool) (f : ℕ → ℕ) (l : List ℕ) → pick b (sum f l) 0 ≡ sum (λ x. pick b (f x) 0) l
sum-pick true f l = refl
sum-pick false f l = sym (sum-none (λ x. 0) l (λ e i. refl))

-- of the numbers below n only x counts
pub sum_at : (x : ℕ) (f : ℕ → ℕ) (n : ℕ) → sum (λ y. pick (eqb x y) (f y) 0) (range n) ≡ pick (ltb x n) (f x) 0
unfolding range
sum_at x f zero = rw (le-ltb x 0 (omega arith))
sum_at x f (suc n) = sum_snoc (λ y. pick (eqb x y) (f y) 0) (range n) n ∙ rw (sum_at x f n) (⊎_elim (λ h. past h (ℕ_discrete x n)) (λ h. rw (lt-ltb x n h, ne_eqb x n (λ q. omega arith), lt-ltb x (suc n) (omega arith)) (omega arith)) (split n x))
  where
    past : n ≤ x → Dec (x ≡ n) → pick (ltb x n) (f x) 0 + pick (eqb x n) (f n) 0 ≡ pick (ltb x (suc n)) (f x) 0
    past h (yes q) = rw (le-ltb x n h, eq-eqb x n q, lt-ltb x (suc n) (omega arith)) (omega (arith, ap f q))
    past h (no q) = rw (le-ltb x n h, ne_eqb x n q, le-ltb x (suc n) (omega arith))
