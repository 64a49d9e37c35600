-- Lists, tests and sums: the vocabulary of every other specification.
--   pick b x y      == x where the test b holds, else y
--   Pairwise R l    == every earlier element of l is in R to every later one
--   Sample n l      == l has different numbers below n, in any order
--   Permutation n l == l has every number below n once, and nothing else
--   any f l         == some element of l passes the test f
--   filter f l      == the elements of l that pass the test f, in their order
--   sum c l         == the sum of c over l
--   concat_map f l   == the lists f x for the x of l, one after the other
--   count f n       == how many of the numbers below n pass the test f
--   tabulate f n    == f 0, f 1, … f (n−1)
--   stack f n       == the lists f 0, f 1, … f (n−1), one after the other
--   overwrite l p f n == l with f 0, f 1, … f (n−1) at the places p 0, p 1, … p (n−1)
--   range n         == the numbers below n, in order
--   index_of l x     == where x first stands in l, from 0
--   first_of f l     == what f finds in the first element of l in which it finds something
--   is_some o        == something was found
-- Membership `In` is the library's `Memᴰ`. Assumes nothing.
use Rattle.std.specs.Prelude.{◌↔◌, ◌≢◌, Bool, true, false, ◌||◌, ℕ, zero, suc, ◌+◌, ◌<◌, set, eqb}
use mathlib.Core.List.{List, [], ◌∷◌, ◌++◌, Memᴰ as In}
use Rattle.std.proofs.Math.Option.{Option, none as nothing, some, or_else}

abbrev pub pick {ℓ} : {A : Type ℓ} → Bool → A → A → A
pick true a b = a
pick false a b = b

pub data Pairwise {A : Type 0} (R : A → A → Type 0) : List A → Type 0 where
  none : Pairwise R []
  more : {a : A} {l : List A} → ((b : A) → In b l → R a b) → Pairwise R l → Pairwise R (a ∷ l)

pub record Sample (n : ℕ) (l : List ℕ) : Type 0 where
  pub once : Pairwise ◌≢◌ l
  pub below : (e : ℕ) → In e l → e < n

pub record Permutation (n : ℕ) (l : List ℕ) : Type 0 where
  pub once : Pairwise ◌≢◌ l
  pub just : (e : ℕ) → In e l ↔ (e < n)

abbrev pub any : {A : Type 0} → (A → Bool) → List A → Bool
any f [] = false
any f (x ∷ l) = f x || any f l

abbrev pub filter : (ℕ → Bool) → List ℕ → List ℕ
filter f [] = []
filter f (x ∷ l) = pick (f x) (x ∷ filter f l) (filter f l)

abbrev pub sum : (ℕ → ℕ) → List ℕ → ℕ
sum c [] = 0
sum c (x ∷ l) = c x + sum c l

abbrev pub concat_map : {A : Type 0} → (ℕ → List A) → List ℕ → List A
concat_map f [] = []
concat_map f (x ∷ l) = f x ++ concat_map f l

abbrev pub count : (ℕ → Bool) → ℕ → ℕ
count f zero = 0
count f (suc n) = pick (f n) 1 0 + count f n

unfoldable pub tabulate : {A : Type 0} → (ℕ → A) → ℕ → List A
tabulate f zero = []
tabulate f (suc n) = tabulate f n ++ f n ∷ []

unfoldable pub stack : {A : Type 0} → (ℕ → List A) → ℕ → List A
stack f zero = []
stack f (suc n) = stack f n ++ f n

unfoldable pub overwrite : {A : Type 0} → List A → (ℕ → ℕ) → (ℕ → A) → ℕ → List A
overwrite l p f zero = l
overwrite l p f (suc n) = set (overwrite l p f n) (p n) (f n)

unfoldable pub range : ℕ → List ℕ
range zero = []
range (suc n) = range n ++ n ∷ []

unfoldable pub index_of : List ℕ → ℕ → ℕ
index_of [] e = 0
index_of (d ∷ l) e = pick (eqb d e) 0 (suc (index_of l e))

unfoldable pub first_of : {A B : Type 0} → (A → Option B) → List A → Option B
first_of f [] = nothing
first_of f (x ∷ l) = or_else (f x) (first_of f l)

abbrev pub is_some : {A : Type 0} → Option A → Bool
is_some nothing = false
is_some (some a) = true
