-- Membership in lists that are mapped, joined, parted and tested. Assumes nothing.
use mathlib.Core.Path.{◌≡◌, refl, sym, ap, ap₂, ◌∙◌, subst}
use mathlib.Core.Logic.{◌⊎◌, inl, inr, ◌↔◌}
use mathlib.Core.Bool.{Bool, true, ◌||◌, or-false, or_assoc}
use mathlib.Core.List.{List, [], ◌∷◌, ◌++◌, map}
use mathlib.Core.List.Memᴰ.{append_cases as in-append}
use mathlib.Core.List.Memᴰ.{append_left as in_left}
use mathlib.Core.List.Memᴰ.{append_right as in_right}
use mathlib.Core.List.Memᴰ.{head as here}
use mathlib.Core.List.Memᴰ.{tail as there}
use mathlib.Core.List.{Memᴰ as In}
use Prim.Native.Nat.{ℕ, zero, suc, ◌+◌, ◌≤◌, ◌<◌}
use native.Mathlib.Omega.{arith}
use lib.ListN.{length, get_or, take, drop, length-append, take-append-drop}
use Rattle.lists.specs.Lists.{any, sum, concat_map}
use Rattle.lists.proofs.Tests.{contra, or_cases, or_right, bool_ext}

pub any_some : {A : Type 0} (f : A → Bool) (l : List A) → any f l ≡ true → (e : A) × In e l × (f e ≡ true)
any_some f [] h = contra h refl
any_some {A} f (x ∷ l) h = go (any_some f l) (or_cases (f x) (any f l) h)
  where
    go : (any f l ≡ true → (e : A) × In e l × (f e ≡ true)) → (f x ≡ true) ⊎ (any f l ≡ true) → (e : A) × In e (x ∷ l) × (f e ≡ true)
    go ih (inl p) = (x, here refl, p)
    go ih (inr p) = ((ih p).0, there (ih p).1, (ih p).2)

pub any_in : {A : Type 0} (f : A → Bool) {e : A} {l : List A} → In e l → f e ≡ true → any f l ≡ true
any_in f (here q) p = cc
any_in f (there {x = x} h) p = or_right (f x) (any_in f h p)

-- one element more
pub any_snoc : {A : Type 0} (f : A → Bool) (l : List A) (x : A) → any f (l ++ (x ∷ [])) ≡ (any f l || f x)
any_snoc f [] x = or-false (f x)
any_snoc f (y ∷ l) x = ap (λ b. f y || b) (any_snoc f l x) ∙ sym (or_assoc (f y) (any f l) (f x))

-- tests that say the same of every element
pub any_alike : {A : Type 0} (f g : A → Bool) (l : List A) → ((x : A) → In x l → f x ≡ g x) → any f l ≡ any g l
any_alike f g [] same = refl
any_alike f g (x ∷ l) same = ap₂ ◌||◌ (same x (here refl)) (any_alike f g l (λ y i. same y (there i)))

-- lists with the same members pass the same tests
pub any_same : (f : ℕ → Bool) (l m : List ℕ) → ((e : ℕ) → In e l ↔ In e m) → any f l ≡ any f m
any_same f l m same =
    bool_ext (any f l) (any f m)
    (λ q. let (e, i, p) = any_some f l q in any_in f ((same e).0 i) p)
    (λ q. let (e, i, p) = any_some f m q in any_in f ((same e).1 i) p)

pub in_map : {A B : Type 0} (f : A → B) {b : B} (l : List A) → In b (map f l) → (a : A) × In a l × (b ≡ f a)
in_map {A = A} {B = B} f {b = b} [] x' = elim x' [ ]
in_map f (x ∷ l) (here q) = (x, here refl, q)
in_map f (x ∷ l) (there h) = let (a, i, q) = in_map f l h in (a, there i, q)

pub in_concat_map : {A : Type 0} (f : ℕ → List A) {a : A} (l : List ℕ) → In a (concat_map f l) → (e : ℕ) × In e l × In a (f e)
in_concat_map {A = A} f {a = a} [] h = elim h [ ]
in_concat_map f {a} (x ∷ l) h = go (in_concat_map f l) (in-append (f x) h)
  where
    go : (In a (concat_map f l) → (e : ℕ) × In e l × In a (f e)) → In a (f x) ⊎ In a (concat_map f l) → (e : ℕ) × In e (x ∷ l) × In a (f e)
    go ih (inl h) = (x, here refl, h)
    go ih (inr h) = let (e, i, k) = ih h in (e, there i, k)

pub concat_map_in : {A : Type 0} (f : ℕ → List A) {a : A} {e : ℕ} {l : List ℕ} → In e l → In a (f e) → In a (concat_map f l)
concat_map_in f (here {xs = l} q) k = in_left (concat_map f l) (rw q at k)
concat_map_in f (there {x = x} h) k = in_right (f x) (concat_map_in f h k)

pub get_or-in : {A : Type 0} (l : List A) (i : ℕ) (d : A) → i < length l → In (get_or l i d) l
get_or-in [] i d h = absurd (omega arith)
get_or-in (x ∷ l) zero d h = here refl
get_or-in (x ∷ l) (suc i) d h = there (get_or-in l i d (omega arith))

pub length-concat_map : {A : Type 0} (f : ℕ → List A) (l : List ℕ) → length (concat_map f l) ≡ sum (λ e. length (f e)) l
length-concat_map f [] = refl
length-concat_map f (x ∷ l) = length-append (f x) (concat_map f l) ∙ ap (λ n. length (f x) + n) (length-concat_map f l)

pub get_or-map_lt : {A B : Type 0} (f : A → B) (l : List A) (i : ℕ) (a : A) (b : B) → i < length l → get_or (map f l) i b ≡ f (get_or l i a)
get_or-map_lt f [] i a b h = absurd (omega arith)
get_or-map_lt f (x ∷ l) zero a b h = refl
get_or-map_lt f (x ∷ l) (suc i) a b h = get_or-map_lt f l i a b (omega arith)

pub sum_in : (c : ℕ → ℕ) {e : ℕ} {l : List ℕ} → In e l → c e ≤ sum c l
sum_in c (here q) = omega (arith, ap c q)
sum_in c (there h) = omega (arith, sum_in c h)

pub in_take : {A : Type 0} (n : ℕ) (l : List A) {a : A} → In a (take n l) → In a l
in_take n l {a} i = subst (In a) (take-append-drop n l) (in_left (drop n l) i)

pub in_drop : {A : Type 0} (n : ℕ) (l : List A) {a : A} → In a (drop n l) → In a l
in_drop n l {a} i = subst (In a) (take-append-drop n l) (in_right (take n l) i)
