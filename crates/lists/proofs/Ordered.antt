-- Lists whose elements stand in an order, and the numbers below n as such a list. Assumes nothing.
use mathlib.Core.Path.{◌≡◌, refl, sym, ap₂, ◌∙◌, subst}
use mathlib.Core.Logic.{◌⊎◌, inl, inr, ◌↔◌, ◌≢◌, ⊎_elim}
use mathlib.Core.List.{List, [], ◌∷◌, ◌++◌, map}
use mathlib.Core.List.Memᴰ
use mathlib.Core.List.Memᴰ.{append_cases as in-append}
use mathlib.Core.List.Memᴰ.{append_left as in_left}
use mathlib.Core.List.Memᴰ.{append_right as in_right}
use mathlib.Core.List.Memᴰ.{head as here}
use mathlib.Core.List.Memᴰ.{tail as there}
use mathlib.Core.List.{Memᴰ as In}
use Prim.Native.Nat.{ℕ, zero, suc, ◌<◌}
use native.Mathlib.Omega.{arith}
use native.Mathlib.Nat.{eq-or-lt_of_le, le_of_suc-le-suc}
use lib.ListN.{length, get_or}
use borrow.Author.Tests.{eq-eqb, ne_eqb}
use Rattle.lists.specs.Lists.{concat_map, range, index_of, Pairwise, none, more}
use Rattle.lists.proofs.Members.{in_map, in_concat_map, get_or-in}

pub pairwise_append : {A : Type 0} {R : A → A → Type 0} {s t : List A} → Pairwise R s → Pairwise R t → ((a b : A) → In a s → In b t → R a b) → Pairwise R (s ++ t)
pairwise_append none q h = q
pairwise_append {R = R} {t} (more {a = x} {l = s} f p) q h =
    more (λ b i. ⊎_elim (f b) (h x b (here refl)) (in-append s i)) (pairwise_append p q (λ a b i j. h a b (there i) j))

pub pairwise_map : {A B : Type 0} {R : A → A → Type 0} {S : B → B → Type 0} (f : A → B) {l : List A} → ((a b : A) → R a b → S (f a) (f b)) → Pairwise R l → Pairwise S (map f l)
pairwise_map f h none = none
pairwise_map {S = S} f h (more {a = x} {l = l} g p) =
    more (λ b i. let (a, j, q) = in_map f l i in subst (S (f x)) (sym q) (h x a (g a j))) (pairwise_map f h p)

pub pairwise_concat_map : {A : Type 0} {R : ℕ → ℕ → Type 0} {S : A → A → Type 0} (f : ℕ → List A) {l : List ℕ} → ((e : ℕ) → Pairwise S (f e))
    → ((d e : ℕ) (a b : A) → R d e → In a (f d) → In b (f e) → S a b) → Pairwise R l → Pairwise S (concat_map f l)
pairwise_concat_map f p h none = none
pairwise_concat_map f p h (more {a = x} {l = l} g r) =
    pairwise_append (p x) (pairwise_concat_map f p h r) (λ a b i j. let (e, k, m) = in_concat_map f l j in h x e a b (g e k) i m)

pub pairwise_at : {A : Type 0} {R : A → A → Type 0} {l : List A} (d : A) (i j : ℕ) → Pairwise R l → i < j → j < length l → R (get_or l i d) (get_or l j d)
pairwise_at d i j none lt h = absurd (omega arith)
pairwise_at d i zero (more f p) lt h = absurd (omega arith)
pairwise_at d zero (suc j) (more {l = l} f p) lt h = f (get_or l j d) (get_or-in l j d (omega arith))
pairwise_at d (suc i) (suc j) (more f p) lt h = pairwise_at d i j p (omega arith) (omega arith)

pub pairwise_imp : {A : Type 0} {R S : A → A → Type 0} {l : List A} → ((a b : A) → In a l → In b l → R a b → S a b) → Pairwise R l → Pairwise S l
pairwise_imp h none = none
pairwise_imp h (more {a = x} f p) = more (λ b i. h x b (here refl) (there i) (f b i)) (pairwise_imp (λ a b i j. h a b (there i) (there j)) p)

pub range_in : (n e : ℕ) → In e (range n) ↔ (e < n)
unfolding range
range_in zero e = (λ h. absurd (Memᴰ.not-nil h), λ h. absurd (omega arith))
range_in (suc n) e = (λ h. ⊎_elim (λ i. le ((range_in n e).0 i)) (λ i. eq (Memᴰ.eq_of_singleton i)) (in-append (range n) h), λ h. go (range_in n e) (eq-or-lt_of_le (le_of_suc-le-suc h)))
  where
    le : e < n → e < suc n
    le h = omega arith

    eq : e ≡ n → e < suc n
    eq h = omega arith

    go : In e (range n) ↔ (e < n) → (e ≡ n) ⊎ (e < n) → In e (range n ++ n ∷ [])
    go ih (inl q) = in_right (range n) (here q)
    go ih (inr h) = in_left (n ∷ []) (ih.1 h)

pub range-ordered : (n : ℕ) → Pairwise ◌<◌ (range n)
unfolding range
range-ordered zero = none
range-ordered (suc n) =
    pairwise_append (range-ordered n) (more (λ b i. absurd (Memᴰ.not-nil i)) none) (λ a b i j. less a b ((range_in n a).0 i) (Memᴰ.eq_of_singleton j))
  where
    less : (a b : ℕ) → a < n → b ≡ n → a < b
    less a b h q = omega arith

pub index_of-ordered : {l : List ℕ} → Pairwise ◌≢◌ l → Pairwise (λ a b. index_of l a < index_of l b) l
unfolding index_of
index_of-ordered none = none
index_of-ordered (more {a = d} {l = l} f p) = more head (pairwise_imp later (index_of-ordered p))
  where
    head : (b : ℕ) → In b l → index_of (d ∷ l) d < index_of (d ∷ l) b
    head b i = rw (eq-eqb d d refl, ne_eqb d b (f b i)) (omega arith)

    later : (a b : ℕ) → In a l → In b l → index_of l a < index_of l b → index_of (d ∷ l) a < index_of (d ∷ l) b
    later a b i j h = rw (ne_eqb d a (f a i), ne_eqb d b (f b j)) (omega arith)

-- ---- a list in a strict order is determined by its members

module _ {A : Type 0} {R : A → A → Type 0} (asymmetric : (a b : A) → R a b → R b a → ⊥) where
  irreflexive : (a b : A) → R a b → a ≡ b → ⊥
  irreflexive a b r q = asymmetric a b r (subst (λ c. R c a) q (subst (R a) (sym q) r))

  -- the first members are equal, as each is the other or comes before it
  same_first : (a b : A) (l m : List A) → ((c : A) → In c l → R a c) → ((c : A) → In c m → R b c) → In a (b ∷ m) → In b (a ∷ l) → a ≡ b
  same_first a b l m f g (here q) j = q
  same_first a b l m f g (there i) (here q) = sym q
  same_first a b l m f g (there i) (there j) = absurd (asymmetric a b (f b j) (g a i))

  -- what is in the rest is in the other's rest
  in_rest : (a b : A) (l m : List A) → a ≡ b → ((c : A) → In c l → R a c) → ((c : A) → In c (a ∷ l) → In c (b ∷ m)) → (c : A) → In c l → In c m
  in_rest a b l m q f h c i = step (h c (there i))
    where
      step : In c (b ∷ m) → In c m
      step (here p) = absurd (irreflexive a c (f c i) (q ∙ sym p))
      step (there j) = j

  pub same_ordered : {l m : List A} → Pairwise R l → Pairwise R m → ((a : A) → In a l → In a m) → ((a : A) → In a m → In a l) → l ≡ m
  same_ordered none none f g = refl
  same_ordered none (more {a = b} q s) f g = absurd (Memᴰ.not-nil (g b (here refl)))
  same_ordered (more {a = a} p r) none f g = absurd (Memᴰ.not-nil (f a (here refl)))
  same_ordered (more {a = a} {l = l} p r) (more {a = b} {l = m} q s) f g =
      let e : a ≡ b = same_first a b l m p q (f a (here refl)) (g b (here refl)) in
      ap₂ ◌∷◌ e (same_ordered r s (in_rest a b l m e p f) (in_rest b a m l (sym e) q g))
