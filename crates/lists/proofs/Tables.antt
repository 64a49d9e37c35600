-- Tables that are filled from the front, entry by entry or row by row. Assumes nothing.
use mathlib.Core.Path.{◌≡◌, refl, sym, ap, ◌∙◌, subst}
use mathlib.Core.Logic.{⊎_elim}
use mathlib.Core.List.{List, [], ◌∷◌, ◌++◌, map, map-append}
use Prim.Native.Nat.{ℕ, zero, suc, ◌+◌, ◌*◌, ◌<◌, ◌≤◌}
use native.Mathlib.Nat.{eq-or-lt_of_le, le_of_suc-le-suc, not-suc-le-zero, suc-mul, zero-mul, mul-le-mul_right}
use native.Mathlib.Numerals.{add-one}
use native.Mathlib.Omega.{arith}
use native.Mathlib.Decide.{le_ind}
use lib.ListN.{length, get_or, set, take, drop, length-append, length-set, get_or-append}
use lib.Seq.{take_all, take-append-le, drop-cons, set_at, set-set, set_comm, append_snoc, get_or_at, get_or-append-add, get_or-set_same, get_or-set_other}
use lib.Dec.{eqb}
use borrow.Author.Tests.{eq-eqb, ne_eqb}
use Rattle.lists.specs.Lists.{pick, tabulate, stack, overwrite, range}

pub length-tabulate : {A : Type 0} (f : ℕ → A) (n : ℕ) → length (tabulate f n) ≡ n
unfolding tabulate
length-tabulate f zero = refl
length-tabulate f (suc n) = rw (length-append, length-tabulate f n) (add-one n)

pub get_or-tabulate : {A : Type 0} (f : ℕ → A) (n i : ℕ) (d : A) → i < n → get_or (tabulate f n) i d ≡ f i
unfolding tabulate
get_or-tabulate f zero i d h = absurd (not-suc-le-zero h)
get_or-tabulate f (suc n) i d h =
    ⊎_elim
    (λ e. get_or_at (tabulate f n) (f n) [] d i (length-tabulate f n ∙ sym e) ∙ ap f (sym e))
    (λ l. get_or-append (tabulate f n) (f n ∷ []) d i (rw length-tabulate l) ∙ get_or-tabulate f n i d l)
    (eq-or-lt_of_le (le_of_suc-le-suc h))

pub tabulate_cong : {A : Type 0} (f g : ℕ → A) (n : ℕ) → ((x : ℕ) → x < n → f x ≡ g x) → tabulate f n ≡ tabulate g n
unfolding tabulate
tabulate_cong f g zero h = refl
tabulate_cong f g (suc n) h = rw (tabulate_cong f g n (λ x l. h x (omega arith)), h n (omega arith))

pub map-tabulate : {A B : Type 0} (g : A → B) (f : ℕ → A) (n : ℕ) → map g (tabulate f n) ≡ tabulate (λ x. g (f x)) n
unfolding tabulate
map-tabulate g f zero = refl
map-tabulate g f (suc n) = rw (map-append, map-tabulate g f n)

-- one entry more: what is stored at i is the table's entry there
pub tabulate-more : {A : Type 0} (f : ℕ → A) (d : List A) (i : ℕ) (v z : A) → i < length d → v ≡ f i → set (tabulate f i ++ drop i d) i v ≡ tabulate f (i + 1) ++ drop (i + 1) d
unfolding tabulate
tabulate-more {A} f d i v z h e =
    ap (λ (r : List A). set (tabulate f i ++ r) i v) (drop-cons d i z h)
    ∙ set_at (tabulate f i) (get_or d i z) (drop (suc i) d) v i (length-tabulate f i)
    ∙ rw (e, add-one) (sym (append_snoc (tabulate f i) (f i) (drop (suc i) d)))

pub length-range : (n : ℕ) → length (range n) ≡ n
unfolding range
length-range zero = refl
length-range (suc n) = rw (length-append, length-range n) (add-one n)

-- the first numbers of a range are a shorter range
pub take_range : (n m : ℕ) → n ≤ m → take n (range m) ≡ range n
unfolding range
take_range n m le =
    le_ind (λ m. take n (range m) ≡ range n) (take_all n (range n) (omega (arith, length-range n)))
    (λ m le ih. take-append-le n (range m) (m ∷ []) (omega (arith, length-range m)) ∙ ih) m le

pub get_or-range : (n i : ℕ) → i < n → get_or (range n) i 0 ≡ i
unfolding range
get_or-range zero i h = absurd (not-suc-le-zero h)
get_or-range (suc n) i h =
    ⊎_elim
    (λ e. get_or_at (range n) n [] 0 i (length-range n ∙ sym e) ∙ sym e)
    (λ l. get_or-append (range n) (n ∷ []) 0 i (rw length-range l) ∙ get_or-range n i l)
    (eq-or-lt_of_le (le_of_suc-le-suc h))

-- ---- rows of one width

module _ {A : Type 0} (f : ℕ → List A) (w : ℕ) (wide : (r : ℕ) → length (f r) ≡ w) where
  pub length_stack : (n : ℕ) → length (stack f n) ≡ n * w
  unfolding stack
  length_stack zero = sym (zero-mul w)
  length_stack (suc n) = rw (length-append, length_stack n, wide n, suc-mul)

  -- what stands in row r, x places on
  pub get_or-stack : (n r x : ℕ) (d : A) → r < n → x < w → get_or (stack f n) (r * w + x) d ≡ get_or (f r) x d
  unfolding stack
  get_or-stack zero r x d h k = absurd (not-suc-le-zero h)
  get_or-stack (suc n) r x d h k =
      ⊎_elim
      (λ e. rw e (ap (λ (i : ℕ). get_or (stack f n ++ f n) (i + x) d) (sym (length_stack n)) ∙ get_or-append-add (stack f n) (f n) x d))
      (λ l. get_or-append (stack f n) (f n) d (r * w + x) (before l) ∙ get_or-stack n r x d l k)
      (eq-or-lt_of_le (le_of_suc-le-suc h))
    where
      before : r < n → r * w + x < length (stack f n)
      before l = let a : suc r * w ≤ n * w = mul-le-mul_right w l in omega (arith, suc-mul r w, length_stack n)

-- ---- entries written over others

module _ {A : Type 0} (l : List A) (p : ℕ → ℕ) (f : ℕ → A) where
  pub length_overwrite : (n : ℕ) → length (overwrite l p f n) ≡ length l
  unfolding overwrite
  length_overwrite zero = refl
  length_overwrite (suc n) = length-set (overwrite l p f n) (p n) (f n) ∙ length_overwrite n

  -- at different places, all of them in the list
  pub overwrite_at : ((u v : ℕ) → p u ≡ p v → u ≡ v) → (n u : ℕ) (d : A) → u < n → ((v : ℕ) → v < n → p v < length l) → get_or (overwrite l p f n) (p u) d ≡ f u
  unfolding overwrite
  overwrite_at apart zero u d h w = absurd (not-suc-le-zero h)
  overwrite_at apart (suc n) u d h w =
      ⊎_elim
      (λ e. rw e (get_or-set_same (overwrite l p f n) (p n) (f n) d (rw (length_overwrite n) (w n (omega arith)))))
      (λ k. get_or-set_other (overwrite l p f n) (p n) (p u) (f n) d (λ q. omega (arith, apart u n q)) ∙ overwrite_at apart n u d k (λ v b. w v (omega arith)))
      (eq-or-lt_of_le (le_of_suc-le-suc h))

  pub overwrite_beside : (n j : ℕ) (d : A) → ((u : ℕ) → u < n → j ≡ p u → ⊥) → get_or (overwrite l p f n) j d ≡ get_or l j d
  unfolding overwrite
  overwrite_beside zero j d h = refl
  overwrite_beside (suc n) j d h = get_or-set_other (overwrite l p f n) (p n) j (f n) d (h n (omega arith)) ∙ overwrite_beside n j d (λ u k. h u (omega arith))

  -- one entry more
  pub overwrite_more : (n : ℕ) (v : A) → v ≡ f n → set (overwrite l p f n) (p n) v ≡ overwrite l p f (n + 1)
  unfolding overwrite
  overwrite_more n v q = rw (add-one n, q)

pub overwrite_cong : {A : Type 0} (l : List A) (p : ℕ → ℕ) (f g : ℕ → A) (n : ℕ) → ((x : ℕ) → x < n → f x ≡ g x) → overwrite l p f n ≡ overwrite l p g n
unfolding overwrite
overwrite_cong l p f g zero h = refl
overwrite_cong l p f g (suc n) h = rw (overwrite_cong l p f g n (λ x k. h x (omega arith)), h n (omega arith))

-- another entry at one of the places
pub overwrite-set : {A : Type 0} (l : List A) (p : ℕ → ℕ) (f : ℕ → A) → ((u v : ℕ) → p u ≡ p v → u ≡ v) → (n k : ℕ) (x : A) → k < n
    → set (overwrite l p f n) (p k) x ≡ overwrite l p (λ i. pick (eqb i k) x (f i)) n
unfolding overwrite
overwrite-set l p f apart zero k x h = absurd (not-suc-le-zero h)
overwrite-set {A} l p f apart (suc n) k x h =
    ⊎_elim
    (λ e. subst (λ (m : ℕ). set (overwrite l p f (suc n)) (p m) x ≡ overwrite l p (λ i. pick (eqb i m) x (f i)) (suc n)) (sym e) here)
    (λ b. rw (ne_eqb n k (λ q. omega arith)) (set_comm (overwrite l p f n) (p n) (p k) (f n) x (λ q. omega (arith, apart n k q)) ∙ ap (λ (r : List A). set r (p n) (f n)) (overwrite-set l p f apart n k x b)))
    (eq-or-lt_of_le (le_of_suc-le-suc h))
  where
    here : set (overwrite l p f (suc n)) (p n) x ≡ overwrite l p (λ i. pick (eqb i n) x (f i)) (suc n)
    here = rw (eq-eqb n n refl) (set-set (overwrite l p f n) (p n) (f n) x ∙ ap (λ (r : List A). set r (p n) x) (overwrite_cong l p f (λ i. pick (eqb i n) x (f i)) n (λ i b. rw (ne_eqb i n (λ q. omega arith)))))
