-- Decimal digits: a number below ten is one digit, any other the digits of its tenth part and one more.
--   value-decimal     == read back they give the number
--   decimal_digit     == each is a digit
--   decimal_lead      == the first is a zero only of 0
--   decimal-value     == digits that do not begin with a zero are those of their value: there is no other way to write it
--   decimal-short     == a number below 10 ^ k has at most k of them
--   decimal-long      == a number from 10 ^ k on has more than k of them
-- Assumes nothing.
use mathlib.Core.Path.{◌≡◌, refl, sym, ◌∙◌}
use mathlib.Core.Logic.{⊎_elim, ◌≢◌}
use mathlib.Core.List.{List, [], ◌∷◌, ◌++◌, append-nil}
use mathlib.Core.List.Memᴰ.{append_cases as in-append}
use mathlib.Core.List.Memᴰ.{eq_of_singleton as in_one}
use mathlib.Core.List.Memᴰ.{head as here}
use mathlib.Core.List.Memᴰ.{tail as there}
use mathlib.Core.List.{Memᴰ as In}
use Prim.Native.Nat.{ℕ, zero, suc, ◌+◌, ◌-◌, ◌*◌, ◌/◌, ◌%◌, ◌^◌, ◌≤◌, ◌<◌}
use native.Mathlib.Nat.{eq-or-lt_of_le, pow-suc, div-lt_iff_lt-mul}
use native.Mathlib.Numerals.{add-one}
use native.Mathlib.Omega.{arith}
use lib.ListN.{length, get_or, length-append, get_or-append}
use lib.Seq.{append_snoc}
use borrow.Author.Tests.{lt-ltb, le-ltb}
use Rattle.lists.proofs.Tests.{split}
use Rattle.lists.specs.Decimal.{digits, decimal, value, value_from, Digit}

pub tenth : (n : ℕ) → 10 ≤ n → n / 10 < n
tenth n h = omega arith

-- steps enough are as good as any other
enough : (f g n : ℕ) → n < f → n < g → digits f n ≡ digits g n
unfolding digits
enough zero g n p q = absurd (omega arith)
enough (suc f) zero n p q = absurd (omega arith)
enough (suc f) (suc g) n p q = ⊎_elim (more (enough f g (n / 10))) (λ h. rw (lt-ltb n 10 h)) (split 10 n)
  where
    more : (n / 10 < f → n / 10 < g → digits f (n / 10) ≡ digits g (n / 10)) → 10 ≤ n → digits (suc f) n ≡ digits (suc g) n
    more ih h = let t = tenth n h in rw (le-ltb n 10 h, ih (omega arith) (omega arith))

pub decimal-one : (n : ℕ) → n < 10 → decimal n ≡ (48 + n) ∷ []
unfolding decimal digits
decimal-one n h = rw (lt-ltb n 10 h)

pub decimal-more : (n : ℕ) → 10 ≤ n → decimal n ≡ decimal (n / 10) ++ (48 + n % 10) ∷ []
unfolding decimal digits
decimal-more n h =
    let t = tenth n h in
    rw (le-ltb n 10 h, enough n (suc (n / 10)) (n / 10) t (omega arith))

-- what holds of the numbers below ten, and of any other if of its tenth part, holds of all
by_tenths : (P : ℕ → Type 0) → ((n : ℕ) → n < 10 → P n) → ((n : ℕ) → 10 ≤ n → P (n / 10) → P n) → (n : ℕ) → P n
by_tenths P one more n = go (suc n) n (omega arith)
  where
    go : (f n : ℕ) → n < f → P n
    go zero n h = absurd (omega arith)
    go (suc f) n h = ⊎_elim (λ l. more n l (go f (n / 10) (let t = tenth n l in omega arith))) (one n) (split 10 n)

pub length_more : (n : ℕ) → 10 ≤ n → length (decimal n) ≡ suc (length (decimal (n / 10)))
length_more n h = rw (decimal-more n h, length-append) (add-one (length (decimal (n / 10))))

-- ---- reading back

value_from-append : (m : ℕ) (s t : List ℕ) → value_from m (s ++ t) ≡ value_from (value_from m s) t
unfolding value_from
value_from-append m [] t = refl
value_from-append m (b ∷ s) t = value_from-append (10 * m + (b - 48)) s t

pub value-decimal : (n : ℕ) → value (decimal n) ≡ n
unfolding value value_from
value-decimal = by_tenths (λ n. value (decimal n) ≡ n)
    (λ n h. rw (decimal-one n h) (omega arith))
    (λ n h ih. rw (decimal-more n h, value_from-append, ih) (omega arith))

-- ---- the digits

pub decimal_digit : (n b : ℕ) → In b (decimal n) → Digit b
decimal_digit n b = by_tenths (λ n. In b (decimal n) → Digit b) one more n
  where
    one : (n : ℕ) → n < 10 → In b (decimal n) → Digit b
    one n h i = let q : b ≡ 48 + n = in_one (rw (decimal-one n h) at i) in (omega arith, omega arith)

    more : (n : ℕ) → 10 ≤ n → (In b (decimal (n / 10)) → Digit b) → In b (decimal n) → Digit b
    more n h ih i = ⊎_elim ih (λ j. last (in_one j)) (in-append (decimal (n / 10)) (rw (decimal-more n h) at i))
      where
        last : b ≡ 48 + n % 10 → Digit b
        last q = (omega arith, omega arith)

pub decimal-some : (n : ℕ) → 1 ≤ length (decimal n)
decimal-some n = ⊎_elim (λ h. omega (arith, length_more n h)) (λ h. rw (decimal-one n h) (omega arith)) (split 10 n)

pub decimal_lead : (n : ℕ) → get_or (decimal n) 0 48 ≡ 48 → n ≡ 0
decimal_lead = by_tenths (λ n. get_or (decimal n) 0 48 ≡ 48 → n ≡ 0) one more
  where
    one : (n : ℕ) → n < 10 → get_or (decimal n) 0 48 ≡ 48 → n ≡ 0
    one n h q = let z : 48 + n ≡ 48 = rw (decimal-one n h) at q in omega arith

    more : (n : ℕ) → 10 ≤ n → (get_or (decimal (n / 10)) 0 48 ≡ 48 → n / 10 ≡ 0) → get_or (decimal n) 0 48 ≡ 48 → n ≡ 0
    more n h ih q =
        let first : get_or (decimal n) 0 48 ≡ get_or (decimal (n / 10)) 0 48 = rw (decimal-more n h) (get_or-append (decimal (n / 10)) ((48 + n % 10) ∷ []) 48 0 (decimal-some (n / 10))) in
        let z : n / 10 ≡ 0 = ih (sym first ∙ q) in
        omega arith

-- ---- the only way to write it

-- digits after those of a number other than 0
follow : (m : ℕ) (bs : List ℕ) → 0 < m → ((b : ℕ) → In b bs → Digit b) → decimal (value_from m bs) ≡ decimal m ++ bs
unfolding value_from
follow m [] p w = sym (append-nil (decimal m))
follow m (b ∷ bs) p w =
    let (low, high) = w b (here refl) in
    let next : decimal (10 * m + (b - 48)) ≡ decimal m ++ b ∷ [] = more low high in
    follow (10 * m + (b - 48)) bs (omega arith) (λ x i. w x (there i)) ∙ rw (next, append_snoc)
  where
    more : 48 ≤ b → b ≤ 57 → decimal (10 * m + (b - 48)) ≡ decimal m ++ b ∷ []
    more low high =
        let n = 10 * m + (b - 48) in
        let up : n / 10 ≡ m = omega arith in
        let last : 48 + n % 10 ≡ b = omega arith in
        rw (decimal-more n (omega arith), up, last)

-- digits that do not begin with a zero are those of their value
pub decimal-value : (b : ℕ) (bs : List ℕ) → b ≢ 48 → ((x : ℕ) → In x (b ∷ bs) → Digit x) → decimal (value (b ∷ bs)) ≡ b ∷ bs
unfolding value value_from
decimal-value b bs z w =
    let (low, high) = w b (here refl) in
    let one : decimal (10 * 0 + (b - 48)) ≡ b ∷ [] = first low high in
    follow (10 * 0 + (b - 48)) bs (positive low) (λ x i. w x (there i)) ∙ rw one
  where
    positive : 48 ≤ b → 0 < 10 * 0 + (b - 48)
    positive low = ⊎_elim (λ e. absurd (z (sym e))) (λ l. omega arith) (eq-or-lt_of_le low)

    first : 48 ≤ b → b ≤ 57 → decimal (10 * 0 + (b - 48)) ≡ b ∷ []
    first low high = let q : 48 + (10 * 0 + (b - 48)) ≡ b = omega arith in decimal-one (10 * 0 + (b - 48)) (omega arith) ∙ rw q

-- ---- how many

pub decimal-short : (k n : ℕ) → n < 10 ^ k → 1 ≤ k → length (decimal n) ≤ k
decimal-short zero n h l = absurd (omega arith)
decimal-short (suc k) n h l = ⊎_elim (more k h (decimal-short k (n / 10))) (λ s. rw (decimal-one n s) (omega arith)) (split 10 n)
  where
    more : (k : ℕ) → n < 10 ^ suc k → (n / 10 < 10 ^ k → 1 ≤ k → length (decimal (n / 10)) ≤ k) → 10 ≤ n → length (decimal n) ≤ suc k
    more zero b ih s = absurd (omega arith)
    more (suc k) b ih s =
        let t : n / 10 < 10 ^ suc k = (div-lt_iff_lt-mul {k = 10} {x = n} {y = 10 ^ suc k} (omega arith)).1 (rw pow-suc at b) in
        rw (length_more n s) (omega (arith, ih t (omega arith)))

pow_some : (k : ℕ) → 1 ≤ 10 ^ k
pow_some zero = omega arith
pow_some (suc k) = rw pow-suc (omega (arith, pow_some k))

pub decimal-long : (k n : ℕ) → 10 ^ k ≤ n → k < length (decimal n)
decimal-long zero n h = omega (arith, decimal-some n)
decimal-long (suc k) n h =
    let b : 10 ^ k * 10 ≤ n = rw pow-suc at h in
    let least : 1 ≤ 10 ^ k = pow_some k in
    let t : 10 ^ k ≤ n / 10 = omega arith in
    omega (arith, length_more n (omega arith), decimal-long k (n / 10) t)
