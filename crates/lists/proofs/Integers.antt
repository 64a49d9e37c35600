-- The order of the integers by differences: a ≤ b where b is some natural number more than a. Assumes nothing.
use mathlib.Core.Path.{◌≡◌, refl, sym, ap, ◌∙◌, subst}
use mathlib.Core.Bool.{Bool, true, false, cond}
use Prim.Native.Nat.{ℕ, zero, suc, ◌+◌, ◌-◌, ◌≤◌}
use native.Mathlib.Omega.{arith}
use lib.IntN.{ℤ, pos, negsuc, neg_ℤ, ◌+ℤ◌, ◌-ℤ◌, nat_abs, +ℤ_comm, +ℤ_assoc, +ℤ_idl, +ℤ-neg_ℤ_cancel, -ℤ-+ℤ_cancel}
use lib.Signed.{mag, le_z, lt_z, non_neg, ◌≤ℤ◌, ◌<ℤ◌, lt_z_no, pos-nat_abs}
use lib.Dec.{T, ltb, leb→le, le→leb}
use borrow.Author.Tests.{le-ltb}
use Rattle.lists.proofs.Tests.{case}
use Rattle.lists.proofs.Tells.{Tells}

-- the test of the order
pub tells_ltℤ : (a b : ℤ) → Tells (lt_z a b) (a <ℤ b)
tells_ltℤ a b = record { yes = λ q. record { lt = subst T (sym q) tt }; no = λ q h. subst T q h.lt }

-- what is not below is not less
pub not_belowℤ : (a b : ℤ) → (a <ℤ b → ⊥) → b ≤ℤ a
not_belowℤ a b n = case (lt_z a b) (λ q. absurd (n ((tells_ltℤ a b).yes q))) (λ q. lt_z_no {a = a} {b = b} (rw q tt))

pub le_more : (a : ℤ) (n : ℕ) → a ≤ℤ (a +ℤ pos n)
le_more (pos a) n = record { le = le→leb a (a + n) (omega arith) }
le_more (negsuc a) n = record { le = case (ltb n (suc a)) (λ t. rw t (le→leb (suc a - suc n) a (omega arith))) (λ t. rw t tt) }

-- how much more
more_non_neg : (a b : ℤ) → T (le_z a b) → T (non_neg (b -ℤ a))
more_non_neg (pos zero) (pos b) h = tt
more_non_neg (pos (suc a)) (pos b) h = rw (le-ltb b (suc a) (leb→le (suc a) b h)) tt
more_non_neg (pos a) (negsuc b) h = absurd h
more_non_neg (negsuc a) (pos b) h = tt
more_non_neg (negsuc a) (negsuc b) h = rw (le-ltb (suc a) (suc b) (omega (arith, leb→le b a h))) tt

pub less_non_neg : (a b : ℤ) → a ≤ℤ b → T (non_neg (b -ℤ a))
less_non_neg a b h = more_non_neg a b h.le

pub more_le : (a b : ℤ) → a ≤ℤ b → a +ℤ pos (nat_abs (b -ℤ a)) ≡ b
more_le a b h = ap (λ c. a +ℤ c) (pos-nat_abs (b -ℤ a) (more_non_neg a b h.le)) ∙ +ℤ_comm a (b -ℤ a) ∙ -ℤ-+ℤ_cancel b a

pub more-back : (a : ℤ) (n : ℕ) → nat_abs (a +ℤ pos n -ℤ a) ≡ n
more-back a n = ap nat_abs (ap (λ c. c -ℤ a) (+ℤ_comm a (pos n)) ∙ +ℤ-neg_ℤ_cancel (pos n) a)

pub more-more : (a : ℤ) (p q : ℕ) → a +ℤ pos p +ℤ pos q ≡ a +ℤ pos (p + q)
more-more a p q = +ℤ_assoc a (pos p) (pos q)

pub leℤ_trans : (a b c : ℤ) → a ≤ℤ b → b ≤ℤ c → a ≤ℤ c
leℤ_trans a b c h k =
    let p = nat_abs (b -ℤ a) in
    let q = nat_abs (c -ℤ b) in
    let far : a +ℤ pos (p + q) ≡ c = sym (more-more a p q) ∙ ap (λ d. d +ℤ pos q) (more_le a b h) ∙ more_le b c k in
    subst (λ d. a ≤ℤ d) far (le_more a (p + q))

pub more_zero : (a : ℤ) → a ≤ℤ pos 0 → a +ℤ pos (nat_abs a) ≡ pos 0
more_zero (pos zero) h = refl
more_zero (pos (suc n)) h = absurd (omega (arith, leb→le (suc n) 0 h.le))
more_zero (negsuc n) h = rw (le-ltb (suc n) (suc n) (omega arith)) (ap pos (omega arith))

-- ---- how large a number is

mag_sub : (t : Bool) (a b : ℕ) → mag (cond t (negsuc (b - suc a)) (pos (a - b))) ≤ a + b
mag_sub true a b = omega arith
mag_sub false a b = omega arith

pub mag_add : (a b : ℤ) → mag (a +ℤ b) ≤ mag a + mag b + 1
mag_add (pos a) (pos b) = omega arith
mag_add (pos a) (negsuc b) = omega (arith, mag_sub (ltb a (suc b)) a (suc b))
mag_add (negsuc a) (pos b) = omega (arith, mag_sub (ltb b (suc a)) b (suc a))
mag_add (negsuc a) (negsuc b) = omega arith

mag_neg : (a : ℤ) → mag (neg_ℤ a) ≤ mag a + 1
mag_neg (pos zero) = omega arith
mag_neg (pos (suc n)) = omega arith
mag_neg (negsuc n) = omega arith

pub mag_minus : (a b : ℤ) → mag (a -ℤ b) ≤ mag a + mag b + 2
mag_minus a b = omega (arith, mag_add a (neg_ℤ b), mag_neg b)

pub mag_within : (n : ℕ) (a : ℤ) → neg_ℤ (pos n) ≤ℤ a → a ≤ℤ pos n → mag a ≤ n
mag_within n (pos a) l h = leb→le a n h.le
mag_within zero (negsuc a) l h = absurd l.le
mag_within (suc n) (negsuc a) l h = omega (arith, leb→le a n l.le)

pub minus_abs : (a : ℤ) → nat_abs (pos 0 -ℤ a) ≡ nat_abs a
minus_abs (pos zero) = refl
minus_abs (pos (suc n)) = ap nat_abs (+ℤ_idl (negsuc n))
minus_abs (negsuc n) = omega arith
