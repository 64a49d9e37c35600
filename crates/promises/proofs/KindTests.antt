-- The tests on a line that begins a monitor tell what the words say of its kind. Assumes nothing.
use mathlib.Core.Path.{◌≡◌, refl}
use Prim.Native.Nat.{ℕ}
use native.Mathlib.Omega.{arith}
use lib.IntN.{ℤ, pos, neg_ℤ}
use Rattle.lists.proofs.Tests.{contra}
use Rattle.lists.proofs.Tells.{Tells, tells_lt, tells_le, tells_eq, tells_never, tells_or}
use Rattle.lists.proofs.Integers.{tells_ltℤ}
use Rattle.promises.specs.Text.{Kind, mon, gap, reply, bal, day, Outside, Outsideℤ, OutOfRange, Equal, IsMon, IsBal, IsDay}
use Rattle.promises.specs.Reading.{outside, outsideℤ, is_mon, is_bal, is_day, is_out_of_range, equal}

pub tells_outside : (lo hi n : ℕ) → Tells (outside lo hi n) (Outside lo hi n)
tells_outside lo hi n = tells_or (tells_lt n lo) (tells_lt hi n)

pub tells_outsideℤ : (lo hi x : ℤ) → Tells (outsideℤ lo hi x) (Outsideℤ lo hi x)
tells_outsideℤ lo hi x = tells_or (tells_ltℤ x lo) (tells_ltℤ hi x)

pub tells_mon : (k : Kind) → Tells (is_mon k) (IsMon k)
unfolding IsMon
tells_mon (mon S a) = record { yes = λ q. (S, a, refl); no = λ q. contra refl q }
tells_mon (gap e n) = record { yes = λ q. contra q refl; no = λ q (S, a, r). let z : ◌≡◌ {A = ℕ} 0 1 = cc in omega arith }
tells_mon (reply a b lo hi) = record { yes = λ q. contra q refl; no = λ q (S, x, r). let z : ◌≡◌ {A = ℕ} 0 1 = cc in omega arith }
tells_mon (bal lo hi) = record { yes = λ q. contra q refl; no = λ q (S, x, r). let z : ◌≡◌ {A = ℕ} 0 1 = cc in omega arith }
tells_mon (day T) = record { yes = λ q. contra q refl; no = λ q (S, x, r). let z : ◌≡◌ {A = ℕ} 0 1 = cc in omega arith }

pub tells_bal : (k : Kind) → Tells (is_bal k) (IsBal k)
unfolding IsBal
tells_bal (mon S a) = record { yes = λ q. contra q refl; no = λ q (lo, hi, r). let z : ◌≡◌ {A = ℕ} 0 1 = cc in omega arith }
tells_bal (gap e n) = record { yes = λ q. contra q refl; no = λ q (lo, hi, r). let z : ◌≡◌ {A = ℕ} 0 1 = cc in omega arith }
tells_bal (reply a b l h) = record { yes = λ q. contra q refl; no = λ q (lo, hi, r). let z : ◌≡◌ {A = ℕ} 0 1 = cc in omega arith }
tells_bal (bal lo hi) = record { yes = λ q. (lo, hi, refl); no = λ q. contra refl q }
tells_bal (day T) = record { yes = λ q. contra q refl; no = λ q (lo, hi, r). let z : ◌≡◌ {A = ℕ} 0 1 = cc in omega arith }

pub tells_day : (k : Kind) → Tells (is_day k) (IsDay k)
unfolding IsDay
tells_day (mon S a) = record { yes = λ q. contra q refl; no = λ q (T, r). let z : ◌≡◌ {A = ℕ} 0 1 = cc in omega arith }
tells_day (gap e n) = record { yes = λ q. contra q refl; no = λ q (T, r). let z : ◌≡◌ {A = ℕ} 0 1 = cc in omega arith }
tells_day (reply a b lo hi) = record { yes = λ q. contra q refl; no = λ q (T, r). let z : ◌≡◌ {A = ℕ} 0 1 = cc in omega arith }
tells_day (bal lo hi) = record { yes = λ q. contra q refl; no = λ q (T, r). let z : ◌≡◌ {A = ℕ} 0 1 = cc in omega arith }
tells_day (day T) = record { yes = λ q. (T, refl); no = λ q. contra refl q }

pub tells_out : (E : ℕ) (k : Kind) → Tells (is_out_of_range E k) (OutOfRange E k)
unfolding OutOfRange
tells_out E (mon S a) = tells_or (tells_outside 1 32 S) (tells_le S a)
tells_out E (gap e n) = tells_or (tells_le E e) (tells_outside 2 32 n)
tells_out E (reply a b lo hi) = tells_or (tells_le E a) (tells_or (tells_le E b) (tells_or (tells_lt lo 1) (tells_or (tells_lt hi lo) (tells_lt 31 hi))))
tells_out E (bal lo hi) = tells_or (tells_outsideℤ (neg_ℤ (pos 15)) (pos 0) lo) (tells_outsideℤ (pos 0) (pos 15) hi)
tells_out E (day T) = tells_outside 2 32 T

pub tells_equal : (k : Kind) → Tells (equal k) (Equal k)
unfolding Equal
tells_equal (mon S a) = tells_never
tells_equal (gap e n) = tells_never
tells_equal (reply a b lo hi) = tells_eq a b
tells_equal (bal lo hi) = tells_never
tells_equal (day T) = tells_never
