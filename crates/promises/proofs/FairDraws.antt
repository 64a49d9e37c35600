-- Raw numbers have 64 bits, and every value that a draw may have is given by as many of them as any other.
-- Why: the raw numbers that are kept are a whole number of rounds of w consecutive ones. Assumes nothing.
use mathlib.Core.Path.{◌≡◌, refl, sym, ap, ◌∙◌, subst}
use mathlib.Core.Logic.{⊎_elim, ◌≢◌}
use mathlib.Core.Bool.{not, ◌&&◌}
use Prim.Native.Nat.{ℕ, zero, suc, ◌+◌, ◌*◌, ◌/◌, ◌%◌, ◌^◌, ◌≤◌, ◌<◌}
use native.Mathlib.Omega.{arith}
use native.Mathlib.Nat.{zero-add, suc-add, add-zero, add-suc, zero-mul, suc-mul, mod-eq_of_lt, mod-lt, add-mod_right, mod-add-div', div-le_self, lt_of_le_of_lt}
use lib.Dec.{ltb, eqb}
use lib.Bits.{xor_lt}
use borrow.Author.Tests.{eqb-true, eqb-false, lt-ltb, le-ltb}
use Rattle.lists.specs.Lists.{pick, count}
use Rattle.lists.proofs.Tests.{case, split}
use Rattle.promises.specs.SplitMix.{next_state, mix_first, mix_second, mix_third, mix, raw}
use Rattle.promises.specs.Draws.{thrown_away, giving, FairDraws}

module _ (w v : ℕ) (below : v < w) where
  -- the numbers below m that leave v
  leaving : ℕ → ℕ
  leaving m = count (λ r. eqb (r % w) v) m

  first_round : (m : ℕ) → m ≤ w → leaving m ≡ pick (ltb v m) 1 0
  unfolding leaving
  first_round zero h = rw (le-ltb v 0 (omega arith))
  first_round (suc m) h =
      rw (mod-eq_of_lt {n = m} {m = w} (omega arith), first_round m (omega arith))
      (case (eqb m v)
      (λ t. let q = eqb-true m v t in rw (t, le-ltb v m (omega arith), lt-ltb v (suc m) (omega arith)))
      (λ t. let n = eqb-false m v t in rw t (⊎_elim (λ l. rw (le-ltb v m l, le-ltb v (suc m) (less n l))) (λ l. rw (lt-ltb v m l, lt-ltb v (suc m) (omega arith))) (split m v))))
    where
      less : m ≢ v → m ≤ v → suc m ≤ v
      less n l = omega arith

  -- a round more is one number more
  round : (m : ℕ) → leaving (m + w) ≡ suc (leaving m)
  unfolding leaving
  round zero = rw zero-add (first_round w (omega arith) ∙ rw (lt-ltb v w below))
  round (suc m) = rw (suc-add, add-mod_right) (omega (arith, round m))

  rounds : (c k : ℕ) → leaving (c + k * w) ≡ leaving c + k
  rounds c zero = rw (zero-mul, add-zero c) (sym (add-zero (leaving c)))
  rounds c (suc k) =
      let on : c + suc k * w ≡ c + k * w + w = omega (arith, suc-mul k w) in
      ap leaving on ∙ round (c + k * w) ∙ omega (arith, rounds c k)

  -- of the numbers below c none is kept, and from there on all are
  kept : ℕ → ℕ → ℕ
  kept c m = count (λ r. not (ltb r c) && eqb (r % w) v) m

  none_kept : (c m : ℕ) → m ≤ c → kept c m ≡ 0
  unfolding kept
  none_kept c zero h = refl
  none_kept c (suc m) h = rw (lt-ltb m c h) (omega (arith, none_kept c m (omega arith)))

  all_kept : (c m : ℕ) → kept c (c + m) + leaving c ≡ leaving (c + m)
  unfolding kept leaving
  all_kept c zero = rw add-zero (omega (arith, none_kept c c (omega arith)))
  all_kept c (suc m) = rw (add-suc, le-ltb (c + m) c (omega arith)) (omega (arith, all_kept c m))

  giving_is : (total : ℕ) → giving total w v ≡ total / w
  unfolding giving thrown_away kept
  giving_is total =
      let c = total % w in
      let parts : c + total / w * w ≡ total = mod-add-div' total w in
      let all : kept c total + leaving c ≡ leaving total = subst (λ n. kept c n + leaving c ≡ leaving n) parts (all_kept c (total / w * w)) in
      let many : leaving total ≡ leaving c + total / w = subst (λ n. leaving n ≡ leaving c + total / w) parts (rounds c (total / w)) in
      omega arith

-- whichever of the w values: as many of the 2^64 raw numbers give it
draw_fair : (w v : ℕ) → v < w → giving (2 ^ 64) w v ≡ 2 ^ 64 / w
draw_fair w v h = giving_is w v h (2 ^ 64)

-- the last step of the mixing makes a number of 64 bits of one of 64 bits
raw-below : (s : ℕ) → raw s < 2 ^ 64
unfolding raw mix mix_second mix_third
raw-below s =
    let y = mix_second (mix_first (next_state s)) in
    let h : y < 2 ^ 64 = mod-lt _ (omega arith) in
    xor_lt 64 y (y / 2 ^ 31) h (lt_of_le_of_lt (div-le_self y (2 ^ 31)) h)

pub fair-draws : FairDraws
fair-draws = record { below = raw-below; even = draw_fair }
