-- The rule of the table at each entry, from the whole table, and how many digits a number has by the place of the first power above it. Assumes nothing.
use mathlib.Core.Path.{◌≡◌, ◌∙◌}
use mathlib.Core.List.{List}
use Prim.Native.Nat.{ℕ, zero, suc, ◌+◌, ◌^◌, ◌≤◌, ◌<◌}
use native.Mathlib.Omega.{arith}
use lib.ListN.{length, get_or, take, drop, length-take, length-drop}
use lib.Seq.{get_or-take, get_or-drop}
use Rattle.std.proofs.Common.{Option, None, Some}
use Rattle.std.specs.List.{AllWithin, HoldsAt}
use Rattle.std.specs.Option.{MatchOption}
use Rattle.lists.specs.Decimal.{decimal}
use Rattle.lists.proofs.Tables.{get_or-tabulate, length-tabulate}
use Rattle.lists.proofs.Decimal.{decimal-some, decimal-short, decimal-long}
use Rattle.decimal.specs.Powers.{powers}
use Rattle.decimal.proofs.Digits.{decimal-fits}

abbrev pub above_one : List ℕ → List ℕ
above_one table = take 19 (drop 1 table)

-- the place in the table, after its first entry, of the first power above n
abbrev pub Place : List ℕ → ℕ → Option ℕ → Type 0
Place table n r =
    MatchOption r (AllWithin (λ p. p ≤ n) (above_one table) 0 (length (above_one table)))
    (λ i. (i < length (above_one table)) × HoldsAt (λ p. n < p) (above_one table) i × AllWithin (λ p. p ≤ n) (above_one table) 0 i)

module _ (table : List ℕ) (whole : table ≡ powers) where
  module _ (k : ℕ) (h : k < 20) where
    -- 'Entry k, from 0, is shown to be ten to the power k'
    pub power_at : get_or table k 0 ≡ 10 ^ k
    unfolding powers
    power_at = rw whole (get_or-tabulate (λ k. 10 ^ k) 20 k 0 h)

    digits_below : (n : ℕ) → n < get_or table k 0 → 1 ≤ k → length (decimal n) ≤ k
    digits_below n less = decimal-short k n (rw power_at at less)

    digits_from : (n : ℕ) → get_or table k 0 ≤ n → k < length (decimal n)
    digits_from n more = decimal-long k n (rw power_at at more)

  above_long : length (above_one table) ≡ 19
  unfolding powers
  above_long = simp (length-take, length-drop) (rw whole (rw length-tabulate (omega arith)))

  above_at : (i : ℕ) → i < 19 → get_or (above_one table) i 0 ≡ get_or table (1 + i) 0
  above_at i h = get_or-take 19 (drop 1 table) i 0 h ∙ get_or-drop 1 table i 0

  module _ (n : ℕ) (fits : n < 2 ^ 64) where
    pub digits_none : Place table n None → 20 ≡ length (decimal n)
    digits_none all = omega (arith, decimal-fits n fits, digits_from 19 (omega arith) n (rw (above_at 18 (omega arith)) at (all 18 0 (omega arith) (omega (arith, above_long)))))

    pub digits_at : (i : ℕ) → Place table n (Some i) → i + 1 ≡ length (decimal n)
    digits_at zero (less, over, under) = omega (arith, decimal-some n, digits_below 1 (omega arith) n (rw (above_at 0 (omega arith)) at (over 0)) (omega arith))
    digits_at (suc i) (less, over, under) =
        let few : suc i < 19 = omega (arith, above_long) in
        omega (
          arith,
          digits_below (1 + suc i) (omega arith) n (rw (above_at (suc i) few) at (over 0)) (omega arith),
          digits_from (1 + i) (omega arith) n (rw (above_at i (omega arith)) at (under i 0 (omega arith) (omega arith))),
        )
