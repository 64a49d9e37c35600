-- A number as its decimal digits, highest first, each a byte: 48 for `0` to 57 for `9`.
--   digits fuel n     == the digits of n, where dividing by ten ends within `fuel` steps
--   decimal n         == the digits of n, no leading zero except 0 itself
--   value_from n ds    == the number that the digits ds are after those of n
--   value ds          == the number that the digits ds are
--   Digit b           == b is the byte of a digit
-- Assumes nothing.
use Rattle.std.specs.Prelude.{List, [], ◌∷◌, ◌++◌, ℕ, zero, suc, ◌+◌, ◌-◌, ◌*◌, ◌/◌, ◌%◌, ◌≤◌, ltb}
use Rattle.lists.specs.Lists.{pick}

-- a number below ten is one digit; another is the digits of its tenth part, then its last digit
unfoldable pub digits : ℕ → ℕ → List ℕ
digits zero n = []
digits (suc fuel) n = pick (ltb n 10) ((48 + n) ∷ []) (digits fuel (n / 10) ++ (48 + n % 10) ∷ [])

-- each division makes the number less, so that n + 1 steps are enough
unfoldable pub decimal : ℕ → List ℕ
decimal n = digits (suc n) n

-- each digit more is ten times as much, and the digit
unfoldable pub value_from : ℕ → List ℕ → ℕ
value_from n [] = n
value_from n (b ∷ bs) = value_from (10 * n + (b - 48)) bs

unfoldable pub value : List ℕ → ℕ
value ds = value_from 0 ds

abbrev pub Digit : ℕ → Type 0
Digit b = (48 ≤ b) × (b ≤ 57)
