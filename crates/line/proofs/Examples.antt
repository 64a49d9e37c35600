-- Two lines of the listing that the paper prints for `ask` 3 and rig A. Assumes nothing.
use mathlib.Core.Path.{◌≡◌, refl}
use mathlib.Core.List.{[], ◌∷◌}
use Rattle.lists.specs.Decimal.{decimal, digits}
use Rattle.line.specs.Line.{line_of, numbers_of}

-- `count`, 5, 1
pub first_line_lem : numbers_of (99 ∷ 111 ∷ 117 ∷ 110 ∷ 116 ∷ []) 5 1 ≡ 99 ∷ 111 ∷ 117 ∷ 110 ∷ 116 ∷ 9 ∷ 53 ∷ 9 ∷ 49 ∷ 10 ∷ []
unfolding numbers_of decimal digits
first_line_lem = refl

-- 4, 1, 0, 1
pub last_line : line_of 4 (1 ∷ 0 ∷ 1 ∷ []) ≡ 52 ∷ 9 ∷ 49 ∷ 9 ∷ 48 ∷ 9 ∷ 49 ∷ 10 ∷ []
unfolding line_of decimal digits
last_line = refl
