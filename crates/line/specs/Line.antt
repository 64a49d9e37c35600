-- The lines that are printed and those of a sheet: fields 'all parted by byte 9', and byte 10 at the end.
--   field_bytes n    == byte 9 and the digits of n
--   line_from f ns   == the line of a first field f and numbers
--   line_of i es     == the line of an index and its events
--   numbers_of w a b == the line of a word and two numbers
--   placed s at d   == d with s written over it from `at` on
-- Assumes nothing.
use Rattle.std.specs.Prelude.{List, [], ◌∷◌, ◌++◌, ℕ, ◌+◌, length, take, drop}
use Rattle.lists.specs.Lists.{concat_map}
use Rattle.lists.specs.Decimal.{decimal}

abbrev pub field_bytes : ℕ → List ℕ
field_bytes n = 9 ∷ decimal n

abbrev pub line_from : List ℕ → List ℕ → List ℕ
line_from first ns = first ++ concat_map field_bytes ns ++ 10 ∷ []

-- 'a line of the index and its events, all parted by byte 9'
unfoldable pub line_of : ℕ → List ℕ → List ℕ
line_of index events = line_from (decimal index) events

-- '`count`, N, passes' and '`no`, number, place'
unfoldable pub numbers_of : List ℕ → ℕ → ℕ → List ℕ
numbers_of word a b = line_from word (a ∷ b ∷ [])

abbrev pub placed : List ℕ → ℕ → List ℕ → List ℕ
placed s at d = take at d ++ s ++ drop (at + length s) d
