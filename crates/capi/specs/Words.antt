-- An answer of a call as the numbers that a C function tells: what it returns, and what it writes beside.
--   number_of a  == what is returned: 0 where served, else the number of refusal
--   words_of a   == the two words of Count, from either end, and of the sheet: the values told (N, the passes; its length, the events), or the place and 0
--   word_of a    == the one word of the others: the value told (the index; 0 where none is told), or the place
-- Assumes nothing.
use Rattle.std.specs.Prelude.{List, [], ◌∷◌, ℕ, get_or}
use Rattle.promises.specs.Answer.{Answer, served, refused}

-- 'A refusal is its number and a place, 0 where none is named.'
abbrev pub number_of : Answer → ℕ
number_of (served vs) = 0
number_of (refused n p) = n

-- 'Gives N and the passes.'; of a sheet 'its length in bytes and the event total are reported'
abbrev pub words_of : Answer → List ℕ
words_of (served vs) = vs
words_of (refused n p) = p ∷ 0 ∷ []

-- 'Gives its index.' Scenarios and Shuffle tell nothing where they serve.
abbrev pub word_of : Answer → ℕ
word_of (served vs) = get_or vs 0 0
word_of (refused n p) = p
