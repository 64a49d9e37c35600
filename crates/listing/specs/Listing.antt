-- The whole output of the program `scenarios`, as a function of its input bytes. Paper 01, 'The program `scenarios`'.
--   first_line i        == what stands before the first line end of i
--   asked_in l          == the horizon that the line l asks for, if it is an `ask` line
--   asked i            == the horizon that the input i asks for, if its first line is a good `ask` line
--   text i             == what stands after the first line end of i: the rig text
--   owned              == the program's cells
--   answer i           == what the program answers: refusal 2 at 0 for a bad `ask` line, else what Count answers
--   head_line a         == the first line that is printed for the answer a
--   follow a           == how many lines follow it
--   horizon i          == the horizon that i asks for, 0 where it asks for none
--   cells_left i c      == what the program's cells c hold afterwards
--   scenario_line t h k == the line of index k, for the rig text t and the horizon h
--   listing i          == the whole output for the input i
-- Assumes nothing.
use Rattle.std.specs.Prelude.{List, ◌++◌, ℕ, ◌+◌, min, length, get_or, take, drop, replicate, ltb}
use Rattle.std.proofs.Math.Option
use Rattle.std.proofs.Math.Option.{Option, none, some}
use Rattle.lists.specs.Lists.{pick, index_of, concat_map, range}
use Rattle.automaton.specs.Ranking.{unrank}
use Rattle.promises.specs.Answer.{Answer, served, refused}
use Rattle.promises.specs.Text.{number, bytes, same}
use Rattle.promises.specs.Rig.{rig_automaton, start}
use Rattle.promises.specs.Calls.{count, cells_after}
use Rattle.line.specs.Line.{line_of, numbers_of}

-- ---- the `ask` line

unfoldable pub first_line : List ℕ → List ℕ
first_line input = take (index_of input 10) input

-- `ask`, byte 9 and a number as in 01, and nothing else
unfoldable pub asked_in : List ℕ → Option ℕ
asked_in line = pick (same (take 4 line) (bytes "ask\t")) (number (drop 4 line)) none

-- 'reads from standard input one line `ask`, h'; an unended line is none
unfoldable pub asked : List ℕ → Option ℕ
asked input = pick (ltb (index_of input 10) (length input)) (asked_in (first_line input)) none

-- 'then a rig text'; 'Lines count from the one after `ask`.'
unfoldable pub text : List ℕ → List ℕ
text input = drop (index_of input 10 + 1) input

-- ---- the answer

-- 'It owns 8,192 cells.'
unfoldable pub owned : List ℕ
owned = replicate 8192 0

-- 'a bad `ask` line prints `no`, 2, 0'
abbrev pub answer_to : Option ℕ → List ℕ → Answer
answer_to none t = refused 2 0
answer_to (some h) t = count t h owned

unfoldable pub answer : List ℕ → Answer
answer input = answer_to (asked input) (text input)

-- ---- the lines

-- 'It prints `count`, N, passes'; 'A refusal prints only `no`, number, place'
abbrev pub head_line : Answer → List ℕ
head_line (served values) = numbers_of (bytes "count") (get_or values 0 0) (get_or values 1 0)
head_line (refused number place) = numbers_of (bytes "no") number place

-- 'for the first 1,000 indices, or all N if fewer, a line'
abbrev pub follow : Answer → ℕ
follow (served values) = min (get_or values 0 0) 1000
follow (refused number place) = 0

unfoldable pub horizon : List ℕ → ℕ
horizon input = Option.get_or (asked input) 0

-- 'After 9, 10, 11 and 14 the cells are filled; after every other refusal they .. are untouched.'
unfoldable pub cells_left : List ℕ → List ℕ → List ℕ
cells_left input cells = cells_after (answer input) (rig_automaton (text input)) (horizon input) cells

-- 'a line of the index and its events, all parted by byte 9'
unfoldable pub scenario_line : List ℕ → ℕ → ℕ → List ℕ
scenario_line t h k = line_of k (unrank (rig_automaton t) h (start t) k)

unfoldable pub listing : List ℕ → List ℕ
listing input = head_line (answer input) ++ concat_map (scenario_line (text input) (horizon input)) (range (follow (answer input)))
