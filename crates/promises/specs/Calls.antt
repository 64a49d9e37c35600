-- What the four calls answer and what they leave in the buffers, on served and refused input alike. The contracts of the calls cite these.
-- A buffer is the list of what it holds; `…After` is what it holds afterwards, by what it held before.
--   first_bad bad l     == the position of the first number of l that `bad` holds of, given the position too; the length where there is none
--   row A r, rows A n  == the cells of one r, and of every r below n
--   filled A h cells   == the cells filled for the horizon h, the others as they were
--   Freed need cells left        == the first `need` cells are left free, the others are as they were
--   CellsFreed a need cells left == so after an answer that fills cells; after any other all are as they were
--   size_rows, count_rows, indices_row, sequence_row == the rows 7 and 8; 9 and 10; 11; 14 of the table of refusals
--   sized_for t rows h cells a == a after the rows up to 8, with cells for so many rows; sized t h cells a == with cells for all rows up to h
--   list_rows t h is out == what a call that lists scenarios tells from row 12 on
--   total_rows t h      == what a call that counts tells from row 9 on; count_from A h x == so for the automaton A from x
--   count, scenarios, index, shuffle           == the answers
--   count_cells, scenarios_cells, index_cells     == the cells afterwards
--   written, shuffled                          == the output afterwards
--   ScratchKept, ShuffleKeeps == what is known of the scratch afterwards: the one part that is left free
-- Checks go in the order of the table's rows: 1 to 6 and 16 to 18 (reading), 7, 8, 12, 13, 9, 10, 11, 14, 15. Assumes nothing.
use Rattle.std.specs.Prelude.{◌≡◌, Bool, true, ◌||◌, List, [], ◌∷◌, ◌++◌, ℕ, suc, ◌+◌, ◌*◌, ◌≤◌, length, get_or, drop, ltb, leb, eqb}
use Rattle.lists.specs.Lists.{pick, any, concat_map, tabulate, stack}
use Rattle.automaton.specs.Automaton.{Automaton}
use Rattle.automaton.specs.Pruning.{passes}
use Rattle.automaton.specs.Counting.{N, most, cell}
use Rattle.automaton.specs.Ranking.{unrank, rank, first_violation}
use Rattle.automaton.specs.Shuffle as swapping
use Rattle.promises.specs.Answer.{Answer, served, refused, after, unless}
use Rattle.promises.specs.Text.{joint_states, events_of, decoded}
use Rattle.promises.specs.Reading.{reading}
use Rattle.promises.specs.Rig.{rig_automaton, start}

-- ---- places

unfoldable pub first_bad_from : (ℕ → ℕ → Bool) → ℕ → List ℕ → ℕ
first_bad_from bad p [] = p
first_bad_from bad p (x ∷ l) = pick (bad p x) p (first_bad_from bad (suc p) l)

unfoldable pub first_bad : (ℕ → ℕ → Bool) → List ℕ → ℕ
first_bad bad l = first_bad_from bad 0 l

-- refusal n at the first bad place of the list, if there is one
unfoldable pub unless_at : ℕ → (ℕ → ℕ → Bool) → List ℕ → Answer → Answer
unless_at n bad l a = unless n (first_bad bad l) (ltb (first_bad bad l) (length l)) a

-- ---- the cells

unfoldable pub row : Automaton → ℕ → List ℕ
row A r = tabulate (cell A r) A.states

unfoldable pub rows : Automaton → ℕ → List ℕ
rows A n = stack (row A) n

-- 'The cell at r × P + x holds N(r, x)'; 'Cells past (h+1) × P .. keep their contents.'
unfoldable pub filled : Automaton → ℕ → List ℕ → List ℕ
filled A h cells = rows A (h + 1) ++ drop ((h + 1) * A.states) cells

-- 'After 9, 10, 11 and 14 the cells are filled; after every other refusal they and the scratch are untouched.'
unfoldable pub fills : Answer → Bool
fills (served vs) = true
fills (refused n p) = any (eqb n) (9 ∷ 10 ∷ 11 ∷ 14 ∷ [])

unfoldable pub cells_after : Answer → Automaton → ℕ → List ℕ → List ℕ
cells_after a A h cells = pick (fills a) (filled A h cells) cells

-- '.. are left free ..; further ones keep theirs' (02 no. 8), 'further cells keep theirs' (02 no. 9)
unfoldable pub Freed : ℕ → List ℕ → List ℕ → Type 0
Freed need cells left = (length left ≡ length cells) × ((k : ℕ) → need ≤ k → get_or left k 0 ≡ get_or cells k 0)

-- 'The needed cells are left free when served and after 9, 10 and 11, untouched after others' (02 no. 8); 'left free when served and after 9 and 10,
-- untouched after others' (02 no. 9). No call that frees cells says 14, and that of no. 9 never says 11
unfoldable pub CellsFreed : Answer → ℕ → List ℕ → List ℕ → Type 0
CellsFreed a need cells left = pick (fills a) (Freed need cells left) (left ≡ cells)

-- 'Output is untouched after each' refusal; 'outputs past what is filled, keep their contents'
unfoldable pub output_after : Answer → List ℕ → List ℕ → List ℕ
output_after (served vs) fresh out = fresh ++ drop (length fresh) out
output_after (refused n p) fresh out = out

-- ---- the calls on a rig text

-- 7: 'h over 1,000'. 8: cells below rows × P, for P joint states and so many cells
abbrev pub size_rows : ℕ → ℕ → ℕ → ℕ → Answer → Answer
size_rows rows P h room a = unless 7 0 (ltb 1000 h) (unless 8 0 (ltb room (rows * P)) a)

-- 9: 'N is 0'. 10: 'N is 18,446,744,073,709,551,615 or more'
abbrev pub count_rows : ℕ → Answer → Answer
count_rows n a = unless 9 0 (eqb n 0) (unless 10 0 (leb most n) a)

-- from row 9 on, for the automaton A from x: N and the passes are told
abbrev pub count_from : Automaton → ℕ → ℕ → Answer
count_from A h x = count_rows (N A h x) (served (N A h x ∷ passes A ∷ []))

-- of a number at any position: it is n or more
abbrev pub not_below : ℕ → ℕ → ℕ → Bool
not_below n p i = leb n i

-- 11: 'index not below N'
abbrev pub indices_row : ℕ → List ℕ → Answer
indices_row n is = unless_at 11 (not_below n) is (served [])

-- 14: 'sequence no scenario'; else its index is told
abbrev pub sequence_row : Automaton → ℕ → List ℕ → Answer
sequence_row A x s = unless 14 (first_violation A x s) (ltb (first_violation A x s) (length s)) (served (rank A x s ∷ []))

module _ (t : List ℕ) where
  unfoldable pub sized_for : ℕ → ℕ → List ℕ → Answer → Answer
  sized_for rows h cells a = after (reading t) (size_rows rows (joint_states t) h (length cells) a)

  -- 8: 'cells below (h+1) × P'
  abbrev pub sized : ℕ → List ℕ → Answer → Answer
  sized h cells a = sized_for (h + 1) h cells a

  -- 'N is N(h, start)'
  unfoldable pub total : ℕ → ℕ
  total h = N (rig_automaton t) h (start t)

  unfoldable pub counted : ℕ → Answer → Answer
  counted h a = count_rows (total h) a

  -- 9, 10; then N and the passes
  abbrev pub total_rows : ℕ → Answer
  total_rows h = counted h (served (total h ∷ passes (rig_automaton t) ∷ []))

  -- 'Count: text, h, cells. Gives N and the passes.'
  unfoldable pub count : ℕ → List ℕ → Answer
  count h cells = sized h cells (total_rows h)

  unfoldable pub count_cells : ℕ → List ℕ → List ℕ
  count_cells h cells = cells_after (count h cells) (rig_automaton t) h cells

  -- 12: 'output shorter than list length × h'; then 9, 10, 11
  abbrev pub list_rows : ℕ → List ℕ → List ℕ → Answer
  list_rows h is out = unless 12 0 (ltb (length out) (length is * h)) (counted h (indices_row (total h) is))

  -- 'Scenarios: text, h, a list of indices, cells, output bytes.'
  unfoldable pub scenarios : ℕ → List ℕ → List ℕ → List ℕ → Answer
  scenarios h is cells out = sized h cells (list_rows h is out)

  unfoldable pub scenarios_cells : ℕ → List ℕ → List ℕ → List ℕ → List ℕ
  scenarios_cells h is cells out = cells_after (scenarios h is cells out) (rig_automaton t) h cells

  -- 'Scenario number n of the list fills the h output bytes from n × h.'
  unfoldable pub written : ℕ → List ℕ → List ℕ → List ℕ → List ℕ
  written h is cells out = output_after (scenarios h is cells out) (concat_map (unrank (rig_automaton t) h (start t)) is) out

  -- 'Index: text, a sequence of event bytes (its length is h), cells. Gives its index.' 13: 'event byte E or more'
  unfoldable pub index : List ℕ → List ℕ → Answer
  index s cells =
      sized (length s) cells
      (unless_at 13 (not_below (events_of (decoded t))) s
      (counted (length s)
      (sequence_row (rig_automaton t) (start t) s)))

  unfoldable pub index_cells : List ℕ → List ℕ → List ℕ
  index_cells s cells = cells_after (index s cells) (rig_automaton t) (length s) cells

-- ---- the shuffle

-- 15: 'Draw i must be from i to n−1.'
unfoldable pub bad_draw : ℕ → ℕ → ℕ → Bool
bad_draw n i d = ltb d i || leb n d

-- 'Shuffle: n, a list of z draws, 2 × z scratch numbers, output for z numbers'. 8: 'scratch below 2 × z'. 12: output shorter than z
unfoldable pub shuffle : ℕ → List ℕ → List ℕ → List ℕ → Answer
shuffle n ds scratch out =
    unless 8 0 (ltb (length scratch) (2 * length ds))
    (unless 12 0 (ltb (length out) (length ds))
    (unless_at 15 (bad_draw n) ds
    (served [])))

unfoldable pub shuffled : ℕ → List ℕ → List ℕ → List ℕ → List ℕ
shuffled n ds scratch out = output_after (shuffle n ds scratch out) (swapping.shuffle ds) out

-- 'The first 2 × z scratch numbers after a shuffle are left free; the rest keep theirs.' After a refusal 'they .. are untouched'.
unfoldable pub ScratchKept : Answer → List ℕ → List ℕ → List ℕ → Type 0
ScratchKept (served vs) ds scratch left = (length left ≡ length scratch) × (drop (2 * length ds) left ≡ drop (2 * length ds) scratch)
ScratchKept (refused n p) ds scratch left = left ≡ scratch

abbrev pub ShuffleKeeps : ℕ → List ℕ → List ℕ → List ℕ → List ℕ → Type 0
ShuffleKeeps n ds scratch out left = ScratchKept (shuffle n ds scratch out) ds scratch left
