-- What the buffers hold afterwards, cell by cell and byte by byte, on served and refused input alike.
--   ServedOr ns a      == the answer is served, or a refusal by one of the numbers ns
--   Fills a            == the answer is one after which the cells are filled
--   CellsLeft          == what the cells hold after a call on a text
--   CellsFree          == what they hold where a call leaves the first ones free
--   OutputLeft         == what an output holds: the first numbers fresh where served, else as before
--   ScratchLeft        == what the scratch holds after a shuffle
--   Buffers            == each buffer of the four calls
-- Assumes nothing.
use Rattle.std.specs.Prelude.{◌≡◌, ◌⊎◌, ◌↔◌, ℕ, ◌+◌, ◌*◌, ◌≤◌, ◌<◌, min, length, get_or, take}
use mathlib.Core.List.{List, [], ◌∷◌, Memᴰ as In}
use Rattle.automaton.specs.Counting.{N, most}
use Rattle.automaton.specs.Ranking.{unrank}
use Rattle.automaton.specs.Shuffle as swapping
use Rattle.promises.specs.Answer.{Answer, refused, Served}
use Rattle.promises.specs.Text.{joint_states}
use Rattle.promises.specs.Rig.{rig_automaton, start}
use Rattle.promises.specs.Demand3.{block}
use Rattle.promises.specs.Calls.{count, count_cells, scenarios, scenarios_cells, written, index, index_cells, shuffle, shuffled, ScratchKept}

unfoldable pub ServedOr : List ℕ → Answer → Type 0
ServedOr ns a = Served a ⊎ ((n : ℕ) × (p : ℕ) × (a ≡ refused n p) × In n ns)

-- 'After 9, 10, 11 and 14 the cells are filled'
abbrev pub Fills : Answer → Type 0
Fills a = ServedOr (9 ∷ 10 ∷ 11 ∷ 14 ∷ []) a

pub record CellsLeft (t : List ℕ) (h : ℕ) (a : Answer) (cells left : List ℕ) : Type 0 where
  pub long : length left ≡ length cells
  -- 'The cell at r × P + x holds N(r, x), or 18,446,744,073,709,551,615 if N(r, x) is that or more.'
  pub filled : Fills a → (r x : ℕ) → r ≤ h → x < joint_states t → get_or left (r * joint_states t + x) 0 ≡ min (N (rig_automaton t) r x) most
  -- 'Cells past (h+1) × P .. keep their contents.'
  pub past : Fills a → (k : ℕ) → (h + 1) * joint_states t ≤ k → get_or left k 0 ≡ get_or cells k 0
  -- 'after every other refusal they .. are untouched'
  pub untouched : (Fills a → ⊥) → left ≡ cells

-- `need` cells are left free when served and after the refusals ns
pub record CellsFree (need : ℕ) (ns : List ℕ) (a : Answer) (cells left : List ℕ) : Type 0 where
  pub long : length left ≡ length cells
  -- 'further ones keep theirs' (02 no. 8), 'further cells keep theirs' (02 no. 9)
  pub past : (k : ℕ) → need ≤ k → get_or left k 0 ≡ get_or cells k 0
  -- 'untouched after others' (02 nos. 8 and 9)
  pub untouched : (ServedOr ns a → ⊥) → left ≡ cells

-- n numbers are written where the answer serves
pub record OutputLeft (n : ℕ) (a : Answer) (out left : List ℕ) : Type 0 where
  pub long : length left ≡ length out
  -- 'outputs past what is filled, keep their contents'
  pub past : (k : ℕ) → n ≤ k → get_or left k 0 ≡ get_or out k 0
  -- 'Output is untouched after each.'
  pub untouched : (Served a → ⊥) → left ≡ out

-- z draws
pub record ScratchLeft (z : ℕ) (a : Answer) (scratch left : List ℕ) : Type 0 where
  pub long : length left ≡ length scratch
  -- 'The first 2 × z scratch numbers after a shuffle are left free; the rest keep theirs.'
  pub past : (k : ℕ) → 2 * z ≤ k → get_or left k 0 ≡ get_or scratch k 0
  -- 'after every other refusal they and the scratch are untouched'
  pub untouched : (Served a → ⊥) → left ≡ scratch

pub record Buffers : Type 0 where
  pub count_cells_lem : (t : List ℕ) (h : ℕ) (cells : List ℕ) → CellsLeft t h (count t h cells) cells (count_cells t h cells)
  pub scenarios_cells_lem : (t : List ℕ) (h : ℕ) (is cells out : List ℕ) → CellsLeft t h (scenarios t h is cells out) cells (scenarios_cells t h is cells out)
  pub index_cells_lem : (t s cells : List ℕ) → CellsLeft t (length s) (index t s cells) cells (index_cells t s cells)
  pub scenarios_output : (t : List ℕ) (h : ℕ) (is cells out : List ℕ) → OutputLeft (length is * h) (scenarios t h is cells out) out (written t h is cells out)
  -- 'Scenario number n of the list fills the h output bytes from n × h.'
  pub scenarios_written : (t : List ℕ) (h : ℕ) (is cells out : List ℕ) → Served (scenarios t h is cells out) → (n : ℕ) → n < length is
      → block h n (written t h is cells out) ≡ unrank (rig_automaton t) h (start t) (get_or is n 0)
  pub shuffle_output : (n : ℕ) (ds scratch out : List ℕ) → OutputLeft (length ds) (shuffle n ds scratch out) out (shuffled n ds scratch out)
  pub shuffle_written : (n : ℕ) (ds scratch out : List ℕ) → Served (shuffle n ds scratch out) → take (length ds) (shuffled n ds scratch out) ≡ swapping.shuffle ds
  -- what the contract of Shuffle says of the scratch is just this
  pub shuffle_scratch : (n : ℕ) (ds scratch out left : List ℕ)
      → ScratchKept (shuffle n ds scratch out) ds scratch left ↔ ScratchLeft (length ds) (shuffle n ds scratch out) scratch left
