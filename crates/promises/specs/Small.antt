-- Long horizons on the small bench (02 no. 8): Scenarios with cells for every sixteenth row and fifteen others.
--   small_rows h            == how many rows there is room for
--   small_need t h          == how many cells are needed
--   Case8Small t h cells  == they are too few
--   small, small_output     == the answer, and the output afterwards
--   SmallKeeps t h is cells out left == what is known of the cells afterwards: the needed ones are left free
--   SmallOwed t h is cells out       == what the call owes, in the request's words
-- Checks go as in Scenarios; only the need in 8 is another. Assumes nothing.
use Rattle.std.specs.Prelude.{◌≡◌, ◌↔◌, List, [], ◌∷◌, ℕ, ◌+◌, ◌*◌, ◌/◌, ◌<◌, length}
use Rattle.lists.specs.Lists.{concat_map}
use Rattle.automaton.specs.Ranking.{unrank}
use Rattle.promises.specs.Answer.{Answer, refused}
use Rattle.promises.specs.Text.{joint_states, Readable, Fault, Case7, Case8}
use Rattle.promises.specs.Rig.{rig_automaton, start}
use Rattle.promises.specs.Calls.{output_after, CellsFreed, sized_for, list_rows, scenarios, written}
use Rattle.promises.specs.Buffers.{CellsFree, OutputLeft}
use Rattle.promises.specs.Shapes.{Shaped}

-- 'it may keep every sixteenth row and work the others out when wanted'
unfoldable pub small_rows : ℕ → ℕ
small_rows h = h / 16 + 16

module _ (t : List ℕ) where
  unfoldable pub small_need : ℕ → ℕ
  small_need h = small_rows h * joint_states t

  unfoldable pub small : ℕ → List ℕ → List ℕ → List ℕ → Answer
  small h is cells out = sized_for t (small_rows h) h cells (list_rows t h is out)

  unfoldable pub small_output : ℕ → List ℕ → List ℕ → List ℕ → List ℕ
  small_output h is cells out = output_after (small h is cells out) (concat_map (unrank (rig_automaton t) h (start t)) is) out

  abbrev pub SmallKeeps : ℕ → List ℕ → List ℕ → List ℕ → List ℕ → Type 0
  SmallKeeps h is cells out left = CellsFreed (small h is cells out) (small_need h) cells left

-- ---- what is owed

-- 'one that needs (⌊h/16⌋ + 16) × P cells. .. Its need replaces the one in refusal 8 for this call.'
unfoldable pub Case8Small : List ℕ → ℕ → List ℕ → Type 0
Case8Small t h cells = length cells < (h / 16 + 16) * joint_states t

pub record SmallOwed (t : List ℕ) (h : ℕ) (is cells out : List ℕ) : Type 0 where
  -- rows 1 to 8 and 16 to 18
  pub text : (n p : ℕ) → Fault t n p → small t h is cells out ≡ refused n p
  pub seven : Readable t → Case7 h → small t h is cells out ≡ refused 7 0
  pub eight : Readable t → (Case7 h → ⊥) → Case8Small t h cells → small t h is cells out ≡ refused 8 0
  -- 'Apart from 8 it gives the numbers and places that the old call gives with cells enough'
  pub as_scenarios : (Case8Small t h cells → ⊥) → (enough : List ℕ) → (Case8 t h enough → ⊥) → small t h is cells out ≡ scenarios t h is enough out
  -- 'and served lists agree byte by byte with that call's'
  pub same_bytes : (Case8Small t h cells → ⊥) → (enough : List ℕ) → (Case8 t h enough → ⊥) → small_output t h is cells out ≡ written t h is enough out
  pub output_left : OutputLeft (length is * h) (small t h is cells out) out (small_output t h is cells out)
  -- 'The needed cells are left free when served and after 9, 10 and 11, untouched after others; further ones keep theirs.'
  pub cells_left : (left : List ℕ) → SmallKeeps t h is cells out left ↔ CellsFree ((h / 16 + 16) * joint_states t) (9 ∷ 10 ∷ 11 ∷ []) (small t h is cells out) cells left
  -- no value is told, and 0 is no number of refusal
  pub shaped : Shaped 0 (small t h is cells out)
