-- Count from the front (02 no. 9): Count with cells for two rows.
--   forward_rows            == how many rows there is room for
--   Case8Forward t cells  == the cells are too few
--   forward                == the answer
--   ForwardKeeps t h cells left == what is known of the cells afterwards: the needed ones are left free
--   ForwardOwed t h cells       == what the call owes, in the request's words
-- Checks go as in Count; only the need in 8 is another. Assumes nothing.
use Rattle.std.specs.Prelude.{◌≡◌, ◌↔◌, List, [], ◌∷◌, ℕ, ◌*◌, ◌<◌, length}
use Rattle.automaton.specs.Forward.{ForwardCounts}
use Rattle.promises.specs.Answer.{Answer, refused}
use Rattle.promises.specs.Text.{joint_states, Readable, Fault, Case7, Case8}
use Rattle.promises.specs.Rig.{rig_automaton, start}
use Rattle.promises.specs.Calls.{CellsFreed, sized_for, total_rows, count}
use Rattle.promises.specs.Buffers.{CellsFree}
use Rattle.promises.specs.Shapes.{Shaped}

-- 'It takes 2 × P cells instead of all rows'
unfoldable pub forward_rows : ℕ
forward_rows = 2

module _ (t : List ℕ) where
  -- 'A second count ..': what Count tells from row 9 on, after its own need in row 8
  unfoldable pub forward : ℕ → List ℕ → Answer
  forward h cells = sized_for t forward_rows h cells (total_rows t h)

  abbrev pub ForwardKeeps : ℕ → List ℕ → List ℕ → Type 0
  ForwardKeeps h cells left = CellsFreed (forward h cells) (forward_rows * joint_states t) cells left

-- ---- what is owed

-- 'It takes 2 × P cells instead of all rows, else 8'
unfoldable pub Case8Forward : List ℕ → List ℕ → Type 0
Case8Forward t cells = length cells < 2 * joint_states t

pub record ForwardOwed (t : List ℕ) (h : ℕ) (cells : List ℕ) : Type 0 where
  -- 'A second count begins with 1 at a live start, pushes it forward event by event through live states, and adds all states after h steps. Each sum
  -- stops at 18,446,744,073,709,551,615.' So counted it is N, cut off, in whatever order the sums are added.
  pub counts : ForwardCounts (rig_automaton t) (start t) h
  -- rows 1 to 8 and 16 to 18
  pub text : (n p : ℕ) → Fault t n p → forward t h cells ≡ refused n p
  pub seven : Readable t → Case7 h → forward t h cells ≡ refused 7 0
  pub eight : Readable t → (Case7 h → ⊥) → Case8Forward t cells → forward t h cells ≡ refused 8 0
  -- 'they are left free when served and after 9 and 10, untouched after others; further cells keep theirs.'
  pub cells_left : (left : List ℕ) → ForwardKeeps t h cells left ↔ CellsFree (2 * joint_states t) (9 ∷ 10 ∷ []) (forward t h cells) cells left
  -- 'Apart from 8 it gives N, passes and refusals as Count does with cells enough.'
  pub as_count : (Case8Forward t cells → ⊥) → (enough : List ℕ) → (Case8 t h enough → ⊥) → forward t h cells ≡ count t h enough
  -- 'it gives N, passes': two values are told, and 0 is no number of refusal
  pub shaped : Shaped 2 (forward t h cells)
