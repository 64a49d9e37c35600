-- What the steps of the call come to, case by case. Assumes nothing.
use mathlib.Core.Path.{◌≡◌, ap, ◌∙◌}
use mathlib.Core.Bool.{true}
use mathlib.Core.List.{List}
use Prim.Native.Nat.{ℕ, ◌+◌, ◌*◌, ◌/◌, ◌%◌, ◌≤◌, ◌<◌, min}
use native.Mathlib.Omega.{arith}
use lib.ListN.{length, get_or}
use lib.Dec.{ltb}
use Rattle.std.specs.Prelude.{Ok, Err}
use Rattle.automaton.specs.Automaton.{Automaton}
use Rattle.automaton.specs.Counting.{N, most, cell}
use Rattle.rig.specs.Record.{record_automaton}
use Rattle.promises.specs.Answer.{Answer, refused}
use Rattle.promises.specs.Calls.{Freed, CellsFreed, fills, output_after}
use Rattle.promises.specs.Small.{small_rows, small_need, small, small_output, SmallKeeps}
use Rattle.promises.proofs.Meaning.{rig-states}
use Rattle.checks.specs.Loading.{Opens}
use Rattle.checks.specs.declared.loaded.Loaded.{Loaded}
use Rattle.refusal.specs.declared.Refusal.{Refusal}
use Rattle.refusal.specs.Numbers.{refused_by}
use Rattle.filling.proofs.Rows.{early_answer, early_freed, early_output, passed_freed}
use Rattle.keeping.specs.Keeping.{Kept, RowAt, Past}
use Rattle.keeping.proofs.Places.{place_below}
use Rattle.generator.specs.Outcomes.{list_from, output_from}
use Rattle.generator.proofs.Laws.{list_fills, list_short, list_are}

-- ---- the cells

-- the cell of x in row h is within the need
pub last-room : (h p x n : ℕ) → x < p → small_rows h * p ≤ n → (h / 16 + h % 16) * p + x < n
unfolding small_rows
last-room h p x n lt le = omega (arith, place_below (h / 16 + h % 16) (h / 16 + 16) p (omega arith))

pub last-cell : (A : Automaton) (p h x : ℕ) (cells left : List ℕ) → p ≡ A.states → x < p → Kept A p h cells left → get_or left ((h / 16 + h % 16) * p + x) 0 ≡ min (N A h x) most
unfolding RowAt cell
last-cell A p h x cells left q lt kept = kept.last x (omega arith)

-- the needed cells are left free
pub freed : (h p : ℕ) (cells left : List ℕ) → length left ≡ length cells → Past (small_rows h * p) cells left → Freed (small_rows h * p) cells left
unfolding Freed Past
freed h p cells left long past = (long, past)

-- ---- the call as the text sees it

module _ {t : List ℕ} {h : ℕ} (cells : List ℕ) {e : Refusal} (op : Opens t (small_rows h) h (length cells) (Err e)) (is out : List ℕ) where
  pub early_small : refused_by e ≡ small t h is cells out
  unfolding small
  early_small = early_answer cells op _

  pub early_keeps : SmallKeeps t h is cells out cells
  unfolding small
  early_keeps = early_freed cells op _ _

  pub early_small_output : out ≡ small_output t h is cells out
  unfolding small_output small
  early_small_output = early_output cells op _ _ out

module _ {t : List ℕ} {h : ℕ} (cells : List ℕ) {o : Loaded} (op : Opens t (small_rows h) h (length cells) (Ok o)) (is out : List ℕ) where
  -- 12
  module _ (short : ltb (length out) (length is * h) ≡ true) where
    pub short_small : refused 12 0 ≡ small t h is cells out
    unfolding small
    short_small = list_short cells op is out short

    pub short_keeps : SmallKeeps t h is cells out cells
    unfolding CellsFreed fills
    short_keeps = rw (← short_small)

    pub short_output : out ≡ small_output t h is cells out
    unfolding small_output output_after
    short_output = rw (← short_small)

  module _ (fit : length is * h ≤ length out) where
    pub small_is : list_from (record_automaton o.rig) h o.start is ≡ small t h is cells out
    unfolding small
    small_is = list_are cells op is out fit

    need_is : small_rows h * o.states ≡ small_need t h
    unfolding small_need
    need_is = ap (λ (p : ℕ). small_rows h * p) (op.ready.fits.joint ∙ ap (λ A. A.states) op.ready.automaton ∙ rig-states t)

    pub small_keeps : (after : List ℕ) → Freed (small_rows h * o.states) cells after → SmallKeeps t h is cells out after
    unfolding small
    small_keeps after w = passed_freed cells op _ (small_need t h) after (list_fills t h is out fit) (rw need_is at w)

    pub small_output_lem : (a : Answer) (after : List ℕ) → a ≡ small t h is cells out → after ≡ output_from (record_automaton o.rig) h o.start a is out → after ≡ small_output t h is cells out
    unfolding small_output
    small_output_lem a after f q = rw (← f, ← op.ready.automaton, ← op.ready.starts) q

    -- 9 and 10
    pub refused_output : (e : Refusal) → refused_by e ≡ small t h is cells out → out ≡ small_output t h is cells out
    unfolding small_output output_after
    refused_output e q = rw (← q)
