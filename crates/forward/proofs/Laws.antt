-- What the steps of the call come to, case by case. Assumes nothing.
use mathlib.Core.Path.{◌≡◌, ap, ◌∙◌}
use mathlib.Core.List.{List, [], ◌∷◌}
use Prim.Native.Nat.{ℕ, ◌*◌, min}
use lib.ListN.{length}
use Rattle.std.specs.Prelude.{⊤, Ok, Err}
use Rattle.automaton.specs.Automaton.{Automaton}
use Rattle.automaton.specs.Pruning.{passes}
use Rattle.automaton.specs.Counting.{N, most}
use Rattle.rig.specs.Record.{record_automaton}
use Rattle.promises.specs.Answer.{served}
use Rattle.promises.specs.Text.{joint_states}
use Rattle.promises.specs.Calls.{count_from, Freed, total_rows}
use Rattle.promises.specs.Forward.{forward_rows, forward, ForwardKeeps}
use Rattle.promises.proofs.Meaning.{rig-states}
use Rattle.refusal.specs.declared.Refusal.{Refusal}
use Rattle.refusal.specs.Numbers.{refused_by}
use Rattle.checks.specs.Loading.{Opens}
use Rattle.checks.specs.declared.loaded.Loaded.{Loaded}
use Rattle.filling.specs.Filling.{TellsRows}
use Rattle.filling.proofs.CountRows.{cell_passed, cell_exact}
use Rattle.filling.proofs.Rows.{early_answer, early_freed, passed_freed, total_rows_are, total-rows_fill}

-- N and the passes, told
pub told-forward : (A : Automaton) (h x c s : ℕ) → TellsRows {K = ⊤} c (Ok tt) → c ≡ min (N A h x) most → s ≡ passes A → served (c ∷ s ∷ []) ≡ count_from A h x
told-forward A h x c s tells cut p = rw (cell_exact (N A h x) cut tells, p) (cell_passed (N A h x) cut tells _)

module _ {t : List ℕ} {h : ℕ} (cells : List ℕ) {e : Refusal} (op : Opens t forward_rows h (length cells) (Err e)) where
  pub early_forward : refused_by e ≡ forward t h cells
  unfolding forward
  early_forward = early_answer cells op _

  pub early_keeps : ForwardKeeps t h cells cells
  unfolding forward
  early_keeps = early_freed cells op _ _

module _ {t : List ℕ} {h : ℕ} (cells : List ℕ) {o : Loaded} (op : Opens t forward_rows h (length cells) (Ok o)) where
  pub forward_is : count_from (record_automaton o.rig) h o.start ≡ forward t h cells
  unfolding forward
  forward_is = total_rows_are cells op

  pub forward_keeps : (after : List ℕ) → Freed (forward_rows * o.states) cells after → ForwardKeeps t h cells after
  unfolding forward
  forward_keeps after w = passed_freed cells op (total_rows t h) _ after (total-rows_fill t h) (rw need at w)
    where
      need : forward_rows * o.states ≡ forward_rows * joint_states t
      need = ap (λ (p : ℕ). forward_rows * p) (op.ready.fits.joint ∙ ap (λ A. A.states) op.ready.automaton ∙ rig-states t)
