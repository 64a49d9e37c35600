-- Rows 9 and 10 by the cell of the start: a cell is N, cut off at 2^64 − 1. Assumes nothing.
use mathlib.Core.Path.{◌≡◌, sym}
use mathlib.Core.Logic.{⊎_elim}
use Prim.Native.Nat.{ℕ, ◌≤◌, ◌<◌, min}
use native.Mathlib.Omega.{arith}
use borrow.Author.Tests.{eq-eqb, ne_eqb, le-leb, lt-leb}
use Rattle.std.specs.Prelude.{⊤, Ok, Err}
use Rattle.lists.proofs.Tests.{split}
use Rattle.automaton.specs.Counting.{most}
use Rattle.promises.specs.Answer.{Answer}
use Rattle.promises.specs.Calls.{count_rows}
use Rattle.refusal.specs.declared.Refusal.{Refusal}
use Rattle.refusal.specs.declared.Refusal.TheVariants.{NoScenario, TooManyScenarios}
use Rattle.refusal.specs.Numbers.{refused_by}
use Rattle.filling.specs.Filling.{TellsRows}

pub tells_9 : (c : ℕ) → c ≡ 0 → TellsRows {K = ⊤} c (Err NoScenario)
unfolding most
tells_9 c z = record { answer = λ n a q. rw (eq-eqb n 0 (omega arith)); some = tt; few = tt }

pub tells_10 : (c : ℕ) → c ≡ 18446744073709551615 → TellsRows {K = ⊤} c (Err TooManyScenarios)
unfolding most
tells_10 c z = record { answer = λ n a q. rw (ne_eqb n 0 (omega arith), le-leb 18446744073709551615 n (omega arith)); some = tt; few = tt }

pub tells_on : (c : ℕ) → c ≤ 18446744073709551615 → (c ≡ 0 → ⊥) → (c ≡ 18446744073709551615 → ⊥) → TellsRows {K = ⊤} c (Ok tt)
unfolding most
tells_on c le z m = record { answer = λ n a q. rw (ne_eqb n 0 (λ e. z (omega arith)), lt-leb 18446744073709551615 n (low n q)); some = ⊎_elim (λ h. h) (λ h. absurd (z (omega arith))) (split 1 c); few = ⊎_elim (λ h. absurd (m (omega arith))) (λ h. h) (split 18446744073709551615 c) }
  where
    low : (n : ℕ) → c ≡ min n 18446744073709551615 → n < 18446744073709551615
    low n q = ⊎_elim (λ h. absurd (m (omega arith))) (λ h. h) (split 18446744073709551615 n)

-- ---- what the start's cell tells of N

module _ {K : Type 0} (n : ℕ) {c : ℕ} (cut : c ≡ min n most) where
  pub cell_refused : {e : Refusal} → TellsRows {K = K} c (Err e) → (a : Answer) → refused_by e ≡ count_rows n a
  cell_refused tells a = sym (tells.answer n a cut)

  module _ {k : K} (tells : TellsRows c (Ok k)) where
    pub cell_passed : (a : Answer) → a ≡ count_rows n a
    cell_passed a = sym (tells.answer n a cut)

    pub cell_exact : c ≡ n
    cell_exact = omega (arith, tells.few)

    pub cell_few : n < most
    cell_few = omega (arith, tells.few, cell_exact)
