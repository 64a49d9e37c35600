-- `sheets::sheet`: the checks in their order; then the sheet, which is known to fit, is written. Assumes nothing.
use mathlib.Core.Path.{sym, ◌∙◌}
use mathlib.Mathlib.Data.Bool.Basic.{eq-true_of_not-eq-false', eq-false_of_not-eq-true'}
use mathlib.Core.Path.{◌≡◌}
use mathlib.Core.Bool.{true, not}
use Prim.Native.Nat.{ℕ, ◌≤◌}
use lib.Dec.{ltb}
use native.Mathlib.Nat.{pos_of_ne-zero}
use borrow.Author.Tests.{ltb-true, ltb-false}
use Rattle.sheets.proofs.Answers.{refused_7, refused_20, too_few, too_many, too_long, all_served}
use Rattle.lists.proofs.Tests.{uncurry}
use Rattle.sheets.proofs.sheet.Goals as goal

enough : (n m : ℕ) → not (ltb n m) ≡ true → m ≤ n
enough n m q = ltb-false n m (eq-false_of_not-eq-true' q)

pub returns-then-h-gt1000 : goal.returns-then-h-gt1000
returns-then-h-gt1000 c =
    let st = c.args in
    uncurry (λ v o. record { result_value = v; out_after = o })
    (refused_7 st.m st.h st.g st.scenarios.now st.out.now c.if-h-gt1000.true)

pub returns-then-g-eq0 : goal.returns-then-g-eq0
returns-then-g-eq0 c =
    let st = c.args in
    uncurry (λ v o. record { result_value = v; out_after = o })
    (refused_20 st.m st.h st.g st.scenarios.now st.out.now c.if-h-gt1000.false c.if-g-eq0.true)

pub returns-then-not-fits : goal.returns-then-not-fits
returns-then-not-fits c =
    let st = c.args in
    uncurry (λ v o. record { result_value = v; out_after = o })
    (too_few st.m st.h st.g st.scenarios.now st.out.now c.if-h-gt1000.false c.if-g-eq0.false (ltb-true _ _ (eq-true_of_not-eq-false' (sym c.fits.ensures ∙ c.if-not-fits.true))))

pub returns-then-out-count : goal.returns-then-out-count
returns-then-out-count c =
    let st = c.args in
    uncurry (λ v o. record { result_value = v; out_after = o })
    (too_many st.m st.h st.g st.scenarios.now st.out.now c.if-h-gt1000.false c.if-g-eq0.false c.if-out-count.true)

pub invariant_of-sheet : goal.invariant_of-sheet
invariant_of-sheet c = record { few = c.if-h-gt1000.false; spaced = pos_of_ne-zero c.if-g-eq0.false; enough = enough _ _ (sym c.fits.ensures ∙ c.if-not-fits.false) }

pub returns-in_default : goal.returns-in_default
returns-in_default c =
    let st = c.args in
    uncurry (λ v o. record { result_value = v; out_after = o })
    (too_long st.m st.h st.g st.scenarios.now st.out.now c.if-h-gt1000.false c.if-g-eq0.false c.in_default.ensures)

pub write-requires : goal.write-requires
write-requires c = c.in-Some.ensures.0

pub returns : goal.returns
returns c =
    let st = c.args in
    let told = c.in-Some.ensures in
    let (answer, written) = all_served st.m st.h st.g st.scenarios.now st.out.now c.if-h-gt1000.false c.if-g-eq0.false (enough _ _ (sym c.fits.ensures ∙ c.if-not-fits.false)) told.0 in
    record {
      result_value = rw (told.1, told.2) answer;
      out_after = c.write.ensures ∙ written;
    }
