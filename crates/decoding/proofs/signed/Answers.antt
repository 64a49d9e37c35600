-- A minus sign before a number that is not 0, or a number.
-- Assumes nothing.
use mathlib.Core.Path.{◌≡◌, sym, ap, ◌∙◌}
use mathlib.Core.Option.{some}
use mathlib.Core.Bool.{true}
use mathlib.Core.List.{List}
use Prim.Native.Nat.{ℕ, ◌+◌}
use native.Mathlib.Omega.{arith}
use lib.IntN.{pos, ◌-ℤ◌}
use lib.ListN.{length, drop}
use mir.Syntax.{w64}
use mir.Val.{to_z, of_z}
use mir.ValLaws.{to_z_pos, to_z-of_z}
use Rattle.promises.specs.Text.{number, plus, minus, signed}
use Rattle.decoding.proofs.Signs.{number_small, minus_fits, minus-some, signed-first, signed-plus, signed-minus}
use Rattle.decoding.proofs.signed.Goals as goal

minus_read : (s digits : List ℕ) → (signed-first s ≡ true) × (digits ≡ drop 1 s) × (length digits + 1 ≡ length s) → minus (number digits) ≡ signed s
minus_read s digits h = ap (λ f. minus (number f)) h.1 ∙ sym (signed-minus s h.0)

pub returns-in_err-number : goal.returns-in_err-number
unfolding plus
returns-in_err-number c = rw c.from_residual.ensures (ap plus c.in_err-number.ensures ∙ sym (signed-plus c.args.field.now c.in_default.ensures.cases))

pub overflow_cast-result : goal.overflow_cast-result
overflow_cast-result c = record { sfits = omega (arith, number_small c.args.field.now c.in_ok-number.field-0 c.in_ok-number.ensures) }

pub returns-in_default : goal.returns-in_default
unfolding plus
returns-in_default c =
    let l = c.args.field.now in
    let n = c.in_ok-number.field-0 in
    ap some (to_z_pos w64 n (omega (arith, number_small l n c.in_ok-number.ensures))) ∙ ap plus c.in_ok-number.ensures ∙ sym (signed-plus l c.in_default.ensures.cases)

pub returns-in_err-n : goal.returns-in_err-n
unfolding minus
returns-in_err-n c = rw c.from_residual-in_err-n.ensures (ap minus c.in_err-n.ensures ∙ minus_read c.args.field.now c.in-Some.digits.now c.in-Some.ensures.cases)

pub overflow_cast-result-in_default-2 : goal.overflow_cast-result-in_default-2
overflow_cast-result-in_default-2 c = record { sfits = omega (arith, number_small c.in-Some.digits.now c.in_ok-n.n c.in_ok-n.ensures) }

pub overflow_sub-result : goal.overflow_sub-result
overflow_sub-result c =
    let n = c.in_ok-n.n in
    let small = number_small c.in-Some.digits.now n c.in_ok-n.ensures in
    rw (to_z_pos w64 n (omega (arith, small))) (minus_fits n small)

pub returns-in-0 : goal.returns-in-0
unfolding minus
returns-in-0 c = ap (λ m. minus (some m)) (sym c.in-0.is) ∙ ap minus c.in_ok-n.ensures ∙ minus_read c.args.field.now c.in-Some.digits.now c.in-Some.ensures.cases

pub returns-in_default-2 : goal.returns-in_default-2
returns-in_default-2 c =
    let n = c.in_ok-n.n in
    let small = number_small c.in-Some.digits.now n c.in_ok-n.ensures in
    ap some (ap (λ x. to_z w64 (of_z w64 (pos 0 -ℤ x))) (to_z_pos w64 n (omega (arith, small))) ∙ to_z-of_z w64 (pos 0 -ℤ pos n) (minus_fits n small))
    ∙ minus-some n (λ h. omega arith) ∙ ap minus c.in_ok-n.ensures ∙ minus_read c.args.field.now c.in-Some.digits.now c.in-Some.ensures.cases
