-- A field of one byte is its digits; of the others those of more than five bytes, or with a first 0, are no number.
-- Assumes nothing.
use mathlib.Core.Path.{sym, ◌∙◌}
use native.Mathlib.Omega.{arith}
use Rattle.decoding.proofs.Numbers.{number-empty, number-long, number_zero, number-one, number_digits}
use Rattle.decoding.proofs.number.Goals as goal

pub returns-in-0 : goal.returns-in-0
returns-in-0 c = sym (number-empty c.args.field.now c.in-0.is)

pub returns-in-1 : goal.returns-in-1
returns-in-1 c = c.digits_value.ensures ∙ sym (number-one c.args.field.now c.in-1.is)

pub returns-in-2-to-5 : goal.returns-in-2-to-5
returns-in-2-to-5 c = sym (number_zero c.args.field.now (omega arith) c.if-field-eq48.true)

pub returns-in-2-to-5-2 : goal.returns-in-2-to-5-2
returns-in-2-to-5-2 c = c.digits_value-in-2-to-5-2.ensures ∙ sym (number_digits c.args.field.now (omega arith) (omega arith) c.if-field-eq48.false)

pub returns-in_default : goal.returns-in_default
returns-in_default c = sym (number-long c.args.field.now (omega arith))
