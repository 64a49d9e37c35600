use native.Mathlib.Omega.{arith}
use mathlib.Core.Path.{sym, ap, ◌∙◌}
use Rattle.promises.specs.Text.{fields}
use Rattle.decoding.specs.Forms.{left_of}
use Rattle.decoding.proofs.Parts.{split_on-whole}
use Rattle.decoding.proofs.Numbers.{fields_parted}
use Rattle.decoding.proofs.Fields.first.Goals as goal

pub returns-in_err-self : goal.returns-in_err-self
returns-in_err-self c = rw (c.from_residual.ensures, ← c.self.view_is, c.in_err-self.was) (omega arith)

pub returns-in_err-field : goal.returns-in_err-field
unfolding fields
returns-in_err-field c = rw (c.from_residual-in_err-field.ensures, ← c.self.view_is, c.in_ok-self.was, split_on-whole 9 c.in_ok-self.field-0.now c.in_err-field.ensures) (omega arith)

pub returns : goal.returns
returns c = sym c.self.view_is ∙ ap left_of c.in_ok-self.was ∙ fields_parted _ _ _ c.in_ok-field.ensures
