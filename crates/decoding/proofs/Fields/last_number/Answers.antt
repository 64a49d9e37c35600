use mathlib.Core.Path.{refl}
use Rattle.promises.specs.Text.{field}
use Rattle.promises.specs.Text as text
use Rattle.decoding.proofs.Numbers.{number-free, last_read}
use Rattle.decoding.proofs.Fields.last_number.Goals as goal

pub returns-in_err-self : goal.returns-in_err-self
unfolding field
returns-in_err-self c = rw (c.from_residual.ensures, ← c.self.view_is, c.in_err-self.was) (λ l. refl)

pub returns : goal.returns
returns c = rw (← c.self.view_is, c.in_ok-self.was) (last_read text.number number-free c.in_ok-self.field-0.now _ c.number.ensures)
