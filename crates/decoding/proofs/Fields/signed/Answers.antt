use Rattle.promises.specs.Text as text
use Rattle.decoding.proofs.Numbers.{field_read, field_alone}
use Rattle.decoding.proofs.Fields.signed.Goals as goal

pub returns-in_err-first : goal.returns-in_err-first
returns-in_err-first c = rw c.from_residual.ensures (field_alone text.signed _ c.first.new.self c.in_err-first.ensures)

pub returns : goal.returns
returns c = rw c.in_ok-first.ensures (field_read text.signed _ _ _ c.signed.ensures)
