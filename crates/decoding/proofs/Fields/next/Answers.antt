-- The first field is what stands before the first byte 9, or all that is left.
use mathlib.Core.Path.{sym, ap, ◌∙◌}
use Rattle.promises.specs.Text.{fields}
use Rattle.decoding.specs.Forms.{left_of}
use Rattle.decoding.proofs.Parts.{split_on-whole}
use Rattle.decoding.proofs.Numbers.{fields_parted}
use Rattle.decoding.proofs.Fields.next.Goals as goal

pub returns-in-Some : goal.returns-in-Some
returns-in-Some c = sym c.self.view_is ∙ ap left_of c.in_ok-rest.was ∙ fields_parted _ _ _ c.in-Some.ensures

pub returns-in-None : goal.returns-in-None
unfolding fields
returns-in-None c = sym c.self.view_is ∙ ap left_of c.in_ok-rest.was ∙ split_on-whole 9 c.in_ok-rest.rest.now c.in-None.ensures
