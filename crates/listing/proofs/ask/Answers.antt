-- The first line is what stands before the first line end; without one there is no `ask` line. Assumes nothing.
use mathlib.Core.Path.{ap, sym, ◌∙◌}
use Rattle.listing.specs.Listing.{asked_in, text}
use Rattle.listing.proofs.Asking.{asked-ended, asked-unended}
use Rattle.listing.proofs.ask.Goals as goal

pub returns-in_default : goal.returns-in_default
returns-in_default c = asked-unended c.args.input.now c.in_default.ensures

pub returns-in_err-asked_in : goal.returns-in_err-asked_in
returns-in_err-asked_in c =
    let parted = c.in-Some.ensures in
    rw c.from_residual.ensures (asked-ended c.args.input.now parted.0 ∙ sym (ap asked_in parted.1) ∙ sym c.in_err-asked_in.ensures)

pub returns : goal.returns
unfolding text
returns c =
    let parted = c.in-Some.ensures in
    (asked-ended c.args.input.now parted.0 ∙ sym (ap asked_in parted.1) ∙ sym c.in_ok-asked_in.ensures, parted.2)
