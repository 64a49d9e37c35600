-- After the word and its byte 9 comes the number, to the end of the line. Assumes nothing.
use mathlib.Core.Path.{◌∙◌}
use Rattle.listing.proofs.Asking.{asked-number, asked-nothing}
use Rattle.listing.proofs.asked_in.Goals as goal

pub returns-in_err-strip_prefix : goal.returns-in_err-strip_prefix
returns-in_err-strip_prefix c = rw c.from_residual.ensures (asked-nothing c.args.line.now c.in_err-strip_prefix.ensures.cases)

pub returns : goal.returns
returns c = let p = c.in_ok-strip_prefix.ensures.cases in c.number.ensures ∙ asked-number c.args.line.now _ p.0 p.1
