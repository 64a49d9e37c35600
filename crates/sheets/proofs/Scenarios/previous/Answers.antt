-- `sheets::Scenarios::previous`: scenario number k - 1, where k is not 0. Assumes nothing.
use mathlib.Core.Path.{◌∙◌}
use Rattle.promises.specs.Sheets.{scenario, previous}
use Rattle.sheets.proofs.SharedStarts.{previous-next}
use Rattle.sheets.proofs.Scenarios.previous.Goals as goal

pub returns-then-k-eq0 : goal.returns-then-k-eq0
returns-then-k-eq0 c = unfold previous in (rw c.if-k-eq0.true)

pub returns : goal.returns
returns c = c.scenario.ensures ∙ previous-next (scenario c.args.self.now.h c.args.self.now.events.now) c.args.k c.if-k-eq0.false
