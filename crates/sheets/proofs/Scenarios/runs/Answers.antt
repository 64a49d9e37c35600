-- `sheets::Scenarios::runs`: the tail of scenario number k after the one before it. Assumes nothing.
use mathlib.Core.Path.{◌∙◌, ap₂}
use Rattle.promises.specs.Sheets.{tail}
use Rattle.sheets.proofs.Scenarios.runs.Goals as goal

pub returns : goal.returns
returns c =
    let st = c.args.self.now in
    c.tail.ensures ∙ ap₂ (tail st.g) c.previous.ensures c.scenario.ensures
