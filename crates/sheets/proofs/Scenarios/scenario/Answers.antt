-- `sheets::Scenarios::scenario`: the part of h events from k × h on. Assumes nothing.
use native.Mathlib.Nat.{add-sub_cancel_left}
use Rattle.promises.specs.Demand3.{block}
use Rattle.promises.specs.Sheets.{scenario}
use Rattle.sheets.proofs.Scenarios.scenario.Goals as goal

pub returns : goal.returns
returns c = unfold scenario block in (rw add-sub_cancel_left)
