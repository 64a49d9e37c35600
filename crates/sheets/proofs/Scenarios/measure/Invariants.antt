-- `sheets::Scenarios::measure`: the first k scenarios are measured, and fit. `one_part` is one scenario more. Assumes nothing.
use mathlib.Core.Path.{◌≡◌}
use Prim.Native.Nat.{◌-◌, ◌*◌, ◌≤◌}
use lib.ListN.{length}
use Rattle.promises.specs.Sheets.{sheet, events, scenario, sheet_text}
use Rattle.sheets.proofs.Scenarios.measure.Given as goal

abbrev pub invariant-loop-k : goal.invariant-loop-k
invariant-loop-k l =
    (l.k ≤ l.self.m) × (l.length ≡ length (sheet_text l.k l.self.h l.self.g l.self.events.now)) × (l.length ≤ l.room)
    × (l.total ≡ events (sheet l.self.g (scenario l.self.h l.self.events.now) l.k)) × (l.total ≤ l.k * l.self.h)

abbrev pub decreases-loop-k : goal.decreases-loop-k
decreases-loop-k l = l.self.m - l.k
