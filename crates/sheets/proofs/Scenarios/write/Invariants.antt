-- `sheets::Scenarios::write`: the commands of the first k scenarios stand at the front. `one_part` is one scenario more. Assumes nothing.
use Prim.Native.Nat.{◌≤◌}
use Rattle.line.specs.Sinks.{Fronts}
use Rattle.promises.specs.Sheets.{sheet_text}
use Rattle.sheets.proofs.Scenarios.write.Given as goal

abbrev pub invariant-loop-k : goal.invariant-loop-k
invariant-loop-k l = (l.k ≤ l.self.m) × Fronts l.initial.front (sheet_text l.k l.self.h l.self.g l.self.events.now) l.front
