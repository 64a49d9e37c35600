-- The fields of the events so far are put. Assumes nothing.
use Prim.Native.Nat.{◌≤◌}
use lib.ListN.{length, take}
use Rattle.lists.specs.Lists.{concat_map}
use Rattle.line.specs.Line.{field_bytes}
use Rattle.line.proofs.Sink.put_fields.Given as goal

abbrev pub invariant-loop-event : goal.invariant-loop-event
invariant-loop-event g l = (l.event-index ≤ length l.events) × g.Self.Sink.puts l.initial.self (concat_map field_bytes (take l.event-index l.events)) l.self
