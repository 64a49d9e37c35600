-- The invariant: the sum is the counts of the live events passed, none of which is the one sought. An entry with that event tells its state
-- (`found_here`); where no live event is left the event leads to no live state (`found_nowhere`).
use mathlib.Core.Path.{◌≡◌}
use Prim.Native.Nat.{ℕ, ◌+◌, ◌*◌, ◌<◌}
use lib.ListN.{get_or, drop}
use Rattle.automaton.specs.Automaton.{Automaton}
use Rattle.automaton.specs.Counting.{N, most}
use Rattle.automaton.specs.Table.{live_events}
use Rattle.counting.specs.Tabled.{Tabled, HoldsRow}
use Rattle.counting.proofs.Sums.{up_to}
use Rattle.ranking.proofs.Counts.find_event.Given as goal

abbrev pub invariant-loop-entry : goal.invariant-loop-entry
invariant-loop-entry l =
    ((A : Automaton) (r : ℕ) → Tabled A l.self.states l.self.table.now → HoldsRow A r (drop (l.r * l.self.states) l.self.cells.now) → N A (r + 1) l.x < most → l.before ≡ up_to A r l.x l.entry-index)
    × ((A : Automaton) → Tabled A l.self.states l.self.table.now → (k : ℕ) → k < l.entry-index → get_or (live_events A l.x) k 0 ≡ l.e → ⊥)
