-- The invariant: what is left of the index, with the counts of the live events passed, is the index. The first count above what is left is that of the
-- event it falls in (`choose_here`); where no live event is left there is none (`choose_none`).
use mathlib.Core.Path.{◌≡◌}
use Prim.Native.Nat.{ℕ, ◌+◌, ◌*◌, ◌≤◌}
use lib.ListN.{drop}
use Rattle.automaton.specs.Automaton.{Automaton}
use Rattle.automaton.specs.Counting.{N, most}
use Rattle.counting.specs.Tabled.{Tabled, HoldsRow}
use Rattle.counting.proofs.Sums.{up_to}
use Rattle.ranking.proofs.Counts.choose_event.Given as goal

abbrev pub invariant-loop-entry : goal.invariant-loop-entry
invariant-loop-entry l =
    (A : Automaton) (r : ℕ) → Tabled A l.self.states l.self.table.now → HoldsRow A r (drop (l.r * l.self.states) l.self.cells.now) → N A (r + 1) l.x ≤ most → l.left + up_to A r l.x l.entry-index ≡ l.i
