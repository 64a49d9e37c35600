-- The invariant: the events passed lead to the state reached by live states, and the index so far is their part of the rank (`Along`). Each event goes on
-- so (`along_step`) or is the violation (`along_off`); at the end nothing is left to rank (`along_end`).
use Prim.Native.Nat.{◌<◌}
use lib.ListN.{length}
use Rattle.automaton.specs.Automaton.{Automaton}
use Rattle.ranking.specs.Ranks.{Exact}
use Rattle.ranking.proofs.Along.{Along}
use Rattle.ranking.proofs.Counts.rank.Given as goal

abbrev pub invariant-loop-k : goal.invariant-loop-k
invariant-loop-k l =
    (l.at < l.self.states) × ((A : Automaton) → Exact A l.self.states 0 (length l.s) l.x l.self.table.now l.self.cells.now → Along A l.x l.s l.k l.at l.index)
