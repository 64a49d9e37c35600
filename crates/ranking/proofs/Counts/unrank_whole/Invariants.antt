-- The invariant: the first events stand at the front, and the rest is the scenario of what is left of the index from the state reached. The next part is unranked
-- by the rows of what is left after it (`next_exact`) and follows them (`next_begun`).
use mathlib.Core.Path.{◌≡◌}
use Prim.Native.Nat.{◌-◌, ◌*◌, ◌<◌, min}
use lib.ListN.{length}
use Rattle.automaton.specs.Automaton.{Automaton}
use Rattle.automaton.specs.Counting.{N}
use Rattle.ranking.specs.Ranks.{Exact, Begun}
use Rattle.ranking.proofs.Counts.unrank_whole.Given as goal

abbrev pub invariant-loop-part : goal.invariant-loop-part
invariant-loop-part l =
    (length l.out ≡ l.h) × (l.state < l.self.states)
    × ((A : Automaton) → Exact A l.self.states 0 l.h l.x l.self.table.now l.self.cells.now → l.i < N A l.h l.x → Begun A l.x l.h l.i (min (l.part * 64) l.h) (l.h - min (l.part * 64) l.h) l.state l.rest 0 l.out)
