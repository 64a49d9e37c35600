-- The invariant: the scenarios of the first n indices stand at the front, the other bytes as they were. The part lent begins where they end, at n × h
-- (`length-unrank`), and comes back with one scenario more (`walk_step`).
use mathlib.Core.Path.{◌≡◌}
use mathlib.Core.List.{◌++◌}
use Prim.Native.Nat.{◌*◌}
use lib.ListN.{length, take, drop}
use Rattle.lists.specs.Lists.{concat_map}
use Rattle.automaton.specs.Automaton.{Automaton}
use Rattle.automaton.specs.Counting.{N}
use Rattle.automaton.specs.Ranking.{unrank}
use Rattle.ranking.specs.Ranks.{Exact, IndicesBelow}
use Rattle.ranking.proofs.Counts.unrank_all.Given as goal

abbrev pub invariant-loop-n : goal.invariant-loop-n
invariant-loop-n l =
    (length l.out ≡ length l.initial.out)
    × ((A : Automaton) → Exact A l.self.states 0 l.h l.x l.self.table.now l.self.cells.now → IndicesBelow (N A l.h l.x) l.list → l.out ≡ concat_map (unrank A l.h l.x) (take l.n l.list) ++ drop (l.n * l.h) l.initial.out)
