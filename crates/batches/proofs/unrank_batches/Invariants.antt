-- The invariant: the scenarios of the first batches stand at the front, and every sixteenth row is kept. The batch's scenarios follow them (`batch_more`).
use mathlib.Core.Path.{◌≡◌}
use mathlib.Core.List.{◌++◌}
use Prim.Native.Nat.{◌+◌, ◌*◌, ◌/◌, ◌<◌, min}
use lib.ListN.{length, take, drop}
use Rattle.lists.specs.Lists.{concat_map}
use Rattle.automaton.specs.Automaton.{Automaton}
use Rattle.automaton.specs.Counting.{N, most}
use Rattle.automaton.specs.Ranking.{unrank}
use Rattle.counting.specs.Tabled.{Tabled}
use Rattle.ranking.specs.Ranks.{IndicesBelow}
use Rattle.keeping.specs.Keeping.{Past, Sixteenths}
use Rattle.batches.proofs.unrank_batches.Given as goal

abbrev pub invariant-loop-batch : goal.invariant-loop-batch
invariant-loop-batch l =
    (length l.cells ≡ length l.initial.cells) × (length l.out ≡ length l.initial.out)
    × ((A : Automaton) → Tabled A l.table.states l.table.entries.now → Sixteenths A l.table.states (l.h / 16) l.initial.cells → N A l.h l.x < most → IndicesBelow (N A l.h l.x) l.list
    → (l.out ≡ concat_map (unrank A l.h l.x) (take (min (l.batch * 1024) (length l.list)) l.list) ++ drop (min (l.batch * 1024) (length l.list) * l.h) l.initial.out) × Sixteenths A l.table.states (l.h / 16) l.cells × Past ((l.h / 16 + 16) * l.table.states) l.initial.cells l.cells)
