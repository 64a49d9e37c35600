-- The invariant: of each scenario as many events are left as the rows of the blocks left. At the start all are left (`begun_none`), at the end none
-- (`all_written`).
use mathlib.Core.Path.{◌≡◌}
use Prim.Native.Nat.{◌+◌, ◌-◌, ◌*◌, ◌/◌, ◌<◌, min}
use lib.ListN.{length}
use Rattle.automaton.specs.Automaton.{Automaton}
use Rattle.automaton.specs.Counting.{N, most}
use Rattle.counting.specs.Tabled.{Tabled}
use Rattle.ranking.specs.Ranks.{IndicesBelow}
use Rattle.keeping.specs.Keeping.{Past, Sixteenths}
use Rattle.batches.specs.Batches.{StatesBelow, AllBegun}
use Rattle.batches.proofs.unrank_batch.Given as goal

abbrev pub invariant-loop-q : goal.invariant-loop-q
invariant-loop-q l =
    (length l.standings ≡ length l.list) × (length l.cells ≡ length l.initial.cells) × (length l.out ≡ length l.initial.out) × StatesBelow l.table.states l.standings
    × ((A : Automaton) → Tabled A l.table.states l.table.entries.now → Sixteenths A l.table.states (l.h / 16) l.initial.cells → N A l.h l.x < most → IndicesBelow (N A l.h l.x) l.list
    → AllBegun A l.x l.h l.list (l.h - min l.h (16 * l.q)) (min l.h (16 * l.q)) l.standings l.out × Past (length l.list * l.h) l.initial.out l.out × Sixteenths A l.table.states (l.h / 16) l.cells × Past ((l.h / 16 + 16) * l.table.states) l.initial.cells l.cells)
