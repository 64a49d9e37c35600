-- The invariant: the first k scenarios have their next n events, the others are as they were (`Passed`). The part lent is that of scenario k, and lies in its
-- own h bytes (`passed_more`).
use mathlib.Core.Path.{◌≡◌}
use mathlib.Core.List.{List}
use Prim.Native.Nat.{ℕ, ◌+◌, ◌*◌}
use lib.ListN.{length}
use Rattle.automaton.specs.Automaton.{Automaton}
use Rattle.counting.specs.Tabled.{Tabled}
use Rattle.ranking.specs.Ranks.{HoldsRows}
use Rattle.keeping.specs.Keeping.{Past}
use Rattle.batches.specs.Batches.{StatesBelow, AllBegun}
use Rattle.batches.proofs.Parts.{Passed}
use Rattle.batches.proofs.unrank_parts.Given as goal

abbrev pub invariant-loop-k : goal.invariant-loop-k
invariant-loop-k l =
    (length l.out ≡ length l.initial.out) × (length l.standings ≡ length l.initial.standings) × StatesBelow l.counts.states l.standings
    × ((A : Automaton) (b x : ℕ) (is : List ℕ) → Tabled A l.counts.states l.counts.table.now → HoldsRows A b l.n l.counts.cells.now → length is ≡ length l.initial.standings → AllBegun A x l.h is l.at (b + l.n) l.initial.standings l.initial.out
    → Passed A x l.h is l.at l.n b l.k l.standings l.out × Past (length is * l.h) l.initial.out l.out)
