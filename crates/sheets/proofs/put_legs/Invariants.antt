-- `sheets::put_legs`: the text s of the legs so far is put, and with that of the rest it is all. Assumes nothing.
use mathlib.Core.Path.{◌≡◌}
use mathlib.Core.List.{List, ◌++◌}
use Prim.Native.Nat.{ℕ, ◌+◌, ◌≤◌}
use Rattle.std.specs.Slice.Iter.{chunks_rest, chunks_size}
use lib.ListN.{length}
use Rattle.sheets.specs.Writing.{legs_text}
use Rattle.sheets.proofs.put_legs.Given as goal

abbrev pub invariant-loop-run : goal.invariant-loop-run
invariant-loop-run g l =
    (goal.iterator-loop-run g).can_next l.run-iterator
    × (goal.iterator-loop-run g).is_finite l.run-iterator
    × (chunks_size l.run-iterator ≡ l.g)
    × (l.j + length (chunks_rest l.run-iterator) ≤ l.slot + length l.rest)
    × (s : List ℕ) × (legs_text l.g l.slot l.rest ≡ s ++ legs_text l.g l.j (chunks_rest l.run-iterator)) × g.S.Sink.puts l.initial.out s l.out
