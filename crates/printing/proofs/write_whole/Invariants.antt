-- The bytes before those that are left are written.
use Rattle.std.proofs.Common.{◌≡◌, List, ◌++◌, ℕ, length}
use Rattle.std.specs.Io.KnownBytes.{Appends}
use Rattle.printing.proofs.write_whole.Given as goal

abbrev pub invariant-loop-left : goal.invariant-loop-left
invariant-loop-left g l = (front : List ℕ) × (l.bytes ≡ front ++ l.left) × Appends (g.W.Write.contents l.initial.out) (g.W.Write.contents l.out) front

abbrev pub decreases-loop-left : goal.decreases-loop-left
decreases-loop-left g l = length l.left
