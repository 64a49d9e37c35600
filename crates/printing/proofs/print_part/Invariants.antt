-- The lines before line k are written, and line k stands at the front of the line.
use Rattle.std.proofs.Common.{◌≡◌, ℕ, ◌-◌, ◌≤◌, length}
use Rattle.std.specs.Io.KnownBytes.{Appends}
use Rattle.listing.specs.Listing.{answer, follow}
use Rattle.listing.specs.Printing.{StandsAt}
use Rattle.printing.proofs.Parts.{before}
use Rattle.printing.proofs.print_part.Given as goal

abbrev pub invariant-loop-cells : goal.invariant-loop-cells
invariant-loop-cells g l =
    (length l.line ≡ 4096)
    × ((k : ℕ) × StandsAt l.input k l.cursor l.cells l.table l.line × (k ≤ follow (answer l.input))
    × Appends (g.W.Write.contents l.initial.out) (g.W.Write.contents l.out) (before l.from l.to l.input k))

abbrev pub decreases-loop-cells : goal.decreases-loop-cells
decreases-loop-cells g l = l.cursor.lines - l.cursor.index
