-- The invariant: the bytes repeat exactly if those from here on do.
-- Assumes nothing.
use mathlib.Core.Path.{◌≡◌}
use lib.ListN.{length}
use Rattle.promises.specs.Reading as promised
use Rattle.taking.proofs.repeats.Given as goal

abbrev pub invariant-loop-bytes : goal.invariant-loop-bytes
invariant-loop-bytes l = promised.repeats l.fn.bytes ≡ promised.repeats l.bytes

abbrev pub decreases-loop-bytes : goal.decreases-loop-bytes
decreases-loop-bytes l = length l.bytes
