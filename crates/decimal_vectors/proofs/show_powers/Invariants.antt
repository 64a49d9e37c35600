-- `decimal_vectors::show_powers`: no power is 0, and each is ten times the one before, so that the largest 64-bit number bounds the turns.
use Rattle.std.proofs.Common.{◌-◌, ◌≤◌}
use Rattle.decimal_vectors.proofs.show_powers.Given as goal

abbrev pub invariant-loop-next : goal.invariant-loop-next
invariant-loop-next g l = 1 ≤ l.power

abbrev pub decreases-loop-next : goal.decreases-loop-next
decreases-loop-next g l = 18446744073709551615 - l.power
