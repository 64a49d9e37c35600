-- After i steps the places held have the arrangement that i draws make, and the output their numbers; the numbers drawn in all steps are
-- the shuffle.
use Rattle.std.proofs.Common.{◌≡◌, ◌++◌, length, drop}
use Rattle.lists.specs.Lists.{tabulate}
use Rattle.shuffle.specs.Places.{drawn, Held}
use Rattle.shuffle.proofs.swap_all.Given as goal

abbrev pub invariant-loop-i : goal.invariant-loop-i
invariant-loop-i l = Held (length l.numbers) l.draws l.i l.numbers × (l.out ≡ tabulate (drawn l.draws) l.i ++ drop l.i l.initial.out)
