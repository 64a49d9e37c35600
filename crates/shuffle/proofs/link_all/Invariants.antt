-- After i steps each head is the last of its bucket's steps, and each link the last one before its step; a step that becomes the head takes
-- the old head as its link.
use Rattle.std.proofs.Common.{◌++◌}
use Rattle.shuffle.specs.Places.{Kept}
use Rattle.shuffle.proofs.Chains.{Chains}
use Rattle.shuffle.proofs.link_all.Given as goal

abbrev pub invariant-loop-i : goal.invariant-loop-i
invariant-loop-i l = Kept l.draws (l.fn.heads ++ l.fn.links) (l.heads ++ l.links) × Chains l.draws l.i (l.heads ++ l.links)
