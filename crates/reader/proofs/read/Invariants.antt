-- The invariant: the lines passed hold no case and are those of the draft, and reading the text is reading what is left after them.
-- Each line either stops the reading with its number and place or is passed; at the end the draft's tables are the record.
-- Assumes nothing.
use lib.ListN.{length}
use Rattle.rig.specs.Record.{empty_rig}
use Rattle.reader.proofs.Passing.{Passed}
use Rattle.reader.proofs.read.Given as goal

-- the parts of the draft are its fields, in their order: moves, stops, given, counts, starts, order and sizes
abbrev pub invariant-loop-rest : goal.invariant-loop-rest
invariant-loop-rest l = let d = l.draft in Passed empty_rig l.text d.1.1.1.1.1.1.0 l.line l.rest d.0 d.1.0 d.1.1.0 d.1.1.1.0 d.1.1.1.1.0 d.1.1.1.1.1.0

abbrev pub decreases-loop-rest : goal.decreases-loop-rest
decreases-loop-rest l = length l.rest
