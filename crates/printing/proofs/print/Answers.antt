-- The lines of the indices from 0 to before 1,000 are all.
use Rattle.printing.proofs.Parts.{part_all}
use Rattle.printing.proofs.print.Goals as goal

pub returns : goal.returns
returns g c = rw (← part_all c.args.input.now) c.print_part.ensures
