-- A refused text is refused as reading says, and a readable one by rows 7 and 8 of the record that stands for it. Assumes nothing.
use Rattle.checks.proofs.Laws.{loads-refused, loads-readable, read_well_formed}
use Rattle.checks.proofs.load.Goals as goal

pub check_sizes-requires : goal.check_sizes-requires
check_sizes-requires c = read_well_formed c.args.text.now _ c.in-Ok.ensures.value c.in-Ok.ensures.rig_value

pub returns-in-Ok : goal.returns-in-Ok
returns-in-Ok c = loads-readable c.args.text.now _ c.in-Ok.ensures.value c.in-Ok.ensures.rig_value _ c.args.h c.args.room _ _ c.check_sizes.ensures

pub returns-in-Err : goal.returns-in-Err
returns-in-Err c = rw c.empty_rig.ensures (loads-refused c.args.text.now _ c.args.h c.args.room _ c.in-Err.ensures.value)
