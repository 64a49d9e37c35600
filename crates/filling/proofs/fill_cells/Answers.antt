-- The cell of the start is N, cut off, so it tells rows 9 and 10. Assumes nothing.
use mathlib.Core.Path.{refl}
use Rattle.filling.proofs.Rows.{fills-told}
use Rattle.filling.proofs.fill_cells.Goals as goal

pub returns : goal.returns
returns c =
    let o = c.args.loaded.now in
    let f = c.prune_and_fill-passes.ensures in
    fills-told o c.args.h _ _ _ _ refl f.value f.cells_after f.tabled c.check_count.ensures
