-- A refusal up to row 8 is the answer itself, and else the record stands for the text, so what is counted of the record is counted of the text.
-- Assumes nothing.
use mathlib.Core.Path.{◌∙◌}
use Rattle.filling.proofs.Rows.{told_err, early_count, early_count_cells, count_cells_are}
use Rattle.generator.proofs.Laws.{count_told}
use Rattle.generator.proofs.count.Goals as goal

pub returns-in_err-loaded : goal.returns-in_err-loaded
returns-in_err-loaded c =
    let op = c.in_err-loaded.ensures in
    record {
      result_value = told_err _ c.from_residual.result _ c.from_residual.ensures.1 ∙ early_count c.args.cells.now op;
      cells_after = early_count_cells c.args.cells.now op;
    }

pub returns : goal.returns
returns c =
    let op = c.in_ok-loaded.ensures in
    let f = c.count_cells.ensures in
    record {
      result_value = count_told c.args.cells.now op _ f;
      cells_after = count_cells_are c.args.cells.now op _ f.cells_filled;
    }
