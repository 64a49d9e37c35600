-- A refusal up to row 8, or of row 9 or 10, is the answer itself, and else the record stands for the text, so what is counted of the record is counted
-- of the text, and the cells and the table serve the lines. Assumes nothing.
use mathlib.Core.Path.{refl, ◌∙◌}
use Rattle.filling.proofs.Rows.{early_count, early_count_cells, count_is, count_cells_are, told_refused}
use Rattle.listing.proofs.Beginning.{begins_as, refused_so, begins-counted}
use Rattle.listing.proofs.begin_text.Goals as goal

pub returns-in_err-loaded : goal.returns-in_err-loaded
returns-in_err-loaded c = let op = c.in_err-loaded.ensures in record {
  begins_text = refused_so _ _ c.from_residual.result _ c.from_residual.ensures.1 (early_count c.args.cells.now op);
  cells_after = early_count_cells c.args.cells.now op;
}

pub returns-in_err-counted : goal.returns-in_err-counted
returns-in_err-counted c = let op = c.in_ok-loaded.ensures in let fs = c.in_err-counted.ensures in record {
  begins_text = refused_so _ _ c.from_residual-in_err-counted.result _ c.from_residual-in_err-counted.ensures.1 (told_refused fs _ ∙ count_is c.args.cells.now op);
  cells_after = count_cells_are c.args.cells.now op _ fs.cells_filled;
}

pub returns : goal.returns
returns c =
    let op = c.in_ok-loaded.ensures in
    let fs = c.in_ok-counted.ensures in
    record {
      begins_text = begins_as _ _ _ _ _ _ _ _ _ _ _ _ _ (count_is c.args.cells.now op) op.ready.automaton op.ready.starts refl
          (begins-counted c.in_ok-loaded.loaded c.args.h c.write_numbers.result c.min.result c.in_ok-counted.counted c.args.cells.now c.args.line.now _ _ _ op.ready.fits c.requires.cells_long fs c.min.ensures
          (record { told = c.write_numbers.ensures.value; written = c.write_numbers.ensures.out_after }));
      cells_after = count_cells_are c.args.cells.now op _ fs.cells_filled;
    }
