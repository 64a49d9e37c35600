-- A refusal up to row 8, or 12, is the answer itself, with everything as it was; and else the record stands for the text. The start's cell tells row 9 or 10;
-- past them the first index that is not below the count is refused, or every scenario is written.
use mathlib.Core.Path.{◌∙◌, subst}
use Prim.Native.Nat.{ℕ, ◌*◌, ◌≤◌}
use native.Mathlib.Omega.{arith}
use lib.ListN.{length, length-replicate}
use Rattle.automaton.specs.Counting.{N}
use Rattle.promises.specs.Small.{small_rows}
use Rattle.rig.specs.Record.{record_automaton}
use Rattle.counting.proofs.Sums.{tabled_bounded}
use Rattle.ranking.specs.Ranks.{IndicesBelow}
use Rattle.ranking.proofs.Walk.{all_good}
use Rattle.filling.proofs.CountRows.{cell_refused, cell_passed, cell_exact, cell_few}
use Rattle.filling.proofs.Rows.{told_err}
use Rattle.filling.proofs.Laws.{few}
use Rattle.keeping.proofs.Places.{past_trans}
use Rattle.generator.proofs.Laws.{fits_true, fits_false, listed_some, listed_none}
use Rattle.small.proofs.Laws.{freed, early_small, early_keeps, early_small_output, short_small, short_keeps, short_output, small_is, small_keeps, small_output_lem, refused_output}
use Rattle.small.proofs.scenarios_small.Goals as goal

pub returns-in_err-loaded : goal.returns-in_err-loaded
returns-in_err-loaded c =
    let a = c.args in
    let op = c.in_err-loaded.ensures in
    record {
      result_value = told_err _ c.from_residual.result _ c.from_residual.ensures.1 ∙ early_small a.cells.now op a.list.now a.out.now;
      small_keeps = early_keeps a.cells.now op a.list.now a.out.now;
      out_after = early_small_output a.cells.now op a.list.now a.out.now;
    }

pub returns-then-not-fits : goal.returns-then-not-fits
returns-then-not-fits c =
    let a = c.args in
    let op = c.in_ok-loaded.ensures in
    let short = fits_false _ _ _ c.fits.ensures c.if-not-fits.true in
    record {
      result_value = short_small a.cells.now op a.list.now a.out.now short;
      small_keeps = short_keeps a.cells.now op a.list.now a.out.now short;
      out_after = short_output a.cells.now op a.list.now a.out.now short;
    }

pub returns-in_err-check_count : goal.returns-in_err-check_count
returns-in_err-check_count c =
    let a = c.args in
    let op = c.in_ok-loaded.ensures in
    let o = c.in_ok-loaded.loaded in
    let fit = fits_true _ _ _ c.fits.ensures c.if-not-fits.false in
    let f = c.keep_cells-count.ensures in
    let told = cell_refused (N (record_automaton o.rig) a.h o.start) f.counted c.in_err-check_count.ensures _ ∙ small_is a.cells.now op a.list.now a.out.now fit in
    record {
      result_value = told_err _ c.from_residual-in_err-check_count.result _ c.from_residual-in_err-check_count.ensures.1 ∙ told;
      small_keeps = small_keeps a.cells.now op a.list.now a.out.now fit _ (freed a.h o.states a.cells.now _ c.keep_cells-count.auto.cells f.past);
      out_after = refused_output a.cells.now op a.list.now a.out.now fit _ told;
    }

pub returns-in-Some : goal.returns-in-Some
returns-in-Some c =
    let a = c.args in
    let op = c.in_ok-loaded.ensures in
    let o = c.in_ok-loaded.loaded in
    let fit : length a.list.now * a.h ≤ length a.out.now = fits_true _ _ _ c.fits.ensures c.if-not-fits.false in
    let f = c.keep_cells-count.ensures in
    let n = N (record_automaton o.rig) a.h o.start in
    let tells = c.in_ok-check_count.ensures in
    let w = listed_some (record_automaton o.rig) a.h o.start _ a.list.now a.out.now a.out.now (cell_exact n f.counted tells) _ c.in-Some.ensures in
    let told = w.0 ∙ cell_passed n f.counted tells _ ∙ small_is a.cells.now op a.list.now a.out.now fit in
    record {
      result_value = told;
      small_keeps = small_keeps a.cells.now op a.list.now a.out.now fit _ (freed a.h o.states a.cells.now _ c.keep_cells-count.auto.cells f.past);
      out_after = small_output_lem a.cells.now op a.list.now a.out.now fit _ _ told w.1;
    }

pub invariant_of-table : goal.invariant_of-table
invariant_of-table c =
    let o = c.in_ok-loaded.loaded in
    record {
      rows = omega (arith, few o, c.keep_cells-count.auto.table, length-replicate {A = ℕ} 16384 0);
      bounded = tabled_bounded (record_automaton o.rig) o.states _ c.keep_cells-count.ensures.tabled (few o);
    }

pub unrank_batches-requires : goal.unrank_batches-requires
unfolding small_rows
unrank_batches-requires c =
    let o = c.in_ok-loaded.loaded in
    let room = c.in_ok-loaded.ensures.ready.fits.enough in
    (o.start_below, fits_true _ _ _ c.fits.ensures c.if-not-fits.false, omega (arith, c.keep_cells-count.auto.cells, room))

pub returns : goal.returns
unfolding small_rows
returns c =
    let a = c.args in
    let op = c.in_ok-loaded.ensures in
    let o = c.in_ok-loaded.loaded in
    let fit : length a.list.now * a.h ≤ length a.out.now = fits_true _ _ _ c.fits.ensures c.if-not-fits.false in
    let f = c.keep_cells-count.ensures in
    let none = c.in_default.ensures in
    let A = record_automaton o.rig in
    let n = N A a.h o.start in
    let tells = c.in_ok-check_count.ensures in
    let exact = cell_exact n f.counted tells in
    let below : IndicesBelow n a.list.now = subst (λ (m : ℕ). IndicesBelow m a.list.now) exact (all_good _ a.list.now none) in
    let written = c.unrank_batches.ensures A f.tabled f.kept (cell_few n f.counted tells) below in
    let w = listed_none A a.h o.start _ a.list.now a.out.now _ exact none written.written in
    let told = w.0 ∙ cell_passed n f.counted tells _ ∙ small_is a.cells.now op a.list.now a.out.now fit in
    record {
      result_value = told;
      small_keeps = small_keeps a.cells.now op a.list.now a.out.now fit _ (freed a.h o.states a.cells.now _ (c.unrank_batches.auto.cells ∙ c.keep_cells-count.auto.cells) (past_trans _ a.cells.now _ _ f.past written.past));
      out_after = small_output_lem a.cells.now op a.list.now a.out.now fit _ _ told w.1;
    }
