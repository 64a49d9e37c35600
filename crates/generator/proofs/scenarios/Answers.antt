-- A refusal up to row 8, or 12, is the answer itself, and else the record stands for the text: filling tells row 9 or 10; past them the walker tells
-- refusal 11, or writes every scenario. Assumes nothing.
use mathlib.Core.Path.{◌∙◌}
use Prim.Native.Nat.{ℕ, ◌*◌, ◌≤◌}
use native.Mathlib.Omega.{arith}
use lib.ListN.{length, length-replicate}
use Rattle.std.proofs.Common.{rules}
use Rattle.rig.specs.Record.{record_automaton}
use Rattle.filling.proofs.Laws.{few}
use Rattle.ranking.proofs.Premises.{filled_exact}
use Rattle.filling.proofs.Rows.{told_err, cell_room, told_refused, told_passed, told_exact, told_few}
use Rattle.generator.proofs.Laws.{fits_true, fits_false, early_scenarios, early_scenarios_cells, early_written, short_output, short_cells, short_written, scenarios_are, scenarios_cells_are, written_are, refused_written, listed}
use Rattle.generator.proofs.scenarios.Goals as goal

pub returns-in_err-loaded : goal.returns-in_err-loaded
returns-in_err-loaded c =
    let a = c.args in
    let op = c.in_err-loaded.ensures in
    record {
      result_value = told_err _ c.from_residual.result _ c.from_residual.ensures.1 ∙ early_scenarios a.cells.now op a.list.now a.out.now;
      cells_after = early_scenarios_cells a.cells.now op a.list.now a.out.now;
      out_after = early_written a.cells.now op a.list.now a.out.now;
    }

pub returns-then-not-fits : goal.returns-then-not-fits
returns-then-not-fits c =
    let a = c.args in
    let op = c.in_ok-loaded.ensures in
    let short = fits_false _ _ _ c.fits.ensures c.if-not-fits.true in
    record {
      result_value = short_output a.cells.now op a.list.now a.out.now short;
      cells_after = short_cells a.cells.now op a.list.now a.out.now short;
      out_after = short_written a.cells.now op a.list.now a.out.now short;
    }

pub returns-in_err-counted : goal.returns-in_err-counted
returns-in_err-counted c =
    let a = c.args in
    let op = c.in_ok-loaded.ensures in
    let fit : length a.list.now * a.h ≤ length a.out.now = fits_true _ _ _ c.fits.ensures c.if-not-fits.false in
    let f = c.in_err-counted.ensures in
    let told = told_refused f _ ∙ scenarios_are a.cells.now op a.list.now a.out.now fit in
    record {
      result_value = told_err _ c.from_residual-in_err-counted.result _ c.from_residual-in_err-counted.ensures.1 ∙ told;
      cells_after = scenarios_cells_are a.cells.now op a.list.now a.out.now fit _ f.cells_filled;
      out_after = refused_written a.cells.now op a.list.now a.out.now fit _ told;
    }

pub invariant_of-counts : goal.invariant_of-counts
invariant_of-counts c =
    let o = c.in_ok-loaded.loaded in
    record { few = few o; rows = omega (arith, few o, c.count_cells.auto.table, length-replicate {A = ℕ} 16384 0) }

pub unrank_list-requires : goal.unrank_list-requires
unrank_list-requires c =
    let o = c.in_ok-loaded.loaded in
    let room = c.in_ok-loaded.ensures.ready.fits.enough in (
      omega (arith, o.start_below),
      omega (arith, c.count_cells.auto.cells, cell_room c.args.h o.states o.start _ o.start_below room),
      fits_true _ _ _ c.fits.ensures c.if-not-fits.false,
    )

pub returns : goal.returns
returns c =
    let a = c.args in
    let op = c.in_ok-loaded.ensures in
    let o = c.in_ok-loaded.loaded in
    let fit : length a.list.now * a.h ≤ length a.out.now = fits_true _ _ _ c.fits.ensures c.if-not-fits.false in
    let f = c.in_ok-counted.ensures in
    let u = c.unrank_list.ensures in
    let A = record_automaton o.rig in
    let exact = filled_exact A o.states a.h o.start _ _ a.cells.now f.tabled f.cells_filled (told_few f) in
    let w = listed A a.h o.start _ a.list.now a.out.now _ (told_exact f) c.unrank_list.result c.map_err.result (search rules) u.value (u.listed_by A exact (told_exact f)) in
    let told = w.0 ∙ told_passed f _ ∙ scenarios_are a.cells.now op a.list.now a.out.now fit in
    record {
      result_value = told;
      cells_after = scenarios_cells_are a.cells.now op a.list.now a.out.now fit _ f.cells_filled;
      out_after = written_are a.cells.now op a.list.now a.out.now fit _ _ told w.1;
    }
