-- A refusal up to row 8, or 13, is the answer itself, and else the record stands for the text: filling tells row 9 or 10; past them ranking tells the
-- index or the place of refusal 14. Assumes nothing.
use mathlib.Core.Path.{◌∙◌}
use Prim.Native.Nat.{ℕ}
use native.Mathlib.Omega.{arith}
use Rattle.std.proofs.Common.{rules}
use lib.ListN.{length, length-replicate}
use Rattle.rig.specs.Record.{record_automaton}
use Rattle.filling.proofs.Laws.{few}
use Rattle.ranking.proofs.Premises.{filled_exact}
use Rattle.filling.proofs.Rows.{told_err, cell_room, told_refused, told_passed, told_few}
use Rattle.generator.proofs.Laws.{early_index, early_index_cells, bad_index, bad_index_cells, index_is, index_cells_are, ranked}
use Rattle.generator.proofs.index.Goals as goal

pub returns-in_err-loaded : goal.returns-in_err-loaded
returns-in_err-loaded c =
    let a = c.args in
    let op = c.in_err-loaded.ensures in
    record {
      result_value = told_err _ c.from_residual.result _ c.from_residual.ensures.1 ∙ early_index a.sequence.now a.cells.now op;
      cells_after = early_index_cells a.sequence.now a.cells.now op;
    }

pub returns-in-Some : goal.returns-in-Some
returns-in-Some c =
    let a = c.args in
    let op = c.in_ok-loaded.ensures in
    record {
      result_value = bad_index a.sequence.now a.cells.now op _ c.in-Some.ensures;
      cells_after = bad_index_cells a.sequence.now a.cells.now op _ c.in-Some.ensures;
    }

pub returns-in_err-count_cells : goal.returns-in_err-count_cells
returns-in_err-count_cells c =
    let a = c.args in
    let op = c.in_ok-loaded.ensures in
    let f = c.in_err-count_cells.ensures in
    let r = c.from_residual-in_err-count_cells in
    record {
      result_value = told_err _ r.result _ r.ensures.1 ∙ told_refused f _ ∙ index_is a.sequence.now a.cells.now op c.in_default.ensures;
      cells_after = index_cells_are a.sequence.now a.cells.now op c.in_default.ensures _ f.cells_filled;
    }

pub invariant_of-counts : goal.invariant_of-counts
invariant_of-counts c =
    let o = c.in_ok-loaded.loaded in
    record { few = few o; rows = omega (arith, few o, c.count_cells.auto.table, length-replicate {A = ℕ} 16384 0) }

pub rank-requires : goal.rank-requires
rank-requires c =
    let o = c.in_ok-loaded.loaded in
    let room = c.in_ok-loaded.ensures.ready.fits.enough in
    (omega (arith, o.start_below), omega (arith, c.count_cells.auto.cells, cell_room (length c.args.sequence.now) o.states o.start _ o.start_below room))

pub returns : goal.returns
returns c =
    let a = c.args in
    let op = c.in_ok-loaded.ensures in
    let o = c.in_ok-loaded.loaded in
    let f = c.in_ok-count_cells.ensures in
    let A = record_automaton o.rig in
    let exact = filled_exact A o.states (length a.sequence.now) o.start _ _ a.cells.now f.tabled f.cells_filled (told_few f) in
    record {
      result_value = ranked A o.start a.sequence.now c.rank.result c.map_err.result (search rules) (c.rank.ensures A exact) ∙ told_passed f _ ∙ index_is a.sequence.now a.cells.now op c.in_default.ensures;
      cells_after = index_cells_are a.sequence.now a.cells.now op c.in_default.ensures _ f.cells_filled;
    }
