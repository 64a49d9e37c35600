-- A refusal up to row 8 is the answer itself, with the cells as they were; and else the record stands for the text. Pruning gives the live flags and the rows of
-- live successors; by both the count is N, cut off, and tells row 9 or 10, or N.
use mathlib.Core.Path.{◌∙◌}
use Prim.Native.Nat.{ℕ}
use native.Mathlib.Omega.{arith}
use lib.ListN.{length-replicate}
use Rattle.automaton.specs.Counting.{N}
use Rattle.rig.specs.Record.{record_automaton}
use Rattle.promises.specs.Forward.{forward_rows}
use Rattle.filling.proofs.CountRows.{cell_refused}
use Rattle.filling.proofs.Laws.{flagged, known, few, tabled, bounded}
use Rattle.filling.proofs.Rows.{told_err}
use Rattle.forward.proofs.Laws.{told-forward, early_forward, early_keeps, forward_is, forward_keeps}
use Rattle.forward.proofs.count_forward.Goals as goal

pub returns-in_err-loaded : goal.returns-in_err-loaded
returns-in_err-loaded c =
    let op = c.in_err-loaded.ensures in
    record {
      result_value = told_err _ c.from_residual.result _ c.from_residual.ensures.1 ∙ early_forward c.args.cells.now op;
      forward_keeps = early_keeps c.args.cells.now op;
    }

pub prune-passes-requires : goal.prune-passes-requires
prune-passes-requires c =
    let o = c.in_ok-loaded.loaded in
    record {
      well_formed = known o;
      rig_in_bounds = (omega (arith, few o, o.joint, length-replicate {A = ℕ} 1024 0), omega (arith, few o, o.joint, length-replicate {A = ℕ} 16384 0));
    }

pub invariant_of-table : goal.invariant_of-table
invariant_of-table c =
    let o = c.in_ok-loaded.loaded in
    record {
      rows = omega (arith, few o, c.prune-passes.auto.table, length-replicate {A = ℕ} 16384 0);
      bounded = bounded o c.prune-passes.new.table _ c.prune-passes.ensures.table_after;
    }

pub count_walks-count-requires : goal.count_walks-count-requires
unfolding forward_rows
count_walks-count-requires c =
    let o = c.in_ok-loaded.loaded in
    let z = c.in_ok-loaded.ensures.ready.fits in
    (o.start_below, z.horizon, omega (arith, z.enough), omega (arith, few o, c.prune-passes.auto.live, length-replicate {A = ℕ} 1024 0))

pub returns-in_err-check_count : goal.returns-in_err-check_count
unfolding forward_rows
returns-in_err-check_count c =
    let op = c.in_ok-loaded.ensures in
    let o = c.in_ok-loaded.loaded in
    let w = c.count_walks-count.ensures in
    let A = record_automaton o.rig in
    let t = tabled o c.prune-passes.new.table _ c.prune-passes.ensures.table_after in
    let cut = w.counted A t (flagged A c.prune-passes.new.live _ c.prune-passes.ensures.live_after) in
    let r = c.from_residual-in_err-check_count in
    record {
      result_value = told_err _ r.result _ r.ensures.1 ∙ cell_refused (N A c.args.h o.start) cut c.in_err-check_count.ensures _ ∙ forward_is c.args.cells.now op;
      forward_keeps = forward_keeps c.args.cells.now op _ w.freed;
    }

pub returns : goal.returns
unfolding forward_rows
returns c =
    let op = c.in_ok-loaded.ensures in
    let o = c.in_ok-loaded.loaded in
    let w = c.count_walks-count.ensures in
    let A = record_automaton o.rig in
    let t = tabled o c.prune-passes.new.table _ c.prune-passes.ensures.table_after in
    let cut = w.counted A t (flagged A c.prune-passes.new.live _ c.prune-passes.ensures.live_after) in
    record {
      result_value = told-forward A c.args.h o.start _ _ c.in_ok-check_count.ensures cut c.prune-passes.ensures.value ∙ forward_is c.args.cells.now op;
      forward_keeps = forward_keeps c.args.cells.now op _ w.freed;
    }
