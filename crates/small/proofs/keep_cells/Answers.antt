-- Pruning gives the live flags and the rows of live successors, and both give every sixteenth row and row h, where the cell of the start is (`last-cell`).
use Prim.Native.Nat.{ℕ}
use native.Mathlib.Omega.{arith}
use lib.ListN.{length, length-replicate}
use Rattle.rig.specs.Record.{record_automaton}
use Rattle.promises.specs.Small.{small_rows}
use Rattle.filling.proofs.Laws.{flagged, known, few, tabled, bounded}
use Rattle.small.proofs.Laws.{last-room, last-cell}
use Rattle.small.proofs.keep_cells.Goals as goal

pub prune-requires : goal.prune-requires
prune-requires c =
    let o = c.args.loaded.now in
    record {
      well_formed = known o;
      rig_in_bounds = (omega (arith, few o, o.joint, length-replicate {A = ℕ} 1024 0), omega (arith, few o, o.joint, c.requires.1));
    }

pub invariant_of-table : goal.invariant_of-table
invariant_of-table c =
    let o = c.args.loaded.now in
    record {
      rows = omega (arith, few o, c.requires.1, c.prune.auto.table);
      bounded = bounded o c.prune.new.table c.args.table.now c.prune.ensures.table_after;
    }

pub keep_rows-requires : goal.keep_rows-requires
unfolding small_rows
keep_rows-requires c = (c.requires.0, omega (arith, few c.args.loaded.now, c.prune.auto.live, length-replicate {A = ℕ} 1024 0))

pub overflow_mul-result : goal.overflow_mul-result
overflow_mul-result c =
    let o = c.args.loaded.now in
    omega (arith, last-room c.args.h o.states o.start (length c.args.cells.now) o.start_below c.requires.0)

pub overflow_add-result-2 : goal.overflow_add-result-2
overflow_add-result-2 c =
    let o = c.args.loaded.now in
    omega (arith, last-room c.args.h o.states o.start (length c.args.cells.now) o.start_below c.requires.0)

pub offset_bounds-cells-h : goal.offset_bounds-cells-h
offset_bounds-cells-h c =
    let o = c.args.loaded.now in
    omega (arith, last-room c.args.h o.states o.start (length c.args.cells.now) o.start_below c.requires.0)

pub bounds-cells-h : goal.bounds-cells-h
bounds-cells-h c =
    let o = c.args.loaded.now in
    omega (arith, c.keep_rows.auto.cells, last-room c.args.h o.states o.start (length c.args.cells.now) o.start_below c.requires.0)

pub returns : goal.returns
unfolding small_rows
returns c =
    let o = c.args.loaded.now in
    let A = record_automaton o.rig in
    let t = tabled o c.prune.new.table c.args.table.now c.prune.ensures.table_after in
    let kept = c.keep_rows.ensures A t (flagged A c.prune.new.live _ c.prune.ensures.live_after) in
    record {
      counted = last-cell A o.states c.args.h o.start c.args.cells.now _ o.joint o.start_below kept;
      kept = kept.kept;
      past = kept.past;
      tabled = t;
    }
