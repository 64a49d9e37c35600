-- Pruning gives the live flags and the rows of live successors, and both give the cells. Every array is long enough because a record has at most
-- 1,024 joint states. Assumes nothing.
use Prim.Native.Nat.{ℕ}
use native.Mathlib.Omega.{arith}
use lib.ListN.{length-replicate}
use Rattle.rig.specs.Record.{record_automaton}
use Rattle.filling.proofs.Laws.{flagged, known, few, tabled, bounded}
use Rattle.filling.proofs.prune_and_fill.Goals as goal

pub prune-passes-requires : goal.prune-passes-requires
prune-passes-requires c =
    let o = c.args.loaded.now in
    record {
      well_formed = known o;
      rig_in_bounds = (omega (arith, few o, o.joint, length-replicate {A = ℕ} 1024 0), omega (arith, few o, o.joint, c.requires.1));
    }

pub invariant_of-table : goal.invariant_of-table
invariant_of-table c =
    let o = c.args.loaded.now in
    record {
      rows = omega (arith, few o, c.requires.1, c.prune-passes.auto.table);
      bounded = bounded o c.prune-passes.new.table c.args.table.now c.prune-passes.ensures.table_after;
    }

pub fill-requires : goal.fill-requires
fill-requires c = (c.requires.0, omega (arith, few c.args.loaded.now, c.prune-passes.auto.live, length-replicate {A = ℕ} 1024 0))

pub returns : goal.returns
returns c =
    let o = c.args.loaded.now in
    let t = tabled o c.prune-passes.new.table c.args.table.now c.prune-passes.ensures.table_after in
    record {
      value = c.prune-passes.ensures.value;
      cells_after = c.fill.ensures (record_automaton o.rig) t (flagged (record_automaton o.rig) c.prune-passes.new.live _ c.prune-passes.ensures.live_after);
      tabled = t;
    }
