use mathlib.Core.Path.{◌≡◌, refl, sym}
use Prim.Native.Nat.{◌+◌, ◌-◌, ◌*◌, ◌/◌, min}
use native.Mathlib.Omega.{arith}
use lib.ListN.{length}
use Rattle.std.proofs.Common.{rules}
use Rattle.keeping.proofs.Places.{past_refl, past_trans}
use Rattle.batches.proofs.Parts.{all_left}
use Rattle.batches.proofs.Lists.{begun_none, all_written, states_first}
use Rattle.batches.proofs.unrank_batch.Goals as goal

pub loop-q-init : goal.loop-q-init
loop-q-init c =
    let a = c.args in
    let s = a.table.now in
    let whole : a.h ≡ min a.h (16 * (a.h / 16 + 1)) = omega arith in
    let long : length c.begin.new.standings ≡ length a.list.now = search rules in (
      long,
      refl,
      refl,
      states_first s.states a.x a.list.now c.begin.new.standings long c.requires.0 c.begin.ensures,
      λ A tabled kept few below. (all_left A a.x a.h a.list.now _ a.out.now whole (begun_none A a.x a.h a.list.now below _ a.out.now few c.begin.ensures), past_refl _ a.out.now, kept, past_refl _ a.cells.now),
    )

pub loop-q-preserved : goal.loop-q-preserved
loop-q-preserved c =
    let a = c.args in
    let s = a.table.now in
    let lp = c.loop-q in
    let q = lp.q - 1 in
    let u = c.unrank_block in
    let before : min a.h (16 * lp.q) ≡ min a.h (16 * q + 16) = omega arith in
    let after : 16 * q ≡ min a.h (16 * q) = omega arith in (
      search rules,
      search rules,
      search rules,
      u.ensures.states_below,
      λ A tabled kept few below.
          let (begun, past, sixteenths, past-cells) = lp.invariant.4 A tabled kept few below in
          let (begun', past', sixteenths', past-cells') = u.ensures.block_by A a.x a.list.now tabled sixteenths (sym lp.invariant.0) (all_left A a.x a.h a.list.now lp.standings lp.out before begun) in
          (all_left A a.x a.h a.list.now _ _ after begun', past_trans _ a.out.now lp.out _ past past', sixteenths', past_trans _ a.cells.now lp.cells _ past-cells past-cells'),
    )

pub returns : goal.returns
returns c =
    let a = c.args in
    let lp = c.loop-q in
    let z : min a.h (16 * lp.q) ≡ 0 = omega arith in
    λ A tabled kept few below.
    let (begun, past, sixteenths, past-cells) = lp.invariant.4 A tabled kept few below in
    record {
      written = all_written A a.x a.h a.list.now below lp.standings a.out.now lp.out (all_left A a.x a.h a.list.now lp.standings lp.out z begun) past lp.invariant.2 c.requires.2;
      kept = sixteenths;
      past = past-cells;
    }
