use mathlib.Core.Path.{◌≡◌, refl, ap, ◌∙◌}
use mathlib.Core.List.{List, ◌++◌}
use Prim.Native.Nat.{ℕ, ◌+◌, ◌*◌, ◌≤◌, ◌<◌, min}
use native.Mathlib.Omega.{arith}
use native.Mathlib.Nat.{zero-mul, mul-le-mul_right}
use lib.ListN.{length, drop, length-take, length-drop}
use lib.Seq.{take-length}
use Rattle.std.proofs.Common.{rules}
use Rattle.lists.specs.Lists.{concat_map}
use Rattle.automaton.specs.Ranking.{unrank}
use Rattle.ranking.specs.Ranks.{with_scenarios}
use Rattle.ranking.proofs.Parts.{parts_start, parts_end}
use Rattle.ranking.proofs.Walk.{length_between}
use Rattle.keeping.proofs.Places.{past_refl, past_trans}
use Rattle.batches.proofs.Lists.{part_times, batch_below, batch_more}
use Rattle.batches.proofs.unrank_batches.Goals as goal

pub loop-batch-init : goal.loop-batch-init
loop-batch-init c =
    let z : min 0 (length c.args.list.now) ≡ 0 = omega arith in
    (refl, refl, λ A tabled kept few below. (rw (z, zero-mul), kept, past_refl _ c.args.cells.now))

pub unrank_batch-requires : goal.unrank_batch-requires
unrank_batch-requires c =
    let a = c.args in
    let lp = c.loop-batch in
    let n = lp.batch * 1024 in
    let to = c.min-to.result in
    let len = length a.list.now in
    let more : n < len = parts_start 1024 len lp.batch _ (omega arith) c.div_ceil-batch-end.ensures c.loop-batch-test.true in
    let within : to ≤ len = omega (arith, c.min-to.ensures) in
    let room : to * a.h ≤ len * a.h = mul-le-mul_right a.h within in
    let long = length_between a.list.now n to within in (
      c.requires.0,
      rw long (omega (arith, c.min-to.ensures)),
      rw long (simp (length-take, length-drop) (omega (arith, part_times n to a.h (omega (arith, c.min-to.ensures)), c.requires.1))),
      rw lp.invariant.0 c.requires.2,
    )

pub loop-batch-preserved : goal.loop-batch-preserved
loop-batch-preserved c =
    let a = c.args in
    let lp = c.loop-batch in
    let n = lp.batch * 1024 in
    let to = c.min-to.result in
    let len = length a.list.now in
    let more : n < len = parts_start 1024 len lp.batch _ (omega arith) c.div_ceil-batch-end.ensures c.loop-batch-test.true in
    let within : to ≤ len = omega (arith, c.min-to.ensures) in
    let order : n ≤ to = omega (arith, c.min-to.ensures) in
    let room : to * a.h ≤ len * a.h = mul-le-mul_right a.h within in
    let here : min n len ≡ n = omega arith in
    let next : min ((lp.batch + 1) * 1024) len ≡ to = omega (arith, c.min-to.ensures) in
    let u = c.unrank_batch in (
      search rules,
      search rules,
      λ A tabled kept few below.
          let (now, sixteenths, past) = lp.invariant.2 A tabled kept few below in
          let listed = u.ensures A tabled sixteenths few (batch_below A a.x a.h a.list.now below n to order within) in (
            rw next (batch_more A a.x a.h a.list.now below n to order within a.out.now lp.out _ (omega (arith, c.requires.1)) (rw here at now) listed.written),
            listed.kept,
            past_trans _ a.cells.now lp.cells _ past listed.past,
          ),
    )

pub returns : goal.returns
unfolding with_scenarios
returns c =
    let a = c.args in
    let lp = c.loop-batch in
    let len = length a.list.now in
    let e : min (lp.batch * 1024) len ≡ len = omega (arith, parts_end 1024 len lp.batch _ (omega arith) c.div_ceil-batch-end.ensures c.loop-batch-test.false) in
    λ A tabled kept few below.
    let (now, sixteenths, past) = lp.invariant.2 A tabled kept few below in
    record {
      written = (rw e at now) ∙ ap (λ (l : List ℕ). concat_map (unrank A a.h a.x) l ++ drop (len * a.h) a.out.now) (take-length a.list.now);
      kept = sixteenths;
      past = past;
    }
