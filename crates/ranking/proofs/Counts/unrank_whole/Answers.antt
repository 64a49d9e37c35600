use mathlib.Core.Path.{subst}
use Prim.Native.Nat.{ℕ, ◌-◌, ◌*◌, ◌≤◌, ◌<◌}
use Rattle.std.proofs.Common.{rules}
use native.Mathlib.Omega.{arith}
use mathlib.Core.List.{◌++◌}
use lib.ListN.{length, take, drop, length-drop}
use Rattle.ranking.specs.Ranks.{Begun}
use Rattle.ranking.proofs.Rows.{part_room}
use Rattle.ranking.proofs.Walk.{length_between}
use Rattle.ranking.proofs.Parts.{parts_start, parts_end, begun_all, next_exact, next_below, next_begun}
use Rattle.ranking.proofs.Counts.unrank_whole.Goals as goal

pub unrank-state-requires : goal.unrank-state-requires
unrank-state-requires c =
    let s = c.args.self.now in
    let lp = c.loop-part in
    let at = lp.part * 64 in
    let to = c.min-to.result in
    let h = length c.args.out.now in
    let fr = c.from_row.ensures in
    let le : to ≤ h = omega (arith, c.min-to.ensures) in
    (rw fr.states lp.invariant.1, rw (fr.states, fr.cells, length_between lp.out at to (omega arith), length-drop) (part_room at to h s.states (length s.cells.now) le c.requires.1))

pub loop-part-preserved : goal.loop-part-preserved
loop-part-preserved c =
    let a = c.args in
    let s = a.self.now in
    let h = length a.out.now in
    let lp = c.loop-part in
    let at = lp.part * 64 in
    let to = c.min-to.result in
    let le : to ≤ h = omega (arith, c.min-to.ensures) in
    let more : at < h = parts_start 64 h lp.part _ (omega arith) c.div_ceil-part-end.ensures c.loop-part-test.true in
    let some : at ≤ to = omega (arith, c.min-to.ensures) in
    let u = c.unrank-state in
    let q = length_between lp.out at to (omega arith) in
    let fr = c.from_row.ensures in (
      search rules,
      rw fr.states at u.ensures.upper_bound,
      λ A exact below.
          let is : Begun A a.x h a.i at (h - at) lp.state lp.rest 0 lp.out = subst (λ (n : ℕ). Begun A a.x h a.i n (h - n) lp.state lp.rest 0 lp.out) (omega arith) (lp.invariant.2 A exact below) in
          let told = (rw (fr.table, fr.cells, fr.states) at u.ensures.unranked_by) A (h - to) (next_exact A a.x h a.i at to lp.state lp.rest lp.out some le is q s.states s.table.now s.cells.now exact) (next_below A a.x h a.i at to lp.state lp.rest lp.out some le is q) in
          subst (λ (n : ℕ). Begun A a.x h a.i n (h - n) u.result u.new.i 0 (take at lp.out ++ (u.new.out ++ drop (to - at) (drop at lp.out)))) (omega (arith, c.min-to.ensures))
          (next_begun A a.x h a.i at to lp.state lp.rest lp.out some le is q _ u.result _ lp.invariant.0 told),
    )

pub returns : goal.returns
returns c =
    let a = c.args in
    let lp = c.loop-part in
    let h = length a.out.now in
    λ A exact below.
    begun_all A a.x h a.i (h - h) lp.state lp.rest lp.out lp.invariant.0 below (subst (λ (n : ℕ). Begun A a.x h a.i n (h - n) lp.state lp.rest 0 lp.out) (omega (arith, parts_end 64 h lp.part _ (omega arith) c.div_ceil-part-end.ensures c.loop-part-test.false)) (lp.invariant.2 A exact below))
