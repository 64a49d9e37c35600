use mathlib.Core.Path.{◌≡◌, refl, sym, ap, ap₂, ◌∙◌}
use mathlib.Core.List.{List}
use Prim.Native.Nat.{ℕ}
use native.Mathlib.Omega.{arith}
use lib.ListN.{set, length-set}
use mir.Syntax.{w64}
use mir.Val.{to_z, of_z}
use mir.ValLaws.{to_z-of_z}
use Rattle.lists.specs.Lists.{overwrite}
use Rattle.lists.proofs.Tables.{overwrite_more}
use Rattle.promises.specs.Text.{bal, states_of}
use Rattle.rig.specs.Record.{move_index}
use Rattle.kinds.specs.Kinds.{entry_of, with_column}
use Rattle.kinds.proofs.Tables.{own_step}
use Rattle.kinds.proofs.Bands.{few}
use Rattle.kinds.proofs.fill_step.Invariants.{entry_by}
use Rattle.kinds.proofs.fill_step.Goals as goal

pub loop-j-init : goal.loop-j-init
unfolding overwrite
loop-j-init c =
    let n = rw (to_z-of_z w64 c.args.lo c.ranges.lo, to_z-of_z w64 c.args.hi c.ranges.hi) at c.band_states-n.ensures in
    (omega arith, omega (arith, few (bal c.args.lo c.args.hi) c.requires.in_range.0, n), refl, refl)

pub bal_next-requires : goal.bal_next-requires
bal_next-requires c = rw (to_z-of_z w64 c.args.lo c.ranges.lo, to_z-of_z w64 c.args.hi c.ranges.hi, to_z-of_z w64 c.args.d c.ranges.d) (c.requires.in_range.0, c.requires.in_range.1, omega arith)

pub loop-j-preserved : goal.loop-j-preserved
loop-j-preserved c =
    let x = c.args in
    let lp = c.loop-j in
    let lo = to_z w64 (of_z w64 x.lo) in
    let hi = to_z w64 (of_z w64 x.hi) in
    let d = to_z w64 (of_z w64 x.d) in (
      omega arith,
      lp.invariant.1,
      simp length-set lp.invariant.2,
      ap (λ (v : List ℕ). set v (move_index x.m lp.j x.e) c.entry.result) lp.invariant.3
          ∙ overwrite_more x.moves.now (λ j. move_index x.m j x.e) (entry_by lo hi x.e d) lp.j c.entry.result
          (c.entry.ensures ∙ ap₂ entry_of c.band_states-n.ensures (c.bal_next.ensures ∙ sym (own_step lo hi d x.e lp.j))),
    )

pub returns : goal.returns
returns c =
    let x = c.args in
    let lp = c.loop-j in
    let lo = to_z-of_z w64 x.lo c.ranges.lo in
    let hi = to_z-of_z w64 x.hi c.ranges.hi in
    let n = rw (lo, hi) at c.band_states-n.ensures in
    let e : lp.j ≡ states_of (bal x.lo x.hi) = omega (arith, n) in
    rw (lo, hi, to_z-of_z w64 x.d c.ranges.d) at (lp.invariant.3 ∙ ap (with_column x.moves.now x.m x.e (entry_by (to_z w64 (of_z w64 x.lo)) (to_z w64 (of_z w64 x.hi)) x.e (to_z w64 (of_z w64 x.d)))) e)
