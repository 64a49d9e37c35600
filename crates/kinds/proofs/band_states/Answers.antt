-- hi is not below lo, and both are small.
-- Assumes nothing.
use native.Mathlib.Omega.{arith}
use lib.IntN.{◌-ℤ◌}
use mir.Syntax.{w64}
use mir.ValLaws.{to_z-of_z}
use Rattle.lists.proofs.Integers.{less_non_neg}
use Rattle.promises.specs.Text.{bal, states_of}
use Rattle.kinds.proofs.Bands.{few, bounds, width_fits}
use Rattle.kinds.proofs.band_states.Goals as goal

pub overflow_sub-result : goal.overflow_sub-result
overflow_sub-result c =
    let b = bounds c.args.lo c.args.hi c.requires in
    let f = width_fits c.args.lo c.args.hi b in
    rw (to_z-of_z w64 c.args.hi c.ranges.hi, to_z-of_z w64 c.args.lo c.ranges.lo) f

pub overflow_cast-result : goal.overflow_cast-result
unfolding states_of
overflow_cast-result c =
    let b = bounds c.args.lo c.args.hi c.requires in
    let f = width_fits c.args.lo c.args.hi b in
    rw (to_z-of_z w64 c.args.hi c.ranges.hi, to_z-of_z w64 c.args.lo c.ranges.lo, to_z-of_z w64 (c.args.hi -ℤ c.args.lo) f) (less_non_neg c.args.lo c.args.hi b.not_over, record { fits = omega (arith, few (bal c.args.lo c.args.hi) c.requires) })

pub overflow_add-result : goal.overflow_add-result
unfolding states_of
overflow_add-result c =
    let b = bounds c.args.lo c.args.hi c.requires in
    let f = width_fits c.args.lo c.args.hi b in
    rw (to_z-of_z w64 c.args.hi c.ranges.hi, to_z-of_z w64 c.args.lo c.ranges.lo, to_z-of_z w64 (c.args.hi -ℤ c.args.lo) f) (record { fits = omega (arith, few (bal c.args.lo c.args.hi) c.requires) })

pub returns : goal.returns
unfolding states_of
returns c =
    let b = bounds c.args.lo c.args.hi c.requires in
    let f = width_fits c.args.lo c.args.hi b in
    rw (to_z-of_z w64 c.args.hi c.ranges.hi, to_z-of_z w64 c.args.lo c.ranges.lo, to_z-of_z w64 (c.args.hi -ℤ c.args.lo) f)
