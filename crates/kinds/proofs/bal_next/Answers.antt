-- The difference is small, so no sum leaves 64 bits; in the band it is not below lo.
-- Assumes nothing.
use mathlib.Core.Path.{◌≡◌, sym, ◌∙◌}
use mathlib.Core.Bool.{true, false}
use native.Mathlib.Omega.{arith}
use lib.IntN.{pos, ◌+ℤ◌, ◌-ℤ◌}
use mir.Syntax.{w64}
use mir.ValLaws.{to_z-of_z}
use lib.Signed.{nat_abs-le}
use Rattle.lists.proofs.Integers.{less_non_neg}
use Rattle.promises.specs.Text.{states_of}
use Rattle.promises.specs.Reading.{outsideℤ}
use Rattle.promises.specs.Rig.{bal_next}
use Rattle.promises.proofs.Bal.{inside}
use Rattle.kinds.proofs.Bands.{step}
use Rattle.kinds.proofs.bal_next.Goals as goal

pub overflow_add-difference : goal.overflow_add-difference
overflow_add-difference c =
    let n = step c.args.lo c.args.hi c.args.d c.args.s c.ranges.lo c.ranges.hi c.ranges.d c.requires in
    rw (n.lo_read, n.s_read) n.state_fits

pub overflow_add-difference-2 : goal.overflow_add-difference-2
overflow_add-difference-2 c =
    let n = step c.args.lo c.args.hi c.args.d c.args.s c.ranges.lo c.ranges.hi c.ranges.d c.requires in
    rw (n.lo_read, n.s_read, n.state_read, n.d_read) n.moved_fits

pub returns-then-outside_signed : goal.returns-then-outside_signed
unfolding bal_next states_of
returns-then-outside_signed c =
    let n = step c.args.lo c.args.hi c.args.d c.args.s c.ranges.lo c.ranges.hi c.ranges.d c.requires in
    let q : outsideℤ c.args.lo c.args.hi (c.args.lo +ℤ pos c.args.s +ℤ c.args.d) ≡ true = rw (n.lo_read, n.s_read, n.state_read, n.d_read, n.moved_read, n.hi_read) at (sym c.outside_signed.ensures ∙ c.if-outside_signed.true) in
    rw q (rw (n.lo_read, n.hi_read) at c.band_states.ensures)

pub overflow_sub-result : goal.overflow_sub-result
overflow_sub-result c =
    let n = step c.args.lo c.args.hi c.args.d c.args.s c.ranges.lo c.ranges.hi c.ranges.d c.requires in
    rw (n.lo_read, n.s_read, n.state_read, n.d_read, n.moved_read) n.back_fits

pub overflow_cast-result : goal.overflow_cast-result
overflow_cast-result c =
    let n = step c.args.lo c.args.hi c.args.d c.args.s c.ranges.lo c.ranges.hi c.ranges.d c.requires in
    let z = to_z-of_z w64 (c.args.lo +ℤ pos c.args.s +ℤ c.args.d -ℤ c.args.lo) n.back_fits in
    let q : outsideℤ c.args.lo c.args.hi (c.args.lo +ℤ pos c.args.s +ℤ c.args.d) ≡ false = rw (n.lo_read, n.s_read, n.state_read, n.d_read, n.moved_read, n.hi_read) at (sym c.outside_signed.ensures ∙ c.if-outside_signed.false) in
    let (low, high) = inside c.args.lo c.args.hi n.ends.not_over (c.args.lo +ℤ pos c.args.s +ℤ c.args.d) q in
    rw (n.lo_read, n.s_read, n.state_read, n.d_read, n.moved_read, z) (less_non_neg c.args.lo (c.args.lo +ℤ pos c.args.s +ℤ c.args.d) low, record { fits = omega (arith, nat_abs-le (c.args.lo +ℤ pos c.args.s +ℤ c.args.d -ℤ c.args.lo) n.back_fits.sfits) })

pub returns : goal.returns
unfolding bal_next
returns c =
    let n = step c.args.lo c.args.hi c.args.d c.args.s c.ranges.lo c.ranges.hi c.ranges.d c.requires in
    let z = to_z-of_z w64 (c.args.lo +ℤ pos c.args.s +ℤ c.args.d -ℤ c.args.lo) n.back_fits in
    let q : outsideℤ c.args.lo c.args.hi (c.args.lo +ℤ pos c.args.s +ℤ c.args.d) ≡ false = rw (n.lo_read, n.s_read, n.state_read, n.d_read, n.moved_read, n.hi_read) at (sym c.outside_signed.ensures ∙ c.if-outside_signed.false) in
    rw (n.lo_read, n.s_read, n.state_read, n.d_read, n.moved_read, z, q)
