-- By the kind.
-- Assumes nothing.
use mathlib.Core.Path.{◌≡◌, subst}
use native.Mathlib.Omega.{arith}
use lib.IntN.{pos, ◌-ℤ◌}
use mir.Syntax.{w64}
use mir.Val.{to_z, of_z}
use mir.ValLaws.{to_z-of_z}
use lib.Signed.{nat_abs-le}
use Rattle.lists.proofs.Integers.{less_non_neg, minus_abs}
use Rattle.promises.specs.Text.{start_of}
use Rattle.kinds.specs.Kinds.{as_kind, InRange}
use Rattle.kinds.proofs.Bands.{bounds, minus_fits}
use borrow.Author.Rules.{rules}
use Rattle.kinds.proofs.start.Goals as goal

pub overflow_sub-result : goal.overflow_sub-result
overflow_sub-result c =
    let lo : to_z w64 (of_z w64 c.in-Bal.lo) ≡ c.in-Bal.lo = search rules in
    let b = bounds c.in-Bal.lo c.in-Bal.field-1 (subst (λ k. InRange (as_kind k)) c.in-Bal.is c.requires) in
    rw lo (minus_fits c.in-Bal.lo c.in-Bal.field-1 b)

pub overflow_cast-result : goal.overflow_cast-result
overflow_cast-result c =
    let lo : to_z w64 (of_z w64 c.in-Bal.lo) ≡ c.in-Bal.lo = search rules in
    let b = bounds c.in-Bal.lo c.in-Bal.field-1 (subst (λ k. InRange (as_kind k)) c.in-Bal.is c.requires) in
    let f = minus_fits c.in-Bal.lo c.in-Bal.field-1 b in
    rw (lo, to_z-of_z w64 (pos 0 -ℤ c.in-Bal.lo) f) (less_non_neg c.in-Bal.lo (pos 0) b.with_zero, record { fits = omega (arith, nat_abs-le (pos 0 -ℤ c.in-Bal.lo) f.sfits) })

pub returns-in-Bal : goal.returns-in-Bal
unfolding start_of
returns-in-Bal c =
    let lo : to_z w64 (of_z w64 c.in-Bal.lo) ≡ c.in-Bal.lo = search rules in
    let b = bounds c.in-Bal.lo c.in-Bal.field-1 (subst (λ k. InRange (as_kind k)) c.in-Bal.is c.requires) in
    rw (lo, to_z-of_z w64 (pos 0 -ℤ c.in-Bal.lo) (minus_fits c.in-Bal.lo c.in-Bal.field-1 b), c.in-Bal.is) (minus_abs c.in-Bal.lo)
