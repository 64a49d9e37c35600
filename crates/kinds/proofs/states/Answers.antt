-- By the kind.
-- Assumes nothing.
use mathlib.Core.Path.{◌≡◌, subst}
use Prim.Native.Nat.{◌+◌, ◌≤◌}
use native.Mathlib.Omega.{arith}
use mir.Syntax.{w64}
use mir.Val.{to_z, of_z}
use Rattle.promises.specs.Text.{states_of}
use Rattle.kinds.specs.Kinds.{as_kind, InRange}
use Rattle.kinds.proofs.Bands.{few}
use borrow.Author.Rules.{rules}
use Rattle.kinds.proofs.states.Goals as goal

pub overflow_add-result : goal.overflow_add-result
overflow_add-result c = let h : c.in-Reply.hi + 1 ≤ 32 = unfold states_of in rw c.in-Reply.is at (few (as_kind c.args.k) c.requires) in omega arith

pub band_states-requires : goal.band_states-requires
band_states-requires c =
    let lo : to_z w64 (of_z w64 c.in-Bal.lo) ≡ c.in-Bal.lo = search rules in
    let hi : to_z w64 (of_z w64 c.in-Bal.hi) ≡ c.in-Bal.hi = search rules in
    rw (lo, hi) (subst (λ k. InRange (as_kind k)) c.in-Bal.is c.requires)
