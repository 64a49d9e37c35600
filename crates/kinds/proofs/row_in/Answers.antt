-- By the kind.
-- Assumes nothing.
use mathlib.Core.Path.{◌≡◌, refl, subst, ◌∙◌}
use Prim.Native.Nat.{◌+◌, ◌≤◌}
use native.Mathlib.Omega.{arith}
use mir.Syntax.{w64}
use mir.Val.{to_z, of_z}
use Rattle.lists.specs.Lists.{first_of}
use Rattle.promises.specs.Text.{states_of}
use Rattle.promises.specs.Meaning.{step_of}
use Rattle.promises.specs.Rig.{day_next, next_of}
use Rattle.kinds.specs.Kinds.{as_kind, InRange}
use Rattle.kinds.proofs.Bands.{few, some_state}
use borrow.Author.Rules.{rules}
use Rattle.kinds.proofs.row_in.Goals as goal

pub gap_row-requires : goal.gap_row-requires
gap_row-requires c = unfold states_of in rw c.in-Gap.is at (some_state (as_kind c.args.k) c.requires.0)

pub reply_row-requires : goal.reply_row-requires
reply_row-requires c =
    let f = few (as_kind c.args.k) c.requires.0 in
    let h : c.in-Reply.hi + 1 ≤ 32 = unfold states_of in rw c.in-Reply.is at f in
    (omega arith, omega (arith, f, c.requires.1))

pub bal_next-requires : goal.bal_next-requires
bal_next-requires c =
    let lo : to_z w64 (of_z w64 c.in-Bal.lo) ≡ c.in-Bal.lo = search rules in
    let hi : to_z w64 (of_z w64 c.in-Bal.hi) ≡ c.in-Bal.hi = search rules in
    rw (lo, hi) (subst (λ k. InRange (as_kind k)) c.in-Bal.is c.requires.0, refl, omega (arith, few (as_kind c.args.k) c.requires.0, c.requires.1))

pub day_next-requires : goal.day_next-requires
day_next-requires c = unfold states_of in (rw c.in-Day.is at c.requires.1, rw c.in-Day.is at (few (as_kind c.args.k) c.requires.0))

pub returns-in-Mon : goal.returns-in-Mon
unfolding next_of first_of
returns-in-Mon c = λ u. rw c.in-Mon.is (c.same_row.ensures u)

pub returns-in-Gap : goal.returns-in-Gap
unfolding next_of
returns-in-Gap c = λ u. rw c.in-Gap.is (c.gap_row.ensures u)

pub returns-in-Reply : goal.returns-in-Reply
unfolding next_of
returns-in-Reply c = λ u. rw c.in-Reply.is (c.reply_row.ensures u)

pub returns-in-Bal : goal.returns-in-Bal
unfolding next_of step_of first_of
returns-in-Bal c =
    let lo : to_z w64 (of_z w64 c.in-Bal.lo) ≡ c.in-Bal.lo = search rules in
    let hi : to_z w64 (of_z w64 c.in-Bal.hi) ≡ c.in-Bal.hi = search rules in
    let q = c.bal_next.ensures in
    λ u. rw c.in-Bal.is (c.same_row-in-Bal.ensures u ∙ (rw (lo, hi) at q))

pub returns-in-Day : goal.returns-in-Day
unfolding next_of day_next
returns-in-Day c = λ u. rw c.in-Day.is (c.same_row-in-Day.ensures u ∙ c.day_next.ensures)
