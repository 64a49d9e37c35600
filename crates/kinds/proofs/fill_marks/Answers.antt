use mathlib.Core.Path.{◌≡◌, refl, ap, ◌∙◌}
use mathlib.Core.List.{List, []}
use Prim.Native.Nat.{ℕ, ◌<◌}
use native.Mathlib.Omega.{arith}
use lib.ListN.{set, length-set}
use Rattle.lists.specs.Lists.{pick, overwrite}
use Rattle.lists.proofs.Tables.{overwrite_more}
use Rattle.promises.specs.Text.{states_of}
use Rattle.promises.specs.Rig.{marked_of}
use Rattle.rig.specs.Record.{stop_index}
use Rattle.kinds.specs.Kinds.{as_kind}
use Rattle.kinds.proofs.Bands.{few}
use Rattle.kinds.proofs.Tables.{mark_entry}
use borrow.Author.Rules.{rules}
use Rattle.kinds.proofs.fill_marks.Goals as goal

pub loop-s-init : goal.loop-s-init
unfolding overwrite
loop-s-init c = (omega arith, refl, refl)

pub overflow_mul-stops : goal.overflow_mul-stops
overflow_mul-stops c = let l : c.loop-s.s < 32 = omega (arith, few (as_kind c.args.k) c.requires.in_range, c.states-s-end.ensures) in search rules

pub overflow_add-stops : goal.overflow_add-stops
overflow_add-stops c = let l : c.loop-s.s < 32 = omega (arith, few (as_kind c.args.k) c.requires.in_range, c.states-s-end.ensures) in search rules

pub bounds-stops-m : goal.bounds-stops-m
bounds-stops-m c = let l : c.loop-s.s < 32 = omega (arith, few (as_kind c.args.k) c.requires.in_range, c.states-s-end.ensures) in search rules

pub loop-s-preserved : goal.loop-s-preserved
loop-s-preserved c =
    let st = c.args in
    let lp = c.loop-s in (
      omega arith,
      simp length-set lp.invariant.1,
      ap (λ (l : List ℕ). set l (stop_index st.m lp.s) c.from.result) lp.invariant.2 ∙ overwrite_more st.stops.now (stop_index st.m) (λ s. pick (marked_of (as_kind st.k) [] s) 1 0) lp.s c.from.result (rw c.is_marked.ensures at (c.from.ensures ∙ mark_entry c.is_marked.result)),
    )

pub returns : goal.returns
returns c =
    let st = c.args in
    let lp = c.loop-s in
    let e : lp.s ≡ states_of (as_kind st.k) = omega (arith, c.states-s-end.ensures) in
    lp.invariant.2 ∙ ap (overwrite st.stops.now (stop_index st.m) (λ s. pick (marked_of (as_kind st.k) [] s) 1 0)) e
