use mathlib.Core.Path.{◌≡◌, refl, ap, ap₂, ◌∙◌, fun_ext}
use mathlib.Core.List.{List}
use Prim.Native.Nat.{ℕ}
use native.Mathlib.Omega.{arith}
use Rattle.lists.specs.Lists.{overwrite}
use Rattle.promises.specs.Text.{states_of}
use Rattle.rig.specs.Record.{move_index}
use Rattle.kinds.specs.Kinds.{as_kind, entry_of, with_rows}
use Rattle.kinds.proofs.Tables.{rows_more}
use Rattle.kinds.proofs.Bands.{few}
use Rattle.kinds.proofs.fill_moves.Goals as goal

pub loop-s-init : goal.loop-s-init
unfolding with_rows
loop-s-init c = (omega arith, omega (arith, few (as_kind c.args.k) c.requires.in_range, c.states-n.ensures), refl, refl)

pub row_in-requires : goal.row_in-requires
row_in-requires c = (c.requires.in_range, omega (arith, c.states-n.ensures))

pub fill_row-requires : goal.fill_row-requires
fill_row-requires c =
    let lp = c.loop-s in
    (omega (arith, lp.invariant.1, lp.invariant.2, c.requires.place), lp.invariant.1)

pub loop-s-preserved : goal.loop-s-preserved
loop-s-preserved c =
    let lp = c.loop-s in
    let fr = c.fill_row in
    let n = c.states-n.ensures in (
      omega arith,
      lp.invariant.1,
      fr.auto.moves ∙ lp.invariant.2,
      fr.ensures
          ∙ ap₂ (λ (l : List ℕ) (f : ℕ → ℕ). overwrite l (move_index c.args.m lp.s) f 16) lp.invariant.3 (fun_ext (λ u. ap₂ entry_of n (c.row_in.ensures u)))
          ∙ rows_more c.args.moves.now c.args.m (as_kind c.args.k) lp.s,
    )

pub returns : goal.returns
returns c =
    let lp = c.loop-s in
    let e : lp.s ≡ states_of (as_kind c.args.k) = omega (arith, c.states-n.ensures) in
    lp.invariant.3 ∙ ap (with_rows c.args.moves.now c.args.m (as_kind c.args.k)) e
