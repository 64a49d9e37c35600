use mathlib.Core.Path.{◌≡◌, refl, ap, ◌∙◌}
use mathlib.Core.List.{List}
use Prim.Native.Nat.{ℕ, ◌<◌}
use native.Mathlib.Omega.{arith}
use lib.ListN.{set, length-set}
use Rattle.rig.specs.Record.{move_index, move_at}
use Rattle.lists.specs.Lists.{overwrite}
use Rattle.lists.proofs.Tables.{overwrite_more}
use Rattle.kinds.specs.Kinds.{with_column, hour_of}
use Rattle.kinds.proofs.Tables.{column_beside}
use Rattle.kinds.proofs.fill_hours.Goals as goal

pub loop-s-init : goal.loop-s-init
unfolding overwrite
loop-s-init c = (omega arith, refl, refl)

pub loop-s-preserved : goal.loop-s-preserved
loop-s-preserved c =
    let lp = c.loop-s in
    let x = c.args in
    let f : ℕ → ℕ = λ s. hour_of x.t x.a x.b x.first s (move_at x.moves.now x.m s x.e) in
    let l : lp.s < 32 = omega (arith, c.requires.2) in
    let old : move_at lp.moves x.m lp.s x.e ≡ move_at x.moves.now x.m lp.s x.e =
    ap (λ (v : List ℕ). move_at v x.m lp.s x.e) lp.invariant.2
    ∙ column_beside x.moves.now x.m x.e f lp.s x.m lp.s x.e (omega arith) c.requires.1 l c.requires.1 (λ p q r. omega arith)
    in (
      omega arith,
      simp length-set lp.invariant.1,
      ap (λ (v : List ℕ). set v (move_index x.m lp.s x.e) c.hour.result) lp.invariant.2
          ∙ overwrite_more x.moves.now (λ s. move_index x.m s x.e) f lp.s c.hour.result (c.hour.ensures ∙ ap (hour_of x.t x.a x.b x.first lp.s) old),
    )

pub returns : goal.returns
returns c =
    let x = c.args in
    let lp = c.loop-s in
    let e : lp.s ≡ x.t = omega arith in
    lp.invariant.2 ∙ ap (with_column x.moves.now x.m x.e (λ s. hour_of x.t x.a x.b x.first s (move_at x.moves.now x.m s x.e))) e
