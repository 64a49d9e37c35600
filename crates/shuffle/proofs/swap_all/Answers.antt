use Rattle.std.proofs.Common.{◌≡◌, ℕ, List, ◌++◌, length, get_or, drop, set, refl, ap, ◌∙◌, arith}
use Rattle.lists.specs.Lists.{tabulate}
use Rattle.lists.proofs.Tables.{tabulate-more}
use Rattle.shuffle.specs.Places.{drawn}
use Rattle.shuffle.proofs.Arrangement.{outputs, held_moved}
use Rattle.shuffle.proofs.Chains.{ready_front}
use Rattle.shuffle.proofs.swap_all.Goals as goal

pub loop-i-init : goal.loop-i-init
unfolding tabulate
loop-i-init c = (c.requires.prepared.1, refl)

pub number_at-number-requires-clause-prepared : goal.number_at-number-requires-clause-prepared
number_at-number-requires-clause-prepared c =
    let lp = c.loop-i in
    (ready_front c.args.draws.now c.args.numbers.now lp.numbers c.args.links.now (omega arith) c.requires.prepared.0, lp.invariant.0)

pub loop-i-preserved : goal.loop-i-preserved
loop-i-preserved c =
    let lp = c.loop-i in
    let near = c.requires.prepared.0.near in
    let v = c.number_at-number in
    let held = held_moved (length lp.numbers) c.args.draws.now lp.numbers lp.i (omega arith) (omega arith) (c.requires.draws_in_bounds.1 lp.i (omega arith)) lp.invariant.0 in (
      λ k h. ap (λ (s : List ℕ). get_or s k 0) c.move_number.ensures ∙ held k (omega (arith, c.move_number.auto.numbers)),
      ap (λ (l : List ℕ). set l lp.i v.result) lp.invariant.1 ∙ tabulate-more _ _ _ _ 0 (omega arith) v.ensures,
    )

pub returns : goal.returns
returns c =
    let lp = c.loop-i in
    let ds = c.args.draws.now in
    let e : lp.i ≡ length ds = omega arith in
    lp.invariant.1 ∙ ap (λ (n : ℕ). tabulate (drawn ds) n ++ drop n c.args.out.now) e ∙ ap (λ (l : List ℕ). l ++ drop (length ds) c.args.out.now) (outputs ds)
