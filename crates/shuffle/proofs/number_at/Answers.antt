-- A place held has its number; any other is the place itself, or the number that the last step with the same draw moved away, which stays
-- at that step's own place.
use Rattle.std.proofs.Common.{eqb, get_or, sym, ◌∙◌, add-one, arith}
use Rattle.shuffle.specs.Places.{drawn}
use Rattle.shuffle.proofs.Arrangement.{held_ahead, held_behind, drawn-first, drawn-again}
use Rattle.shuffle.proofs.Chains.{latest_step_le}
use Rattle.shuffle.proofs.number_at.Goals as goal

pub returns-then-d-numbers : goal.returns-then-d-numbers
unfolding drawn
returns-then-d-numbers c = held_ahead _ c.args.draws.now c.args.numbers.now _ _ c.requires.prepared.1 c.if-d-numbers.true c.requires.i_in_bounds.1

pub bounds-numbers-step : goal.bounds-numbers-step
bounds-numbers-step c =
    let near = c.requires.prepared.0.near in
    omega (arith, c.in-Some.ensures, latest_step_le (eqb (get_or c.args.draws.now c.args.i 0)) c.args.draws.now c.args.i)

pub offset_bounds-numbers-step : goal.offset_bounds-numbers-step
offset_bounds-numbers-step c = omega (arith, c.in-Some.ensures, latest_step_le (eqb (get_or c.args.draws.now c.args.i 0)) c.args.draws.now c.args.i)

pub returns-in-Some : goal.returns-in-Some
returns-in-Some c =
    let ds = c.args.draws.now in
    let step = c.in-Some.step in
    let last = c.in-Some.ensures in
    let l = latest_step_le (eqb (get_or ds c.args.i 0)) ds c.args.i in
    let near = c.requires.prepared.0.near in
    held_behind _ ds c.args.numbers.now c.args.i step c.requires.prepared.1 (omega arith) (omega arith) ∙ sym (drawn-again ds c.args.i step c.requires.i_in_bounds.1 (last ∙ add-one step))

pub returns-in-None : goal.returns-in-None
returns-in-None c = sym (drawn-first _ _ c.requires.i_in_bounds.1 c.in-None.ensures)
