-- The step is chosen by the row of what is left after it (`row_lent`). Its event is stored and the rest of the part lent on for what is left of the index,
-- which is below the next state's count (`chosen_unrank`); the events left fall by one.
use mathlib.Core.Path.{◌≡◌, sym, subst}
use Prim.Native.Nat.{ℕ, ◌+◌, ◌-◌, ◌<◌}
use native.Mathlib.Omega.{arith}
use lib.ListN.{length}
use Rattle.std.proofs.Common.{rules, Some, None}
use Rattle.automaton.specs.Counting.{N}
use Rattle.ranking.specs.Ranks.{Exact, Chosen, Unranked}
use Rattle.ranking.proofs.Premises.{exact_on, unranked_step, step_known}
use Rattle.ranking.proofs.Rows.{length_rest}
use Rattle.ranking.proofs.Counts.+unrank_on.Goals as goal

pub returns-in_default-clause-unranked_by : goal.returns-in_default-clause-unranked_by
returns-in_default-clause-unranked_by t c =
    λ A b exact below.
    let a = c.args in
    let s = a.self.now in
    let r = length a.out.now in
    absurd {A = Unranked A b r a.x a.i.now a.out.now a.x a.i.now} (step_known A s.states b r a.x a.i.now s.table.now s.cells.now (search rules) exact below None c.in_default.ensures.chosen_by)

pub returns-clause-unranked_by : goal.returns-clause-unranked_by
returns-clause-unranked_by t c =
    λ A b exact below.
    let a = c.args in
    let s = a.self.now in
    let r = length a.out.now in
    let k = r - 1 in
    let step = c.in-Some.step in
    let on = c.unrank_on in
    let some : 0 < r = search rules in
    let e : r ≡ k + 1 = omega arith in
    let is : Chosen A (b + k) a.x a.i.now step = step_known A s.states b r a.x a.i.now s.table.now s.cells.now some exact below (Some step) c.in-Some.ensures.chosen_by in
    let rest : Exact A s.states b k step.state s.table.now s.cells.now = exact_on A s.states b k a.x a.i.now s.table.now s.cells.now step is below e exact in
    let q = sym (length_rest a.out.now step.event (omega arith)) in
    let back = on.ensures.unranked_by A b (subst (λ (n : ℕ). Exact A s.states b n step.state s.table.now s.cells.now) q rest) (subst (λ (n : ℕ). step.left < N A (b + n) step.state) q is.is_below) in
    unranked_step A b k a.x a.i.now a.out.now step is _ on.result _ e below (sym q) back
