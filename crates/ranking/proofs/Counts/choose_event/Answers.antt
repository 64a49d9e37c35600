use mathlib.Core.Path.{ap, ◌∙◌}
use mathlib.Core.List.{List}
use Prim.Native.Nat.{ℕ}
use native.Mathlib.Omega.{arith}
use lib.ListN.{get_or}
use Rattle.automaton.specs.Counting.{most}
use Rattle.counting.proofs.Sums.{up_to_none}
use Rattle.ranking.proofs.Steps.{past_all, past_last, step_over, choose_here, choose_none}
use Rattle.ranking.proofs.Counts.choose_event.Goals as goal

pub loop-entry-init : goal.loop-entry-init
loop-entry-init c = λ A r tabled holds le. omega (arith, up_to_none A r c.args.x)

pub returns-then-left-n-clause-chosen_by : goal.returns-then-left-n-clause-chosen_by
unfolding most
returns-then-left-n-clause-chosen_by c =
    λ A r tabled holds.
    let a = c.args in
    let s = a.self.now in
    let lp = c.loop-entry in
    let k = lp.entry-index in
    let way = c.in_ok-way in
    let is = way.ensures in
    choose_here A s.states s.table.now tabled s.few a.x c.requires.0 k _ (omega arith) (c.ways-entry-items.ensures.by_column k (omega arith)) is.0 way.way.event way.way.state is.1 is.2
    r _ holds c.count_at-n.result (c.count_at-n.ensures ∙ ap (λ (l : List ℕ). get_or l way.way.state 0) c.row-row.ensures) lp.left a.i (lp.invariant A r tabled holds) (omega arith) c.if-left-n.true

pub loop-entry-preserved : goal.loop-entry-preserved
loop-entry-preserved c =
    λ A r tabled holds le.
    let a = c.args in
    let s = a.self.now in
    let lp = c.loop-entry in
    let k = lp.entry-index in
    let way = c.in_ok-way in
    let is = way.ensures in
    step_over A s.states s.table.now tabled s.few a.x c.requires.0 k _ (omega arith) (c.ways-entry-items.ensures.by_column k (omega arith)) is.0 way.way.event way.way.state is.1 is.2
    r _ holds c.count_at-n.result (c.count_at-n.ensures ∙ ap (λ (l : List ℕ). get_or l way.way.state 0) c.row-row.ensures) lp.left a.i le (lp.invariant A r tabled holds le) c.if-left-n.false

pub returns-clause-chosen_by : goal.returns-clause-chosen_by
returns-clause-chosen_by c =
    λ A r tabled holds.
    let a = c.args in
    let s = a.self.now in
    let lp = c.loop-entry in
    choose_none A s.states s.table.now tabled s.few a.x c.requires.0 lp.entry-index
    (past_all A s.states s.table.now tabled s.few a.x c.requires.0 lp.entry-index (omega (arith, c.ways-entry-items.ensures.len))) r lp.left a.i (lp.invariant A r tabled holds)

pub returns-in_err-way-clause-chosen_by : goal.returns-in_err-way-clause-chosen_by
returns-in_err-way-clause-chosen_by c =
    λ A r tabled holds.
    let a = c.args in
    let s = a.self.now in
    let lp = c.loop-entry in
    let k = lp.entry-index in
    rw c.from_residual.ensures
    (choose_none A s.states s.table.now tabled s.few a.x c.requires.0 k
    (past_last A s.states s.table.now tabled s.few a.x c.requires.0 k _ (omega arith) (c.ways-entry-items.ensures.by_column k (omega arith)) c.in_err-way.ensures) r lp.left a.i (lp.invariant A r tabled holds))
