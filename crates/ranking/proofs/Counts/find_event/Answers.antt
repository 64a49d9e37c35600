use mathlib.Core.Path.{ap, ◌∙◌}
use mathlib.Core.List.{List}
use Prim.Native.Nat.{ℕ}
use native.Mathlib.Omega.{arith}
use lib.ListN.{get_or}
use borrow.Author.Tests.{lt-ltb}
use Rattle.counting.proofs.Sums.{up_to_none}
use Rattle.ranking.proofs.Steps.{past_all, past_last, within, add_on, found_here, found_later, found_nowhere}
use Rattle.ranking.proofs.Counts.find_event.Goals as goal

pub loop-entry-init : goal.loop-entry-init
loop-entry-init c = (λ A r tabled holds lt. omega (arith, up_to_none A r c.args.x), λ A tabled k lt q. omega arith)

pub returns-then-way-e-clause-found_by : goal.returns-then-way-e-clause-found_by
returns-then-way-e-clause-found_by c =
    λ A r tabled holds lt.
    let a = c.args in
    let s = a.self.now in
    let lp = c.loop-entry in
    let k = lp.entry-index in
    let way = c.in_ok-way in
    let is = way.ensures in
    let read = c.ways-entry-items.ensures.by_column k (omega arith) in
    rw (c.then_some.ensures, lt-ltb _ _ (within A s.states s.table.now tabled s.few a.x c.requires.0 k _ (omega arith) read is.0 way.way.event way.way.state is.1 is.2))
    (found_here A s.states s.table.now tabled s.few a.x c.requires.0 k _ (omega arith) read is.0 way.way.event way.way.state is.1 is.2
    a.e r lp.before c.if-way-e.true (lp.invariant.0 A r tabled holds lt))

pub loop-entry-preserved : goal.loop-entry-preserved
loop-entry-preserved c =
    let a = c.args in
    let s = a.self.now in
    let lp = c.loop-entry in
    let k = lp.entry-index in
    let way = c.in_ok-way in
    let is = way.ensures in (
      λ A r tabled holds lt.
          add_on A s.states s.table.now tabled s.few a.x c.requires.0 k _ (omega arith) (c.ways-entry-items.ensures.by_column k (omega arith)) is.0 way.way.event way.way.state is.1 is.2
          r _ holds c.count_at.result (c.count_at.ensures ∙ ap (λ (l : List ℕ). get_or l way.way.state 0) c.row-row.ensures)
          lp.before c.saturating_add-before.result (omega arith) (lp.invariant.0 A r tabled holds lt) c.saturating_add-before.ensures,
      λ A tabled.
          found_later A s.states s.table.now tabled s.few a.x c.requires.0 k _ (omega arith) (c.ways-entry-items.ensures.by_column k (omega arith)) is.0 way.way.event way.way.state is.1 is.2
          a.e (lp.invariant.1 A tabled) c.if-way-e.false,
    )

pub returns-clause-found_by : goal.returns-clause-found_by
returns-clause-found_by c =
    λ A r tabled holds lt.
    let a = c.args in
    let s = a.self.now in
    let lp = c.loop-entry in
    found_nowhere A s.states s.table.now tabled s.few a.x c.requires.0 lp.entry-index
    (past_all A s.states s.table.now tabled s.few a.x c.requires.0 lp.entry-index (omega (arith, c.ways-entry-items.ensures.len))) a.e r (lp.invariant.1 A tabled)

pub returns-in_err-way-clause-found_by : goal.returns-in_err-way-clause-found_by
returns-in_err-way-clause-found_by c =
    λ A r tabled holds lt.
    let a = c.args in
    let s = a.self.now in
    let lp = c.loop-entry in
    let k = lp.entry-index in
    rw c.from_residual.ensures
    (found_nowhere A s.states s.table.now tabled s.few a.x c.requires.0 k
    (past_last A s.states s.table.now tabled s.few a.x c.requires.0 k _ (omega arith) (c.ways-entry-items.ensures.by_column k (omega arith)) c.in_err-way.ensures) a.e r (lp.invariant.1 A tabled))
