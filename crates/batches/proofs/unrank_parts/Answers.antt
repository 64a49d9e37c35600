use mathlib.Core.Path.{◌≡◌, refl, sym, subst}
use Prim.Native.Nat.{ℕ, ◌+◌, ◌-◌, ◌*◌, ◌<◌}
use native.Mathlib.Omega.{arith}
use lib.ListN.{length, get_or, length-set}
use Rattle.std.proofs.Common.{rules}
use Rattle.automaton.specs.Counting.{N}
use Rattle.ranking.specs.Ranks.{Exact}
use Rattle.ranking.proofs.Walk.{length_part}
use Rattle.batches.specs.Batches.{StatesBelow, nowhere}
use Rattle.keeping.proofs.Places.{place_below, past_refl}
use Rattle.batches.proofs.Parts.{passed_none, passed_all, passed_more, states-set}
use Rattle.batches.proofs.unrank_parts.Goals as goal

pub loop-k-init : goal.loop-k-init
loop-k-init c =
    let a = c.args in
    (refl, refl, c.requires.states, λ A b x is tabled holds e all. (passed_none A x a.h is a.at a.n b a.standings.now a.out.now all, past_refl _ a.out.now))

pub unrank-standing-requires : goal.unrank-standing-requires
unfolding StatesBelow
unrank-standing-requires c =
    let a = c.args in
    let lp = c.loop-k in
    let own = place_below lp.k (length a.standings.now) a.h c.loop-k-test.true in
    (lp.invariant.2 lp.k (omega arith), rw (length_part lp.out (lp.k * a.h + a.at) a.n (omega arith)) c.requires.bounds.0)

pub loop-k-preserved : goal.loop-k-preserved
loop-k-preserved c =
    let a = c.args in
    let s = a.counts.now in
    let lp = c.loop-k in
    let own = place_below lp.k (length a.standings.now) a.h c.loop-k-test.true in
    let u = c.unrank-standing in
    let from = lp.k * a.h + a.at in
    let w : from + a.n - from ≡ a.n = omega arith in
    let q = length_part lp.out from a.n (omega arith) in
    let now = get_or lp.standings lp.k nowhere in (
      search rules,
      simp length-set lp.invariant.1,
      states-set s.states lp.k _ lp.standings u.ensures.upper_bound (omega arith) lp.invariant.2,
      λ A b x is tabled holds e all.
          let (passed, past) = lp.invariant.3 A b x is tabled holds e all in
          let here = passed.ahead lp.k (omega arith) (omega arith) in
          let exact : Exact A s.states b a.n now.state s.table.now s.cells.now = record { tabled = tabled; holds = holds; not_cut_off = here.not_cut_off } in
          let told = u.ensures.unranked_by A b (subst (λ (r : ℕ). Exact A s.states b r now.state s.table.now s.cells.now) (sym q) exact) (subst (λ (r : ℕ). now.left < N A (b + r) now.state) (sym q) here.is_below) in
          passed_more A x a.h is a.at a.n b lp.k lp.standings lp.out _ _ (omega arith) (omega arith) (rw e (omega arith)) (omega arith) passed q w told a.out.now past,
    )

pub returns-clause-parts_by : goal.returns-clause-parts_by
returns-clause-parts_by c =
    let a = c.args in
    let lp = c.loop-k in
    λ A b x is tabled holds e all.
    let (passed, past) = lp.invariant.3 A b x is tabled holds e all in
    (passed_all A x a.h is a.at a.n b lp.k lp.standings lp.out (omega arith) passed, past)
