use mathlib.Core.Path.{◌≡◌, sym, ap, ◌∙◌, subst}
use mathlib.Core.List.{List, ◌++◌}
use Prim.Native.Nat.{ℕ, ◌+◌, ◌-◌, ◌*◌, ◌≤◌, ◌<◌}
use native.Mathlib.Omega.{arith}
use lib.ListN.{length, get_or, take, drop}
use lib.Seq.{take-length}
use Rattle.std.proofs.Common.{rules}
use Rattle.lists.specs.Lists.{concat_map}
use Rattle.automaton.specs.Counting.{N}
use Rattle.automaton.specs.Ranking.{unrank}
use Rattle.ranking.specs.Ranks.{Exact, IndicesBelow, with_scenarios}
use Rattle.ranking.proofs.Rows.{row_within}
use Rattle.ranking.proofs.Walk.{length-unrank, length_between, walk_step}
use Rattle.ranking.proofs.Counts.unrank_all.Goals as goal

pub loop-n-preserved : goal.loop-n-preserved
unfolding IndicesBelow
loop-n-preserved c =
    let a = c.args in
    let s = a.self.now in
    let lp = c.loop-n in
    let lt : lp.n < length a.list.now = c.loop-n-test.true in
    let room : lp.n * a.h + a.h ≤ length a.out.now = row_within lp.n (length a.list.now) a.h (length a.out.now) lt c.requires.2 in
    let i = get_or a.list.now lp.n 0 in
    let q : a.h ≡ length (take (lp.n * a.h + a.h - lp.n * a.h) (drop (lp.n * a.h) lp.out)) = omega (arith, length_between lp.out (lp.n * a.h) (lp.n * a.h + a.h) (omega arith)) in (
      search rules,
      λ A exact below.
          let back = c.unrank_whole.ensures A (subst (λ (r : ℕ). Exact A s.states 0 r a.x s.table.now s.cells.now) q exact) (subst (λ (r : ℕ). i < N A r a.x) q (below lp.n lt)) in
          walk_step (unrank A a.h a.x) a.h a.list.now (λ k h. length-unrank A a.h a.x (get_or a.list.now k 0) (below k h)) a.out.now lp.out lp.n _ lt
          (lp.invariant.1 A exact below) (back ∙ ap (λ (r : ℕ). unrank A r a.x i) (sym q)),
    )

pub returns : goal.returns
unfolding with_scenarios
returns c =
    λ A exact below.
    let a = c.args in
    let lp = c.loop-n in
    let e : lp.n ≡ length a.list.now = omega arith in
    lp.invariant.1 A exact below
    ∙ ap (λ (n : ℕ). concat_map (unrank A a.h a.x) (take n a.list.now) ++ drop (n * a.h) a.out.now) e
    ∙ ap (λ (l : List ℕ). concat_map (unrank A a.h a.x) l ++ drop (length a.list.now * a.h) a.out.now) (take-length a.list.now)
