-- Where no index is bad every index is below the count (`all_good`), and all are written.
use mathlib.Core.Path.{subst}
use Prim.Native.Nat.{ℕ}
use Rattle.ranking.specs.Ranks.{IndicesBelow}
use Rattle.ranking.proofs.Walk.{all_good}
use Rattle.ranking.proofs.Counts.unrank_list.Goals as goal

pub returns-clause-listed_by : goal.returns-clause-listed_by
returns-clause-listed_by c =
    let a = c.args in
    λ A exact is. c.unrank_all.ensures A exact (subst (λ (n : ℕ). IndicesBelow n a.list.now) is (all_good a.count a.list.now c.in_default.ensures))
