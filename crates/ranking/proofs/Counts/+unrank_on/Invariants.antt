use lib.ListN.{length}
use Rattle.ranking.proofs.Counts.+unrank_on.Given as goal

abbrev pub decreases-unrank_on : goal.decreases-unrank_on
decreases-unrank_on l = length l.out.now
