use Rattle.std.proofs.Common.{rules, tests}
use Rattle.std.proofs.lemmas.Iterator.{YieldsList-from_slice}
use Rattle.std.proofs.lemmas.Iterator.Search.{position_from_yields_List}
use lib.Dec.{leb}
use Rattle.refusal.proofs.Places.{position-first_bad}
use Rattle.ranking.proofs.first_not_below.Goals as goal

pub returns : goal.returns
returns c =
    rw (← position-first_bad c.args.n c.args.list.now)
    (position_from_yields_List (leb c.args.n) _ _ c.position.result c.position.ensures.ran (YieldsList-from_slice _ c.iter.ensures.rest) (λ x b q k. search (rules, tests)))
