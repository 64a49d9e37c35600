-- Assumes nothing.
use Rattle.std.proofs.Common.{rules, tests, ◌∙◌}
use lib.Dec.{leb}
use Rattle.std.proofs.lemmas.Iterator.{YieldsList-from_slice}
use Rattle.std.proofs.lemmas.Iterator.Search.{any_from_yields_List}
use Rattle.taking.proofs.Listed.{list_any-any}
use Rattle.taking.proofs.names_none.Goals as goal

pub returns : goal.returns
returns c =
    let xs = c.args.bytes.now in
    any_from_yields_List (leb c.args.events) _ _ _ c.any.ensures.ran (YieldsList-from_slice xs cc) (λ x b q k. search (rules, tests)) ∙ list_any-any (leb c.args.events) xs
