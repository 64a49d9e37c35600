-- `sheets::alike_events`: the chain counts the events that the two begin with alike. Assumes nothing.
use mathlib.Core.Path.{sym, ◌∙◌}
use borrow.Author.Rules.{rules}
use borrow.Author.Tests.{tests}
use Rattle.std.specs.List.{zip}
use Rattle.std.proofs.lemmas.Iterator.{YieldsList-from_slice, YieldsList-from_zip}
use Rattle.std.proofs.lemmas.Iterator.Consumers.{count_from_yields_List}
use Rattle.std.proofs.lemmas.Iterator.Search.{YieldsList-from_take_while}
use Rattle.std.proofs.lemmas.List.Folds.{length-prefix_len}
use Rattle.sheets.proofs.SharedStarts.{same_pair, shared_zip}
use Rattle.sheets.proofs.alike_events.Goals as goal

pub returns : goal.returns
returns c =
    let a = c.args.prev.now in
    let b = c.args.new.now in
    count_from_yields_List c.take_while.result _ c.count.ensures.ran (YieldsList-from_take_while _ same_pair (YieldsList-from_zip (YieldsList-from_slice a cc) (YieldsList-from_slice b cc)) c.take_while.ensures.closure c.take_while.ensures.done (λ x b q k. search (rules, tests)))
    ∙ length-prefix_len same_pair (zip a b)
    ∙ sym (shared_zip a b)
