use Rattle.std.proofs.Common.{rules, tests, ℕ}
use Rattle.std.proofs.lemmas.List.FromFn.{length-enumerate_from}
use Rattle.std.proofs.lemmas.Iterator.{YieldsList-from_slice}
use Rattle.std.proofs.lemmas.Iterator.Consumers.{YieldsList-from_enumerate}
use Rattle.std.proofs.lemmas.Iterator.Search.{position_from_yields_List}
use Rattle.promises.specs.Calls.{bad_draw}
use Rattle.shuffle.proofs.Draws.{position-bad_draw}
use Rattle.shuffle.proofs.first_bad.Goals as goal

pub returns : goal.returns
unfolding bad_draw
returns c =
    let n = c.args.n in
    let ds = c.args.draws.now in
    rw (← position-bad_draw (bad_draw n) ds, ← length-enumerate_from 0 ds)
    (position_from_yields_List (λ (p : ℕ × ℕ). bad_draw n p.0 p.1) _ _ c.position.result c.position.ensures.ran
    (YieldsList-from_enumerate (YieldsList-from_slice ds (cc)) (cc)) (λ x b q k. search (rules, tests)))
