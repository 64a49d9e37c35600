-- `sheets::alike_blocks`: what the chain counts is the number of blocks that are alike. Assumes nothing.
use mathlib.Core.Path.{◌≡◌, ◌∙◌}
use native.Mathlib.Omega.{arith}
use Prim.Native.Nat.{◌/◌}
use borrow.Author.Rules.{rules}
use borrow.Author.Tests.{tests}
use lib.ListN.{length}
use Rattle.std.specs.List.{zip}
use Rattle.std.specs.Simd.{first_chunks}
use Rattle.std.proofs.lemmas.Iterator.{YieldsList-from_slice, YieldsList-from_zip}
use Rattle.std.proofs.lemmas.Iterator.Consumers.{count_from_yields_List}
use Rattle.std.proofs.lemmas.Iterator.Search.{YieldsList-from_take_while}
use Rattle.std.proofs.lemmas.List.Folds.{length-prefix_len}
use Rattle.sheets.proofs.SharedStarts.{same_block, alike_blocks, blocks_within, blocks_alike}
use Rattle.sheets.proofs.alike_blocks.Goals as goal

pub returns : goal.returns
returns c =
    let a = c.args.prev.now in
    let b = c.args.new.now in
    let n = length a / 16 in
    let m = length b / 16 in
    let olds = first_chunks 16 n a in
    let news = first_chunks 16 m b in
    let k : c.count.result ≡ alike_blocks n m a b =
    count_from_yields_List c.take_while.result _ c.count.ensures.ran (YieldsList-from_take_while _ same_block (YieldsList-from_zip (YieldsList-from_slice olds cc) (YieldsList-from_slice news cc)) c.take_while.ensures.closure c.take_while.ensures.done (λ x b q k. search (rules, tests)))
    ∙ length-prefix_len same_block (zip olds news) in
    let (l, r) = blocks_within n m a b in
    rw k (omega arith, omega arith, blocks_alike n m a b)
