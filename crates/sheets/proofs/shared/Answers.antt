-- `sheets::shared`: what is alike in blocks is skipped, and the rest is compared event by event. Assumes nothing.
use native.Mathlib.Omega.{arith}
use Rattle.promises.proofs.Bench.{shared_left}
use Rattle.sheets.proofs.SharedStarts.{shared_rest}
use Rattle.sheets.proofs.shared.Goals as goal

pub overflow_mul-from : goal.overflow_mul-from
overflow_mul-from c = omega (arith, c.alike_blocks-from.ensures.0)

pub overflow_add-result : goal.overflow_add-result
overflow_add-result c =
    let (left, right, alike) = c.alike_blocks-from.ensures in
    omega (arith, shared_rest _ c.args.prev.now c.args.new.now left right alike _ c.alike_events.ensures, shared_left c.args.prev.now c.args.new.now)

pub returns : goal.returns
returns c =
    let (left, right, alike) = c.alike_blocks-from.ensures in
    shared_rest _ c.args.prev.now c.args.new.now left right alike _ c.alike_events.ensures
