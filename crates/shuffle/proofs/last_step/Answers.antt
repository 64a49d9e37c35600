use Rattle.std.proofs.Common.{length-append, get_or-append-add, sym, arith}
use Rattle.shuffle.proofs.Chains.{walk_begins, walk_goes_on, walk_finds, walk_ends}
use Rattle.shuffle.proofs.last_step.Goals as goal

pub loop-link-init : goal.loop-link-init
loop-link-init c = let (front, w) = c.requires in (front, w, rw get_or-append-add at (walk_begins _ _ _ w.1 _ w.3 w.0))

pub bounds-draws-step : goal.bounds-draws-step
bounds-draws-step c = let (front, w, k) = c.loop-link.invariant in let early = k.early in omega (arith, w.0)

pub offset_bounds-draws-step : goal.offset_bounds-draws-step
offset_bounds-draws-step c = let (front, w, k) = c.loop-link.invariant in let early = k.early in omega (arith, w.0)

pub bounds-links-step : goal.bounds-links-step
bounds-links-step c = let (front, w, k) = c.loop-link.invariant in let early = k.early in omega (arith, w.0, w.2, length-append front c.args.links.now)

pub offset_bounds-links-step : goal.offset_bounds-links-step
offset_bounds-links-step c = let (front, w, k) = c.loop-link.invariant in let early = k.early in omega (arith, w.0, w.2, length-append front c.args.links.now)

pub returns-then-draws-step : goal.returns-then-draws-step
returns-then-draws-step c =
    let (front, w, k) = c.loop-link.invariant in
    let e = walk_finds _ _ _ _ k c.loop-link-test.true c.if-draws-step.true in
    omega arith

pub loop-link-smaller : goal.loop-link-smaller
loop-link-smaller c =
    let (front, w, k) = c.loop-link.invariant in
    rw get_or-append-add at (walk_goes_on _ _ _ w.1 _ w.3 w.0 _ k c.loop-link-test.true c.if-draws-step.false).0

pub loop-link-preserved : goal.loop-link-preserved
loop-link-preserved c =
    let (front, w, k) = c.loop-link.invariant in
    (front, w, rw get_or-append-add at (walk_goes_on _ _ _ w.1 _ w.3 w.0 _ k c.loop-link-test.true c.if-draws-step.false).1)

pub returns : goal.returns
returns c = let (front, w, k) = c.loop-link.invariant in sym (walk_ends _ _ _ _ k (omega arith))
