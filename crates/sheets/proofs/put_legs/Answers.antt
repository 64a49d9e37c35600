use mathlib.Core.Path.{◌≡◌, sym, ap, ◌∙◌}
use mathlib.Core.List.{[], ◌++◌, append_assoc, append-nil}
use Prim.Native.Nat.{◌+◌}
use native.Mathlib.Omega.{arith}
use lib.ListN.{length, length-append}
use Rattle.std.specs.Slice.Iter.{chunks_rest}
use Rattle.line.proofs.Pieces.{piece_fits}
use Rattle.promises.specs.Sheets.{leg, text}
use Rattle.sheets.proofs.Parts.{leg_more, legs_end}
use Rattle.sheets.proofs.put_legs.Goals as goal

pub loop-run-init : goal.loop-run-init
loop-run-init g c =
    let st = c.args in
    let laws = g.met.S.Sink.laws in
    let all : chunks_rest c.into_iter-run-iterator.result ≡ st.rest.now = ap chunks_rest c.into_iter-run-iterator.ensures.into_iter_gives ∙ c.chunks-run-items.ensures.rest in
    let size = ap Rattle.std.specs.Slice.Iter.chunks_size c.into_iter-run-iterator.ensures.into_iter_gives ∙ c.chunks-run-items.ensures.size in (
      rw size c.requires.0,
      tt,
      size,
      rw all (omega arith),
      [],
      rw all,
      laws.none _ (laws.fewer _ _ _ (omega arith) c.requires.2),
    )

pub overflow_add-j : goal.overflow_add-j
overflow_add-j g c = let lp = c.loop-run in let step = c.in-Some.ensures.steps in omega (arith, lp.invariant.3, step.1.2)

pub put_leg-requires : goal.put_leg-requires
put_leg-requires g c =
    let lp = c.loop-run in
    let step = c.in-Some.ensures.steps in
    piece_fits g.met.S.Sink.laws _ lp.invariant.4 _ _ (leg_more c.args.g c.requires.0 lp.j _ lp.invariant.4 _ _ _ _ lp.invariant.5 step.1.0 step.1.1 lp.invariant.2 step.1.2) _ _ lp.invariant.6 c.requires.2

pub loop-run-preserved : goal.loop-run-preserved
loop-run-preserved g c =
    let lp = c.loop-run in
    let step = c.in-Some.ensures.steps in
    let s = lp.invariant.4 in
    let t = text (leg c.args.g (lp.j + 1) c.in-Some.run'.now) in
    let len = ap length step.1.0 ∙ length-append c.in-Some.run'.now (chunks_rest c.next.new.self) in (
      omega (arith, step.0, lp.invariant.0),
      tt,
      step.0 ∙ lp.invariant.2,
      omega (arith, lp.invariant.3, lp.invariant.0, step.1.1, step.1.2, len),
      s ++ t,
      leg_more c.args.g c.requires.0 lp.j _ s _ _ _ _ lp.invariant.5 step.1.0 step.1.1 lp.invariant.2 step.1.2 ∙ sym (append_assoc s t _),
      g.met.S.Sink.laws.more _ _ _ s t lp.invariant.6 c.put_leg.ensures,
    )

pub returns : goal.returns
returns g c =
    let lp = c.loop-run in
    rw (lp.invariant.5, legs_end c.args.g lp.j _ c.in-None.ensures.steps.1.0, append-nil) lp.invariant.6
