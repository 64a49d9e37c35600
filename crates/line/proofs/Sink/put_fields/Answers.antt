use native.Mathlib.Omega.{arith}
use Rattle.line.proofs.Pieces.{field_fits, field_put}
use Rattle.line.proofs.Sink.put_fields.Goals as goal

pub put_field-requires : goal.put_field-requires
put_field-requires g c =
    let lp = c.loop-event in
    field_fits g.met.Self.Sink.laws c.args.events.now lp.event-index _ c.loop-event-test.true c.from.ensures _ _ lp.invariant.1 c.requires

pub loop-event-preserved : goal.loop-event-preserved
loop-event-preserved g c =
    let lp = c.loop-event in
    (omega arith, field_put g.met.Self.Sink.laws c.args.events.now lp.event-index _ c.loop-event-test.true c.from.ensures _ _ lp.invariant.1 _ c.put_field.ensures)
