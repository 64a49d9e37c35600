-- `sheets::put_leg`: the run is put, and the save after it where it reaches the slot's depth. Assumes nothing.
use Rattle.sheets.proofs.Texts.{leg_saved, leg_unsaved, run_within, saved_long}
use Rattle.sheets.proofs.put_leg.Goals as goal

pub put_events-requires : goal.put_events-requires
put_events-requires g c = g.met.S.Sink.laws.fewer _ _ _ (run_within c.args.g c.args.j c.args.run.now) c.requires

pub put_number-requires : goal.put_number-requires
put_number-requires g c =
    let st = c.args in
    g.met.S.Sink.laws.room _ _ _ _ c.put_events.ensures (rw (saved_long st.g st.j st.run.now c.if-run-g.true) at c.requires)

pub returns-then-run-g : goal.returns-then-run-g
returns-then-run-g g c =
    let st = c.args in
    rw (leg_saved st.g st.j st.run.now c.if-run-g.true) (g.met.S.Sink.laws.more _ _ _ _ _ c.put_events.ensures c.put_number.ensures)

pub returns-else-run-g : goal.returns-else-run-g
returns-else-run-g g c = rw (leg_unsaved c.args.g c.args.j c.args.run.now c.if-run-g.false) c.put_events.ensures
