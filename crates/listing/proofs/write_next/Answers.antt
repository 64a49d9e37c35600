-- The first h bytes of the events are the scenario of the index, so the line written from them is the line of the index. Assumes nothing.
use Rattle.listing.proofs.Beginning.{leads-next}
use Rattle.listing.proofs.write_next.Goals as goal

pub returns : goal.returns
returns c =
    let st = c.args in
    λ t ls lt. leads-next t st.c st.cells.now st.table.now _ _ st.line.now _ _ ls lt c.write_events.ensures c.write_line.ensures.value c.write_line.ensures.out_after
