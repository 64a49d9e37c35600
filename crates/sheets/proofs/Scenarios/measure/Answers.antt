use mathlib.Core.Path.{◌≡◌, sym, ap}
use Prim.Native.Nat.{◌+◌}
use native.Mathlib.Numerals.{add-one}
use native.Mathlib.Omega.{arith}
use native.Mathlib.Nat.{suc-mul}
use lib.ListN.{length}
use Rattle.promises.proofs.Sheets.{scenario-within}
use Rattle.sheets.proofs.Parts.{sheet_none, one_part, length_sheet, sheet_longer, part_bound}
use Rattle.sheets.proofs.Scenarios.measure.Goals as goal

pub loop-k-init : goal.loop-k-init
loop-k-init c =
    let st = c.args.self.now in
    let (no_text, no_events) = sheet_none st.h st.g st.events.now in
    (omega arith, sym (ap length no_text), omega arith, sym no_events, omega arith)

pub put_part-requires : goal.put_part-requires
put_part-requires c =
    let st = c.args.self.now in
    let p = one_part st.m st.h st.g st.spaced st.events.now st.enough c.loop-k.k _ c.loop-k-test.true c.runs-rest.ensures in
    (st.spaced, p.short, omega (arith, part_bound st.h st.g _ st.spaced st.few p.short (λ k. omega (arith, c.type_inv.rest k))))

pub returns-then-room-length : goal.returns-then-room-length
returns-then-room-length c =
    let st = c.args.self.now in
    let lp = c.loop-k in
    let s = st.events.now in
    let p = one_part st.m st.h st.g st.spaced s st.enough lp.k _ c.loop-k-test.true c.runs-rest.ensures in
    omega (arith, length_sheet st.h st.g s lp.k _ p, sheet_longer st.h st.g s (lp.k + 1) st.m (omega arith))

pub overflow_add-length : goal.overflow_add-length
overflow_add-length c = omega arith

pub overflow_add-total : goal.overflow_add-total
overflow_add-total c =
    let st = c.args.self.now in
    let lp = c.loop-k in
    let s = st.events.now in
    let p = one_part st.m st.h st.g st.spaced s st.enough lp.k _ c.loop-k-test.true c.runs-rest.ensures in
    omega (arith, p.short, scenario-within lp.k st.m st.h (length s) c.loop-k-test.true st.enough)

pub loop-k-preserved : goal.loop-k-preserved
loop-k-preserved c =
    let st = c.args.self.now in
    let lp = c.loop-k in
    let s = st.events.now in
    let p = one_part st.m st.h st.g st.spaced s st.enough lp.k _ c.loop-k-test.true c.runs-rest.ensures in
    let long = length_sheet st.h st.g s lp.k _ p in
    (omega arith, omega arith, omega arith, omega (arith, p.events_more), rw add-one (omega (arith, p.short, suc-mul lp.k st.h)))

pub returns : goal.returns
returns c =
    let lp = c.loop-k in
    let all : lp.k ≡ c.args.self.now.m = omega arith in
    let long = rw all at lp.invariant.1 in
    (omega arith, long, rw all at lp.invariant.3)
