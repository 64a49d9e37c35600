-- `sheets::tail`: the part of the new scenario from the loaded depth on. Assumes nothing.
use Prim.Native.Nat.{◌-◌, ◌*◌, ◌/◌}
use native.Mathlib.Omega.{arith}
use native.Mathlib.Nat.{div-mul-le_self}
use lib.ListN.{length, drop, length-drop}
use lib.Seq.{take_all}
use Rattle.promises.specs.Sheets.{shared, slot_for, depth_for, tail}
use Rattle.promises.proofs.Bench.{shared_right}
use Rattle.sheets.proofs.tail.Goals as goal

pub overflow_mul-depth : goal.overflow_mul-depth
overflow_mul-depth c = omega (arith, div-mul-le_self c.shared.result c.args.g)

pub slice_bounds-result-count : goal.slice_bounds-result-count
slice_bounds-result-count c =
    let st = c.args in
    omega (arith, div-mul-le_self c.shared.result st.g, shared_right st.prev.now st.new.now)

pub slice_bounds-result-start : goal.slice_bounds-result-start
slice_bounds-result-start c =
    let st = c.args in
    omega (arith, div-mul-le_self c.shared.result st.g, shared_right st.prev.now st.new.now)

pub returns : goal.returns
returns c =
    let st = c.args in
    let s = st.new.now in
    let q = c.shared.ensures in
    let depth = shared st.prev.now s / st.g * st.g in
    unfold tail depth_for slot_for in (rw q (take_all (length s - depth) (drop depth s) (rw length-drop (omega arith))))
