-- Each return is a case of rows 7 and 8. The product fits because at most 1,001 rows are needed and P is at most 1,024. Assumes nothing.
use mathlib.Core.Path.{ap}
use Prim.Native.Nat.{ℕ, ◌*◌, ◌≤◌}
use native.Mathlib.Omega.{arith}
use Rattle.joint.proofs.Digits.{states_few}
use Rattle.checks.specs.Loading.{rows_for}
use Rattle.checks.proofs.Laws.{cells_few, sizes_7, sizes_8, sizes_on}
use Rattle.checks.proofs.check_sizes.Goals as goal

pub returns-then-h-gt1000 : goal.returns-then-h-gt1000
returns-then-h-gt1000 c = sizes_7 c.args.rig _ c.args.h c.args.room c.if-h-gt1000.true

pub overflow_mul-needed : goal.overflow_mul-needed
overflow_mul-needed c =
    let st = c.args in
    let states : ℕ = c.joint_states-states.result in
    let few : states ≤ 1024 = omega (arith, c.joint_states-states.ensures, states_few st.rig c.requires) in
    let fits : rows_for st.rows st.h * states ≤ 1001 * 1024 = cells_few st.rows st.h states c.if-h-gt1000.false few in
    omega (arith, ap (λ (n : ℕ). n * states) c.needed.ensures)

pub returns-then-room-needed : goal.returns-then-room-needed
returns-then-room-needed c =
    sizes_8 c.args.rig _ c.args.h c.args.room c.needed.result _ c.if-h-gt1000.false c.needed.ensures c.joint_states-states.ensures c.if-room-needed.true

pub returns : goal.returns
returns c =
    sizes_on c.args.rig _ c.args.h c.args.room c.needed.result _ _
    c.requires c.if-h-gt1000.false c.needed.ensures c.joint_states-states.ensures c.if-room-needed.false c.joint_start-start.ensures
