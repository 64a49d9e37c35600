-- `line_capi::wandukhai_line`: its two tests are the one of `line_within`, without a product that could leave 64 bits.
-- Assumes nothing.
use mathlib.Core.Path.{◌≡◌, refl}
use mathlib.Core.List.{List, ◌++◌}
use Prim.Native.Nat.{ℕ, ◌+◌, ◌*◌, ◌<◌}
use native.Mathlib.Omega.{arith}
use lib.ListN.{length, drop}
use borrow.Author.Tests.{le-leb, lt-leb}
use Rattle.line_capi.specs.Room.{line_within}
use Rattle.lists.proofs.Tests.{uncurry}
use Rattle.line_capi.proofs.wandukhai_line.Goals as goal

-- what is too short stays as it is
none_written : (index : ℕ) (events out : List ℕ) → length out < 21 + 4 * length events
    → (0 ≡ length (line_within index events (length out))) × (out ≡ line_within index events (length out) ++ drop (length (line_within index events (length out))) out)
none_written index events out h = rw (lt-leb (21 + 4 * length events) (length out) h) (refl, refl)

pub returns-then-out-lt21 : goal.returns-then-out-lt21
returns-then-out-lt21 c =
    let st = c.args in
    uncurry (λ v o. record { value = v; out_after = o })
    (none_written st.index st.events.now st.out.now (omega arith))

pub returns-then-out-events : goal.returns-then-out-events
returns-then-out-events c =
    let st = c.args in
    uncurry (λ v o. record { value = v; out_after = o })
    (none_written st.index st.events.now st.out.now (omega arith))

pub returns : goal.returns
returns c =
    let st = c.args in
    uncurry (λ v o. record { value = v; out_after = o })
    (rw (le-leb (21 + 4 * length st.events.now) (length st.out.now) (omega arith)) (c.write_line.ensures.value, c.write_line.ensures.out_after))
