-- A monitor has at most 32 states, so nothing overflows, and the sizes after it are within the limits.
-- Assumes nothing.
use mathlib.Core.Path.{sym, ◌∙◌}
use Prim.Native.Nat.{◌*◌, ◌≤◌}
use native.Mathlib.Omega.{arith}
use native.Mathlib.Nat.{mul-le-mul}
use Rattle.promises.proofs.Lines.{start_below}
use Rattle.kinds.specs.Kinds.{as_kind, InRange}
use Rattle.kinds.proofs.Bands.{ranged, few}
use Rattle.taking.proofs.Draft.take_kind.Goals as goal

pub overflow_mul-joint : goal.overflow_mul-joint
overflow_mul-joint c =
    let r : InRange (as_kind c.args.k) = (c.args.self.now.sizes.events, sym c.out_of_range.ensures ∙ c.if-out_of_range.false, sym c.equal.ensures ∙ c.if-equal.false) in
    let h : c.args.self.now.sizes.joint * c.states-n.result ≤ 1024 * 32 = mul-le-mul {m₂ = 32} c.args.self.now.allowed.few_joint (rw c.states-n.ensures (few (as_kind c.args.k) r)) in
    omega arith

pub overflow_cast-self : goal.overflow_cast-self
overflow_cast-self c =
    let r : InRange (as_kind c.args.k) = (c.args.self.now.sizes.events, sym c.out_of_range.ensures ∙ c.if-out_of_range.false, sym c.equal.ensures ∙ c.if-equal.false) in
    omega (arith, few (as_kind c.args.k) r, c.states-n.ensures)

pub overflow_cast-self-2 : goal.overflow_cast-self-2
overflow_cast-self-2 c =
    let r : InRange (as_kind c.args.k) = (c.args.self.now.sizes.events, sym c.out_of_range.ensures ∙ c.if-out_of_range.false, sym c.equal.ensures ∙ c.if-equal.false) in
    omega (arith, few (as_kind c.args.k) r, start_below r.0 (as_kind c.args.k) (ranged (as_kind c.args.k) r), c.start.ensures)

pub invariant_of-self : goal.invariant_of-self
invariant_of-self c =
    let r : InRange (as_kind c.args.k) = (c.args.self.now.sizes.events, sym c.out_of_range.ensures ∙ c.if-out_of_range.false, sym c.equal.ensures ∙ c.if-equal.false) in
    record {
      allowed = record {
        few_events = c.args.self.now.allowed.few_events;
        few_monitors = omega (arith, c.if-m-ge4.false);
        few_latest = few (as_kind c.args.k) r;
        none_latest = λ q. absurd (omega arith);
        in_band = λ q. r.1;
        few_joint = omega arith;
      };
    }
