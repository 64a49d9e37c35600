-- A `rig` line leaves the sizes within the limits.
-- Assumes nothing.
use mathlib.Core.Path.{◌≡◌, refl}
use mathlib.Core.Bool.{true, false, not}
use Prim.Native.Nat.{ℕ}
use lib.Dec.{eqb, ltb}
use borrow.Author.Tests.{ltb-false}
use Rattle.std.specs.Prelude.{Option, None, Some}
use Rattle.lists.proofs.Tests.{case, contra, or-rest}
use Rattle.promises.specs.Reading.{outside, is_bal, is_out_of_range}
use Rattle.decoding.specs.declared.Kind.{Kind}
use Rattle.decoding.specs.declared.Kind.TheVariants.{Mon, Gap, Reply, Bal, Day}
use Rattle.taking.specs.declared.Sizes.{Sizes}
use Rattle.taking.specs.Taking.{Allowed, latest_passes, latest_kind, only_if, rig_case, rig_sizes}
use Rattle.taking.proofs.Draft.take_line.Goals as goal

-- the range of a `bal` does not depend on the events
band_kept : (o : Option Kind) (E F : ℕ) → (latest_passes is_bal o ≡ true → is_out_of_range E (latest_kind o) ≡ false) → latest_passes is_bal o ≡ true → is_out_of_range F (latest_kind o) ≡ false
band_kept None E F h q = contra q refl
band_kept (Some (Mon S a)) E F h q = contra q refl
band_kept (Some (Gap e n)) E F h q = contra q refl
band_kept (Some (Reply a b lo hi)) E F h q = contra q refl
band_kept (Some (Bal lo hi)) E F h q = h refl
band_kept (Some (Day T)) E F h q = contra q refl

rig_allowed : (z : Sizes) (e : ℕ) → Allowed z → Allowed (only_if (rig_case z e) (rig_sizes z e) z)
unfolding rig_case
rig_allowed z e a = case (not (eqb z.events 0)) (λ p. rw p a) (λ p. case (outside 1 16 e) (λ q. rw (p, q) a) (λ q. rw (p, q) (record {
  few_events = ltb-false 16 e (or-rest (ltb e 1) (ltb 16 e) q);
  few_monitors = a.few_monitors;
  few_latest = a.few_latest;
  none_latest = a.none_latest;
  in_band = band_kept z.latest z.events e a.in_band;
  few_joint = a.few_joint;
})))

pub invariant_of-self : goal.invariant_of-self
invariant_of-self c = record { allowed = rw c.take_rig.ensures.after (rig_allowed c.args.self.now.sizes c.in-Some-Rig.e c.args.self.now.allowed) }
