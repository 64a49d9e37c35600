-- The ranges of a kind's numbers, and the sums of a `bal` in numbers of 64 bits. Assumes nothing.
--   Bounds lo hi       == lo and hi are the ends of a band
use mathlib.Core.Path.{◌≡◌}
use mathlib.Core.Logic.{inl, inr}
use mathlib.Core.Bool.{false}
use Prim.Native.Nat.{ℕ, ◌≤◌}
use native.Mathlib.Omega.{arith}
use lib.IntN.{ℤ, pos, neg_ℤ, ◌+ℤ◌, ◌-ℤ◌}
use lib.Signed.{mag, ◌≤ℤ◌}
use mir.Syntax.{w64}
use mir.Val.{SFits, to_z, of_z}
use mir.ValLaws.{to_z_pos, to_z-of_z}
use Rattle.lists.proofs.Integers.{not_belowℤ, leℤ_trans, mag_add, mag_minus, mag_within}
use Rattle.promises.specs.Text.{Kind, bal, states_of}
use Rattle.promises.specs.Reading.{outsideℤ}
use Rattle.promises.proofs.Lines.{Ranged, in_range, band, few_states, start_below}
use Rattle.promises.proofs.KindTests.{tells_out, tells_equal, tells_outsideℤ}
use Rattle.kinds.specs.Kinds.{InRange}

pub ranged : (k : Kind) (r : InRange k) → Ranged r.0 k
ranged k (E, p, q) = in_range E k ((tells_out E k).no p) ((tells_equal k).no q)

-- 1 to 32 states
pub few : (k : Kind) → InRange k → states_of k ≤ 32
few k r = few_states r.0 k (ranged k r)

pub some_state : (k : Kind) → InRange k → 1 ≤ states_of k
some_state k r = omega (arith, start_below r.0 k (ranged k r))

-- a step from −15 to 15
step_small : (d : ℤ) → outsideℤ (neg_ℤ (pos 15)) (pos 15) d ≡ false → mag d ≤ 15
step_small d q =
    let out = (tells_outsideℤ (neg_ℤ (pos 15)) (pos 15) d).no q in
    mag_within 15 d (not_belowℤ d (neg_ℤ (pos 15)) (λ h. out (inl h))) (not_belowℤ (pos 15) d (λ h. out (inr h)))

pub record Bounds (lo hi : ℤ) : Type 0 where
  pub low : mag lo ≤ 15
  pub high : mag hi ≤ 15
  pub not_over : lo ≤ℤ hi
  pub with_zero : lo ≤ℤ pos 0

pub bounds : (lo hi : ℤ) → InRange (bal lo hi) → Bounds lo hi
unfolding Ranged
bounds lo hi r =
    let (l, low, high, h) = ranged (bal lo hi) r in
    record {
      low = mag_within 15 lo l (leℤ_trans lo (pos 0) (pos 15) low (record { le = tt }));
      high = mag_within 15 hi (leℤ_trans (neg_ℤ (pos 15)) (pos 0) hi (record { le = tt }) high) h;
      not_over = band lo hi low high;
      with_zero = low;
    }

module _ (lo hi : ℤ) (b : Bounds lo hi) where
  pub width_fits : SFits w64 (hi -ℤ lo)
  width_fits = record { sfits = omega (arith, mag_minus hi lo, b.low, b.high) }

  pub minus_fits : SFits w64 (pos 0 -ℤ lo)
  minus_fits = record { sfits = omega (arith, mag_minus (pos 0) lo, b.low) }

-- the numbers of one step of a `bal`: each fits 64 bits, and is read back as it is
pub record Step (lo hi d : ℤ) (s : ℕ) : Type 0 where
  pub ends : Bounds lo hi
  pub state_fits : SFits w64 (lo +ℤ pos s)
  pub moved_fits : SFits w64 (lo +ℤ pos s +ℤ d)
  pub back_fits : SFits w64 (lo +ℤ pos s +ℤ d -ℤ lo)
  pub lo_read : to_z w64 (of_z w64 lo) ≡ lo
  pub hi_read : to_z w64 (of_z w64 hi) ≡ hi
  pub d_read : to_z w64 (of_z w64 d) ≡ d
  pub s_read : to_z w64 s ≡ pos s
  pub state_read : to_z w64 (of_z w64 (lo +ℤ pos s)) ≡ lo +ℤ pos s
  pub moved_read : to_z w64 (of_z w64 (lo +ℤ pos s +ℤ d)) ≡ lo +ℤ pos s +ℤ d

pub step : (lo hi d : ℤ) (s : ℕ) → SFits w64 lo → SFits w64 hi → SFits w64 d → InRange (bal lo hi) × (outsideℤ (neg_ℤ (pos 15)) (pos 15) d ≡ false) × (s ≤ 31) → Step lo hi d s
step lo hi d s l h f (r, o, few) =
    let b = bounds lo hi r in
    let small = step_small d o in
    let x = mag_add lo (pos s) in
    let y = mag_add (lo +ℤ pos s) d in
    let state : SFits w64 (lo +ℤ pos s) = record { sfits = omega (arith, x, b.low) } in
    let moved : SFits w64 (lo +ℤ pos s +ℤ d) = record { sfits = omega (arith, x, y, b.low) } in
    record {
      ends = b;
      state_fits = state;
      moved_fits = moved;
      back_fits = record { sfits = omega (arith, mag_minus (lo +ℤ pos s +ℤ d) lo, x, y, b.low) };
      lo_read = to_z-of_z w64 lo l;
      hi_read = to_z-of_z w64 hi h;
      d_read = to_z-of_z w64 d f;
      s_read = to_z_pos w64 s (omega arith);
      state_read = to_z-of_z w64 (lo +ℤ pos s) state;
      moved_read = to_z-of_z w64 (lo +ℤ pos s +ℤ d) moved;
    }
