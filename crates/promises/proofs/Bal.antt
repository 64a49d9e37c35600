-- A `bal` monitor admits just the sequences of which every partial sum of the steps stays in the band.
-- Why: its states and the differences of the band are the same numbers, lo apart, so the sentence of u ∷ w in the difference x is that of w in x and the step of u.
-- Assumes nothing.
use mathlib.Core.Path.{◌≡◌, refl, sym, ap, ◌∙◌, subst}
use mathlib.Core.Logic.{inl, inr, ◌↔◌, ⊎_elim}
use mathlib.Core.Bool.{true, false}
use mathlib.Core.List.{List, [], ◌∷◌}
use Prim.Native.Nat.{ℕ, zero, suc, ◌+◌, ◌-◌, ◌<◌}
use native.Mathlib.Omega.{arith}
use lib.ListN.{take}
use lib.IntN.{ℤ, pos, ◌+ℤ◌, ◌-ℤ◌, nat_abs, +ℤ_assoc, +ℤ_idr}
use lib.Signed.{◌≤ℤ◌, clash_ℤ}
use Rattle.lists.proofs.Tests.{case}
use Rattle.lists.proofs.Integers.{not_belowℤ, le_more, more_le, more-back, more-more}
use Rattle.automaton.proofs.Sentences.{Steps}
use Rattle.promises.specs.Text.{bal, Part, states_of}
use Rattle.promises.specs.Meaning.{step_of, sum_of, InBand, Balanced, Says, Admits, Ends, MayStop}
use Rattle.promises.specs.Reading.{outsideℤ}
use Rattle.promises.specs.Rig.{bal_next, next_of, marked_of}
use Rattle.promises.specs.Sentences.{Agrees}
use Rattle.promises.proofs.KindTests.{tells_outsideℤ}
use Rattle.promises.proofs.Agreeing.{agrees}

module _ (lo hi : ℤ) (band : lo ≤ℤ hi) where
  -- the states are the differences of the band
  pub band_state : (x : ℤ) → InBand lo hi x → lo +ℤ pos (nat_abs (x -ℤ lo)) ≡ x
  band_state x (l, h) = more_le lo x l

  pub state_band : (s : ℕ) → (s < nat_abs (hi -ℤ lo) + 1) ↔ InBand lo hi (lo +ℤ pos s)
  state_band s = (λ h. (le_more lo s, below h), λ (l, h). above h)
    where
      width : ℕ
      width = nat_abs (hi -ℤ lo)

      below : s < width + 1 → (lo +ℤ pos s) ≤ℤ hi
      below h =
          let top : lo +ℤ pos s +ℤ pos (width - s) ≡ hi = more-more lo s (width - s) ∙ ap (λ n. lo +ℤ pos n) (omega arith) ∙ more_le lo hi band in
          subst (λ c. (lo +ℤ pos s) ≤ℤ c) top (le_more (lo +ℤ pos s) (width - s))

      above : (lo +ℤ pos s) ≤ℤ hi → s < width + 1
      above h =
          let n = nat_abs (hi -ℤ (lo +ℤ pos s)) in
          let wide : width ≡ s + n = ap (λ c. nat_abs (c -ℤ lo)) (sym (more_le (lo +ℤ pos s) hi h) ∙ more-more lo s n) ∙ more-back lo (s + n) in
          omega arith

  -- the test of the band
  pub inside : (x : ℤ) → outsideℤ lo hi x ≡ false → InBand lo hi x
  inside x q = let out = (tells_outsideℤ lo hi x).no q in (not_belowℤ x lo (λ h. out (inl h)), not_belowℤ hi x (λ h. out (inr h)))

  leaves : (x : ℤ) → outsideℤ lo hi x ≡ true → InBand lo hi x → ⊥
  leaves x q (l, h) = ⊎_elim (λ k. clash_ℤ k l) (λ k. clash_ℤ k h) ((tells_outsideℤ lo hi x).yes q)

  -- one step: it is admitted if it stays in the band, and then the state is the new difference
  pub moves : (d : ℤ) (s : ℕ) → (bal_next lo hi d s < nat_abs (hi -ℤ lo) + 1) ↔ InBand lo hi (lo +ℤ pos s +ℤ d)
  unfolding bal_next
  moves d s =
      let y = lo +ℤ pos s +ℤ d in
      case (outsideℤ lo hi y)
      (λ t. rw t (λ h. absurd (omega arith), λ i. absurd (leaves y t i)))
      (λ t. let i = inside y t in rw t (λ h. i, λ i. (state_band (nat_abs (y -ℤ lo))).1 (rw (band_state y i) i)))

  pub moved_to : (d : ℤ) (s : ℕ) → InBand lo hi (lo +ℤ pos s +ℤ d) → lo +ℤ pos (bal_next lo hi d s) ≡ lo +ℤ pos s +ℤ d
  unfolding bal_next
  moved_to d s i =
      let y = lo +ℤ pos s +ℤ d in
      case (outsideℤ lo hi y) (λ t. absurd (leaves y t i)) (λ t. rw t (band_state y i))

  module _ (step : ℕ → ℤ) where
    balanced_now : (x : ℤ) (w : List ℕ) → Balanced lo hi step x w → InBand lo hi x
    unfolding Balanced sum_of
    balanced_now x w b = rw +ℤ_idr at (b 0 (omega arith))

    -- one event in front: the difference itself, and the sums begun one step on
    balanced_step : (x : ℤ) (u : ℕ) (w : List ℕ) → Balanced lo hi step x (u ∷ w) ↔ (InBand lo hi x × Balanced lo hi step (x +ℤ step u) w)
    unfolding Balanced sum_of
    balanced_step x u w = (
      λ b. (rw +ℤ_idr at (b 0 (omega arith)), λ k l. rw (← +ℤ_assoc x (step u) (sum_of step (take k w))) at (b (suc k) (omega arith))),
      λ (i, b). from i b,
    )
      where
        from : InBand lo hi x → Balanced lo hi step (x +ℤ step u) w → Balanced lo hi step x (u ∷ w)
        from i b zero l = rw +ℤ_idr i
        from i b (suc k) l = rw (← +ℤ_assoc x (step u) (sum_of step (take k w))) (b k (omega arith))

    balanced_nil : (x : ℤ) → InBand lo hi x → Balanced lo hi step x []
    unfolding Balanced sum_of
    balanced_nil x i zero l = rw +ℤ_idr i
    balanced_nil x i (suc k) l = absurd (omega arith)

    steps : (s u : ℕ) (w : List ℕ) → s < nat_abs (hi -ℤ lo) + 1
        → Balanced lo hi step (lo +ℤ pos s) (u ∷ w) ↔ ((bal_next lo hi (step u) s < nat_abs (hi -ℤ lo) + 1) × Balanced lo hi step (lo +ℤ pos (bal_next lo hi (step u) s)) w)
    steps s u w h =
        let (to, from) = balanced_step (lo +ℤ pos s) u w in
        let (within, back) = moves (step u) s in (
          λ b. let c = (to b).1 in let i = balanced_now (lo +ℤ pos s +ℤ step u) w c in (back i, rw (moved_to (step u) s i) c),
          λ (l, b). let i = within l in from ((state_band s).0 h, rw (moved_to (step u) s i) at b),
        )

pub bal_agrees : (es : List ℕ) (lo hi : ℤ) (ps : List Part) → lo ≤ℤ hi → Agrees es (record { kind = bal lo hi; parts = ps })
unfolding Steps next_of marked_of states_of Admits Says MayStop Ends
bal_agrees es lo hi ps band =
    agrees es (record { kind = bal lo hi; parts = ps })
    (steps lo hi band (step_of ps))
    (λ s h. balanced_nil lo hi band (step_of ps) (lo +ℤ pos s) ((state_band lo hi band s).0 h))
    (λ s w a. (λ q. tt, λ p. refl))
