-- A `gap` monitor admits just the sequences in which two e stand at least n places apart, and none in the steps that its state bars.
-- Why: an e bars the n − 1 steps after it, and every step takes one off what is barred. Assumes nothing.
use mathlib.Core.Path.{◌≡◌, refl}
use mathlib.Core.Logic.{◌≢◌, ◌↔◌, ⊎_elim}
use mathlib.Core.List.{List, ◌∷◌}
use Prim.Native.Nat.{ℕ, zero, suc, ◌+◌, ◌-◌, ◌≤◌, ◌<◌}
use native.Mathlib.Omega.{arith}
use lib.Dec.{eqb}
use borrow.Author.Tests.{eqb-true, eqb-false, ne_eqb}
use Rattle.lists.proofs.Tests.{case, split}
use Rattle.automaton.proofs.Sentences.{Steps}
use Rattle.promises.specs.Text.{gap, Part, states_of}
use Rattle.promises.specs.Meaning.{Stands, Apart, Barred, Says, Admits, Ends, MayStop}
use Rattle.promises.specs.Rig.{gap_next, next_of, marked_of}
use Rattle.promises.specs.Sentences.{Agrees}
use Rattle.promises.proofs.Agreeing.{agrees}

module _ (e n : ℕ) where
  pub free : (w : List ℕ) → Barred e 0 w
  unfolding Barred
  free w i h = absurd (omega arith)

  barred_step : (s u : ℕ) (w : List ℕ) → Barred e (suc s) (u ∷ w) ↔ (u ≢ e × Barred e s w)
  unfolding Barred Stands
  barred_step s u w = (λ b. (b 0 (omega arith), λ i h. b (suc i) (omega arith)), λ b. both b)
    where
      both : u ≢ e × Barred e s w → Barred e (suc s) (u ∷ w)
      both b zero h = b.0
      both b (suc i) h = b.1 i (omega arith)

  -- with u in front: if u is e, it bars n − 1 steps
  apart_step : (u : ℕ) (w : List ℕ) → Apart e n (u ∷ w) ↔ ((u ≡ e → Barred e (n - 1) w) × Apart e n w)
  unfolding Apart Barred Stands
  apart_step u w = (λ a. (λ q i h t. far i h (a 0 (suc i) (omega arith) q t), λ i j h p q. near i j (a (suc i) (suc j) (omega arith) p q)), λ p. both p)
    where
      far : (i : ℕ) → i < n - 1 → 0 + n ≤ suc i → ⊥
      far i h k = omega arith

      near : (i j : ℕ) → suc i + n ≤ suc j → i + n ≤ j
      near i j h = omega arith

      both : (u ≡ e → Barred e (n - 1) w) × Apart e n w → Apart e n (u ∷ w)
      both (b, a) i zero h p q = absurd (omega arith)
      both (b, a) zero (suc j) h p q = ⊎_elim (λ l. omega arith) (λ l. absurd (b p j (omega arith) q)) (split n (suc j))
      both (b, a) (suc i) (suc j) h p q = omega (arith, a i j (omega arith) p q)

  step : (s u : ℕ) (w : List ℕ) → s < n → (Barred e s (u ∷ w) × Apart e n (u ∷ w)) ↔ ((gap_next e n s u < n) × (Barred e (gap_next e n s u) w × Apart e n w))
  unfolding gap_next
  step zero u w h =
      case (eqb u e)
      (λ t. rw t (
        λ (b, a). let (c, d) = (apart_step u w).0 a in (omega arith, (c (eqb-true u e t), d)),
        λ (k, (b, a)). (free _, (apart_step u w).1 (λ q. b, a)),
      ))
      (λ t. rw t (
        λ (b, a). (omega arith, (free w, ((apart_step u w).0 a).1)),
        λ (k, (b, a)). (free _, (apart_step u w).1 (λ q. absurd (eqb-false u e t q), a)),
      ))
  step (suc s) u w h =
      let one_less : suc s - 1 ≡ s = omega arith in
      case (eqb u e)
      (λ t. rw (t, ne_eqb (suc s) 0 (λ q. omega arith)) (λ (b, a). absurd (((barred_step s u w).0 b).0 (eqb-true u e t)), λ (k, r). absurd (omega arith)))
      (λ t. rw (t, one_less) (
        λ (b, a). (omega arith, (((barred_step s u w).0 b).1, ((apart_step u w).0 a).1)),
        λ (k, (b, a)). ((barred_step s u w).1 (eqb-false u e t, b), (apart_step u w).1 (λ q. absurd (eqb-false u e t q), a)),
      ))

  pub gap_agrees : (es : List ℕ) (ps : List Part) → Agrees es (record { kind = gap e n; parts = ps })
  unfolding Steps next_of marked_of states_of Admits Says MayStop Ends Barred Apart Stands
  gap_agrees es ps = agrees es (record { kind = gap e n; parts = ps }) step (λ s h. (λ i l t. t, λ i j l t r. absurd t)) (λ s w a. (λ q. tt, λ p. refl))
