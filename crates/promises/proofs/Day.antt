-- A `day` monitor admits just the sequences in which each event with `open` lines stands inside its hours.
-- Why: the state is the step of the day, so the sentence of u ∷ w in step s is that of u in s, and that of w in the step after it; the remainder of a sum is that
-- of the remainder and the rest. Assumes nothing.
use mathlib.Core.Path.{◌≡◌, refl, sym, ap, ◌∙◌}
use mathlib.Core.Logic.{◌↔◌}
use mathlib.Core.Bool.{true, ◌&&◌}
use mathlib.Core.List.{List, ◌∷◌}
use Prim.Native.Nat.{ℕ, zero, suc, ◌+◌, ◌%◌, ◌<◌}
use native.Mathlib.Nat.{add-zero, add-suc, suc-add, mod-lt, mod-eq_of_lt, mod-add-mod}
use native.Mathlib.Omega.{arith}
use lib.Dec.{leb, ltb}
use Rattle.lists.proofs.Tests.{case, contra}
use Rattle.lists.proofs.Tells.{Tells, tells_true, tells_le, tells_lt, tells_and}
use Rattle.automaton.proofs.Sentences.{Steps}
use Rattle.promises.specs.Text.{day, Part, states_of}
use Rattle.promises.specs.Meaning.{Stands, HasHours, InHours, OnTime, Says, Admits, Ends, MayStop}
use Rattle.promises.specs.Reading.{has_hours, in_hours}
use Rattle.promises.specs.Rig.{day_next, admitted_at, next_of, marked_of}
use Rattle.promises.specs.Sentences.{Agrees}
use Rattle.promises.proofs.Reading.{tells_opens}
use Rattle.promises.proofs.Agreeing.{agrees}

module _ (ps : List Part) where
  pub tells_has : (e : ℕ) → Tells (has_hours ps e) (HasHours ps e)
  unfolding HasHours
  tells_has e =
      let t = tells_opens (λ a b. true) ps e in
      record { yes = λ q. let (a, b, i, h) = t.yes q in (a, b, i); no = λ q (a, b, i). t.no q (a, b, i, refl) }

  pub tells_in : (e s : ℕ) → Tells (in_hours ps e s) (InHours ps e s)
  unfolding InHours
  tells_in e s =
      let t = tells_opens (λ a b. leb a s && ltb s b) ps e in
      record {
        yes = λ q. let (a, b, i, h) = t.yes q in let (l, r) = (tells_and (tells_le a s) (tells_lt s b)).yes h in (a, b, i, l, r);
        no = λ q (a, b, i, l, r). t.no q (a, b, i, tells_true (tells_and (tells_le a s) (tells_lt s b)) (l, r));
      }

  admitted_iff : (s e : ℕ) → (admitted_at ps e s ≡ true) ↔ (HasHours ps e → InHours ps e s)
  admitted_iff s e =
      case (has_hours ps e)
      (λ q. rw q (λ p h. (tells_in e s).yes p, λ f. tells_true (tells_in e s) (f ((tells_has e).yes q))))
      (λ q. rw q (λ p h. absurd ((tells_has e).no q h), λ f. refl))

  module _ (T : ℕ) where
    -- the event in front stands in step s, and the others begin one step on
    on_time_step : (s u : ℕ) (w : List ℕ) → s < T → OnTime T ps s (u ∷ w) ↔ ((HasHours ps u → InHours ps u s) × OnTime T ps (suc s % T) w)
    unfolding OnTime Stands
    on_time_step s u w h = (λ o. (λ n. rw now at (o 0 u refl n), λ i v t n. rw (later i) (o (suc i) v t n)), λ (f, o). from f o)
      where
        now : (s + 0) % T ≡ s
        now = rw add-zero (mod-eq_of_lt h)

        later : (i : ℕ) → (suc s % T + i) % T ≡ (s + suc i) % T
        later i = mod-add-mod (suc s) T i ∙ ap (λ k. k % T) (suc-add s i ∙ sym (add-suc s i))

        from : (HasHours ps u → InHours ps u s) → OnTime T ps (suc s % T) w → OnTime T ps s (u ∷ w)
        from f o zero v q n = rw (now, ← q) (f (rw (← q) at n))
        from f o (suc i) v t n = rw (later i) at (o i v t n)

    steps : (s u : ℕ) (w : List ℕ) → s < T → OnTime T ps s (u ∷ w) ↔ ((day_next T (admitted_at ps u s) s < T) × OnTime T ps (day_next T (admitted_at ps u s) s) w)
    unfolding day_next
    steps s u w h =
        let (to, from) = on_time_step s u w h in
        let (ok, free) = admitted_iff s u in
        case (admitted_at ps u s)
        (λ t. rw t (λ o. (mod-lt (suc s) (omega arith), (to o).1), λ (l, o). from (ok t, o)))
        (λ t. rw t (λ o. contra (free (to o).0) t, λ (l, o). absurd (omega arith)))

pub day_agrees : (es : List ℕ) (T : ℕ) (ps : List Part) → Agrees es (record { kind = day T; parts = ps })
unfolding Steps next_of marked_of states_of Admits Says MayStop Ends OnTime Stands
day_agrees es T ps = agrees es (record { kind = day T; parts = ps }) (steps ps T) (λ s h i u t. absurd t) (λ s w a. (λ q. tt, λ p. refl))
