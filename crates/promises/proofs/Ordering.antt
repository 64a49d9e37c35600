-- What an `ord` line is, and that it changes the order and nothing else.
-- Why: its cases are those of the line, the first line being sound; the monitors are the same with it and without. Assumes nothing.
use mathlib.Core.Path.{◌≡◌, refl}
use mathlib.Core.Logic.{◌⊎◌, inl, inr, ◌↔◌, ◌≢◌}
use mathlib.Core.List.{List, [], ◌∷◌, ◌++◌, Memᴰ as In}
use Prim.Native.Nat.{ℕ, suc, ◌≤◌, ◌<◌}
use native.Mathlib.Omega.{arith}
use lib.ListN.{length}
use Rattle.promises.specs.Text.{Line, rig, ord, extended, monitors_from, monitors, events_of, decoded, Twice, cases, Case1, Case2, Case5, Case3, Case16, Case17, Case18, Case4, Case6, AllSound, LineFault, Fault}
use Rattle.promises.specs.Meaning.{BelowE, AllAdmit, AllMayStop, Belongs}
use Rattle.promises.specs.Ordering.{Second, Ordering}
use Rattle.promises.proofs.Reading.{bad_line}
use Rattle.promises.proofs.Meaning.{belong_alike, order_permutes}
use Rattle.promises.proofs.Order.{ord_second, order_listed}
use Rattle.promises.proofs.Answers.{same_count}

-- ---- refusals

module _ (t : List ℕ) (E : ℕ) (es : List ℕ) (z : Second t E es) where
  first_sound : AllSound [] (rig E ∷ [])
  unfolding AllSound Case2 Case5 Case3 Case16 Case17 Case18 Case4 Case6 cases
  first_sound = (record { formed = λ h. h; placed = λ h. h refl; ranged = outside; named_once = λ h. h; unequal = λ h. h; nonempty = λ h. h; new = λ h. h; fits = λ h. h }, tt)
    where
      outside : (E < 1) ⊎ (16 < E) → ⊥
      outside (inl h) = omega (arith, z.some_event)
      outside (inr h) = omega (arith, z.few_events)

  second_bad : (n : ℕ) → LineFault (rig E ∷ []) (ord es) n → Fault t n 2
  second_bad n f = bad_line t (rig E ∷ []) (ord es) z.back n z.short z.lines_are first_sound f

  wrong_number : length es ≢ E → Fault t 2 2
  unfolding LineFault Case2 cases events_of
  wrong_number n = second_bad 2 (inl ((refl, n), refl))

  module _ (full : length es ≡ E) where
    not_misformed : Case2 (rig E ∷ []) (ord es) → ⊥
    unfolding Case2 cases events_of
    not_misformed (q, n) = n full

    not_misplaced : Case5 (rig E ∷ []) (ord es) → ⊥
    unfolding Case5 cases
    not_misplaced n = n refl

    not_below_lem : (e : ℕ) → In e es → E ≤ e → Fault t 3 2
    unfolding LineFault Case3 cases events_of
    not_below_lem e i h = second_bad 3 (inr (not_misformed, inr (not_misplaced, inl ((e, i, h), refl))))

    named_twice : ((e : ℕ) → In e es → e < E) → Twice es → Fault t 16 2
    unfolding LineFault Case3 Case16 cases events_of
    named_twice below w = second_bad 16 (inr (not_misformed, inr (not_misplaced, inr (λ (e, i, h). past e (below e i) h, inl ((refl, w), refl)))))
      where
        past : (e : ℕ) → e < E → E ≤ e → ⊥
        past e a b = omega arith

elsewhere : (t : List ℕ) (front : List Line) (es : List ℕ) (back : List Line) → (Case1 t → ⊥) → decoded t ≡ front ++ (ord es ∷ back) → AllSound [] front → length front ≢ 1
    → Fault t 5 (suc (length front))
unfolding LineFault Case2 Case5 cases
elsewhere t front es back short q s n = bad_line t front (ord es) back 5 short q s (inr (λ (o, w). n o, inl (n, refl)))

-- ---- with it and without

module _ (t u : List ℕ) (E : ℕ) (es : List ℕ) (back : List Line) (p : decoded t ≡ rig E ∷ ord es ∷ back) (q : decoded u ≡ rig E ∷ back) where
  same_monitors : monitors (decoded t) ≡ monitors (decoded u)
  unfolding monitors monitors_from extended
  same_monitors = rw (p, q)

  same_events : events_of (decoded t) ≡ events_of (decoded u)
  unfolding events_of
  same_events = rw (p, q)

  same_admit : (w : List ℕ) → AllAdmit t w ↔ AllAdmit u w
  unfolding BelowE
  same_admit w = (
    λ a. record { events = rw same_events at a.events; each = rw same_monitors at a.each },
    λ a. record { events = rw same_events a.events; each = rw same_monitors a.each },
  )

  same_stop : (w : List ℕ) → AllMayStop t w ↔ AllMayStop u w
  unfolding AllMayStop
  same_stop w = (λ s. rw same_monitors at s, λ s. rw same_monitors s)

  same_belong : (h : ℕ) (w : List ℕ) → Belongs t h w ↔ Belongs u h w
  same_belong = belong_alike t u same_admit same_stop

pub ordering : Ordering
ordering = record {
  wrong_number = wrong_number;
  not_below_lem = not_below_lem;
  named_twice = named_twice;
  elsewhere = elsewhere;
  listed = λ t es r i. rw (order_listed t r es i) at (order_permutes t r);
  second = λ t front es back r q. ord_second t r front es back q;
  same_belong = same_belong;
  same_count = λ t u E es back p q r s h c7 cells others c8 d8. same_count t u h r s (same_belong t u E es back p q h) c7 cells others c8 d8;
}
