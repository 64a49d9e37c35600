-- What `day` and `open` lines are.
-- Why: a state is a step of the day, and each event leads one step on; hours are said line by line, so lines add up; a line's cases are those of its form.
-- Assumes nothing.
use mathlib.Core.Path.{◌≡◌, refl, sym, ap, ◌∙◌, subst}
use mathlib.Core.Logic.{◌⊎◌, inl, inr, ◌↔◌, ⊎_elim}
use mathlib.Core.List.Memᴰ
use mathlib.Core.List.Memᴰ.{append_cases as in-append}
use mathlib.Core.List.Memᴰ.{append_left as in_left}
use mathlib.Core.List.Memᴰ.{append_right as in_right}
use mathlib.Core.List.{List, [], ◌∷◌, ◌++◌, Memᴰ as In}
use Prim.Native.Nat.{ℕ, suc, ◌+◌, ◌%◌, ◌≤◌, ◌<◌}
use native.Mathlib.Nat.{add-zero, add-suc, suc-add, zero-add, mod-eq_of_lt, mod-add-mod}
use native.Mathlib.Omega.{arith}
use lib.ListN.{length}
use Rattle.lists.proofs.Tests.{case}
use Rattle.automaton.specs.Automaton as automaton
use Rattle.automaton.specs.Automaton.{walk}
use Rattle.automaton.proofs.Joint.{admits-state}
use Rattle.automaton.proofs.Sentences.{bounded_admits, bounded_walk}
use Rattle.promises.specs.Text.{day, Part, opens, Line, continues, Monitor, states_of, start_of, events_of, IsDay, continuing, cases}
use Rattle.promises.specs.Meaning.{Stands, HasHours, InHours, OnTime, Says, Admits, Ends, MayStop}
use Rattle.promises.specs.Rig.{day_next, admitted_at, next_of, monitor_of}
use Rattle.promises.specs.Hours.{day_of, Hours}
use Rattle.promises.proofs.Agreeing.{unbounded}
use Rattle.promises.proofs.Day.{day_agrees}
use Rattle.promises.proofs.Continuing.{wrong_kind, out_of_range, clashes, sound_line}

-- ---- the steps of the day

module _ (es : List ℕ) (T : ℕ) (ps : List Part) where
  walked : (s : ℕ) (w : List ℕ) → automaton.Admits (unbounded es (day_of T ps)) s w → walk (unbounded es (day_of T ps)) s w ≡ (s + length w) % T
  unfolding automaton.Admits walk next_of states_of day_next
  walked s [] h = rw add-zero (sym (mod-eq_of_lt h))
  walked s (e ∷ w) (h, i, a) =
      case (admitted_at ps e s)
      (λ q. rw q (walked (suc s % T) w (rw q at a) ∙ mod-add-mod (suc s) T (length w) ∙ ap (λ k. k % T) (suc-add s (length w) ∙ sym (add-suc s (length w)))))
      (λ q. let l : T < T = admits-state (unbounded es (day_of T ps)) T w (rw q at a) in absurd (omega arith))

  follows : (s : ℕ) (w : List ℕ) → automaton.Admits (monitor_of es (day_of T ps)) s w → walk (monitor_of es (day_of T ps)) s w ≡ (s + length w) % T
  unfolding monitor_of
  follows s w a = let b = (bounded_admits (unbounded es (day_of T ps)) s w).0 a in bounded_walk (unbounded es (day_of T ps)) s w b ∙ walked s w b

-- ---- the sentence

plain : (T : ℕ) (ps : List Part) (w : List ℕ)
    → Admits (day_of T ps) (start_of (day T)) w ↔ ((i e c d : ℕ) → Stands e w i → In (opens e c d) ps → (a : ℕ) × (b : ℕ) × In (opens e a b) ps × (a ≤ i % T) × (i % T < b))
unfolding Admits Says OnTime HasHours InHours start_of
plain T ps w = (λ o i e c d t n. rw zero-add at (o i e t (c, d, n)), λ o i e t (c, d, n). rw zero-add (o i e c d t n))

always : (T : ℕ) (ps : List Part) (s : ℕ) (w : List ℕ) → ((i e : ℕ) → Stands e w i → HasHours ps e → ⊥) → Admits (day_of T ps) s w
unfolding Admits Says OnTime
always T ps s w none i e t n = absurd (none i e t n)

add_up : (ps qs : List Part) (e s : ℕ) → InHours (ps ++ qs) e s ↔ (InHours ps e s ⊎ InHours qs e s)
unfolding InHours
add_up ps qs e s = (λ (a, b, i, l, r). ⊎_elim (λ j. inl (a, b, j, l, r)) (λ j. inr (a, b, j, l, r)) (in-append ps i), from)
  where
    from : InHours ps e s ⊎ InHours qs e s → InHours (ps ++ qs) e s
    from (inl (a, b, i, l, r)) = (a, b, in_left qs i, l, r)
    from (inr (a, b, i, l, r)) = (a, b, in_right ps i, l, r)

-- a line that is there already
module _ (ps : List Part) (e a b : ℕ) (i : In (opens e a b) ps) where
  there : (p : Part) → In p (ps ++ (opens e a b ∷ [])) → In p ps
  there p j = ⊎_elim (λ k. k) (λ k. subst (λ p. In p ps) (sym (Memᴰ.eq_of_singleton k)) i) (in-append ps j)

  again : (T s : ℕ) (w : List ℕ) → Admits (day_of T (ps ++ (opens e a b ∷ []))) s w ↔ Admits (day_of T ps) s w
  unfolding Admits Says OnTime HasHours InHours
  again T s w = (
    λ o j u t (c, d, k). let (x, y, l, r, v) = o j u t (c, d, in_left (opens e a b ∷ []) k) in (x, y, there (opens u x y) l, r, v),
    λ o j u t (c, d, k). let (x, y, l, r, v) = o j u t (c, d, there (opens u c d) k) in (x, y, in_left (opens e a b ∷ []) l, r, v),
  )

-- ---- refusals

-- 'b at most T' of an event; 18
abbrev out : List Line → ℕ → ℕ → Monitor → Type 0
out front e b m = (events_of front ≤ e) ⊎ (states_of m.kind < b)

are : (front : List Line) (e a b : ℕ) → cases front (continues (opens e a b)) ≡ continuing front IsDay (out front e b) (λ n. (n ≡ 18) × (b ≤ a)) (λ m. ⊥)
unfolding cases
are front e a b = refl

in_range : (front : List Line) (e b : ℕ) (m : Monitor) → e < events_of front → b ≤ states_of m.kind → out front e b m → ⊥
in_range front e b m event le (inl h) = omega arith
in_range front e b m event le (inr h) = omega arith

pub hours : Hours
unfolding MayStop Ends
hours = record {
  hours = day_agrees;
  plain = plain;
  follows = follows;
  always = always;
  add_up = add_up;
  again = λ T ps e a b s w i. again ps e a b i T s w;
  marked = λ T ps s w. tt;
  not_day = λ t front e a b z. wrong_kind front (opens e a b) _ _ _ _ (are front e a b) t z;
  out_of_range = λ t front e a b z. out_of_range front (opens e a b) _ _ _ _ (are front e a b) t z;
  not_below_lem = λ t front e a b z m last is event le not_below_lem. clashes front (opens e a b) _ _ _ _ (are front e a b) t z m last is
      (in_range front e b m event le) (λ (q, h). omega arith) (λ (q, h). omega arith) (refl, not_below_lem);
  sound = λ front e a b m last is event below le. sound_line front (opens e a b) _ _ _ _ (are front e a b) m last is
      (in_range front e b m event le) (λ n (q, h). omega arith) (λ h. h);
}
