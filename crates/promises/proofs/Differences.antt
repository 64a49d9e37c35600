-- What `bal` and `amp` lines are.
-- Why: the states of a `bal` are the differences of its band, lo apart; in a rig of them every state is marked, so what is admitted belongs; a line's cases are
-- those of its form. Assumes nothing.
use mathlib.Core.Path.{◌≡◌, refl, sym, ap, ◌∙◌, subst}
use mathlib.Core.Logic.{◌⊎◌, inl, inr, ◌↔◌}
use mathlib.Core.List.{List, [], ◌∷◌, Memᴰ as In}
use mathlib.Core.Option.{Option, none, some, get_or}
use Prim.Native.Nat.{ℕ, ◌≤◌, ◌<◌}
use native.Mathlib.Omega.{arith}
use lib.IntN.{ℤ, pos, neg_ℤ, ◌+ℤ◌, ◌-ℤ◌, +ℤ_assoc, +ℤ_idr}
use lib.Signed.{◌≤ℤ◌, clash_ℤ, pos-nat_abs}
use lib.ListN.{length}
use Rattle.lists.specs.Lists.{first_of}
use Rattle.lists.proofs.Firsts.{first_in, in_first}
use Rattle.lists.proofs.Integers.{less_non_neg, more_zero}
use Rattle.automaton.specs.Automaton as automaton
use Rattle.automaton.specs.Automaton.{walk}
use Rattle.automaton.proofs.Joint.{admits-state}
use Rattle.automaton.proofs.Sentences.{bounded_admits, bounded_walk}
use Rattle.promises.specs.Text.{bal, Part, amp, Line, continues, Monitor, monitors, states_of, start_of, events_of, decoded, Outsideℤ, never, continuing, IsBal, cases, Readable}
use Rattle.promises.specs.Meaning.{step_in, step_of, sum_of, Balanced, Says, Admits, Ends, MayStop, BelowE, AllAdmit, AllMayStop, Belongs}
use Rattle.promises.specs.Rig.{next_of, monitor_of}
use Rattle.promises.specs.Differences.{InBands, Differences}
use Rattle.promises.proofs.Lines.{Once, Ranged, readable-formed}
use Rattle.promises.proofs.Reading.{step_is}
use Rattle.promises.proofs.Agreeing.{unbounded}
use Rattle.promises.proofs.Bal.{moves, moved_to, bal_agrees}
use Rattle.promises.proofs.Continuing.{wrong_kind, out_of_range, given_again}
use Rattle.promises.proofs.Stopping.{stopping}

-- ---- states

states : (lo hi : ℤ) → lo ≤ℤ hi → pos (states_of (bal lo hi)) ≡ hi -ℤ lo +ℤ pos 1
unfolding states_of
states lo hi band = ap (λ x. x +ℤ pos 1) (pos-nat_abs (hi -ℤ lo) (less_non_neg lo hi band))

starts : (lo hi : ℤ) → lo ≤ℤ pos 0 → lo +ℤ pos (start_of (bal lo hi)) ≡ pos 0
unfolding start_of
starts lo hi low = more_zero lo low

module _ (es : List ℕ) (lo hi : ℤ) (ps : List Part) (band : lo ≤ℤ hi) where
  abbrev monitor : Monitor
  monitor = record { kind = bal lo hi; parts = ps }

  walked : (s : ℕ) (w : List ℕ) → automaton.Admits (unbounded es monitor) s w → lo +ℤ pos (walk (unbounded es monitor) s w) ≡ lo +ℤ pos s +ℤ sum_of (step_of ps) w
  unfolding automaton.Admits walk next_of states_of sum_of
  walked s [] a = sym (+ℤ_idr _)
  walked s (e ∷ w) (h, i, a) =
      let inside = (moves lo hi band (step_of ps e) s).0 (admits-state (unbounded es monitor) _ w a) in
      walked ((unbounded es monitor).next s e) w a ∙ ap (λ x. x +ℤ sum_of (step_of ps) w) (moved_to lo hi band (step_of ps e) s inside) ∙ +ℤ_assoc (lo +ℤ pos s) (step_of ps e) (sum_of (step_of ps) w)

  follows : (s : ℕ) (w : List ℕ) → automaton.Admits (monitor_of es monitor) s w → lo +ℤ pos (walk (monitor_of es monitor) s w) ≡ lo +ℤ pos s +ℤ sum_of (step_of ps) w
  unfolding monitor_of
  follows s w a = let b = (bounded_admits (unbounded es monitor) s w).0 a in ap (λ x. lo +ℤ pos x) (bounded_walk (unbounded es monitor) s w b) ∙ walked s w b

-- ---- steps

-- what the lines find is a step that one of them gives
found : (ps : List Part) (e : ℕ) (P : ℤ → Type 0) → ((d : ℤ) → In (amp e d) ps → P d) → (((d : ℤ) → In (amp e d) ps → ⊥) → P (pos 0)) → P (step_of ps e)
unfolding step_of
found ps e P some-line no_line = step (first_of (step_in e) ps) refl
  where
    step : (o : Option ℤ) → first_of (step_in e) ps ≡ o → P (get_or (first_of (step_in e) ps) (pos 0))
    step none q = rw q (no_line (λ d i. let (c, r) = in_first (step_in e) (amp e) (step_is e) ps d i in let z : ◌≡◌ {A = ℕ} 0 1 = cc in omega arith))
    step (some d) q = rw q (some-line d (first_in (step_in e) (amp e) (step_is e) ps d q))

step_none : (ps : List Part) (e : ℕ) → ((d : ℤ) → In (amp e d) ps → ⊥) → step_of ps e ≡ pos 0
step_none ps e nowhere = found ps e (λ x. x ≡ pos 0) (λ d i. absurd (nowhere d i)) (λ n. refl)

step_given : (t : List ℕ) → Readable t → (m : Monitor) → In m (monitors (decoded t)) → (e : ℕ) (d : ℤ) → In (amp e d) m.parts → step_of m.parts e ≡ d
unfolding Once
step_given t r m i e d j = found m.parts e (λ x. x ≡ d) (λ c k. ((readable-formed t r).monitored.each m i).step_once e c d k j) (λ n. absurd (n d j))

-- ---- the sentence

plain : (lo hi : ℤ) (ps : List Part) (w : List ℕ) → lo ≤ℤ pos 0 → Admits (record { kind = bal lo hi; parts = ps }) (start_of (bal lo hi)) w ↔ Balanced lo hi (step_of ps) (pos 0) w
unfolding Admits Says start_of
plain lo hi ps w low = rw (more_zero lo low) (λ b. b, λ b. b)

module _ (t : List ℕ) (h : ℕ) (w : List ℕ) (r : Readable t) (is : (m : Monitor) → In m (monitors (decoded t)) → IsBal m.kind) where
  said : (m : Monitor) (lo hi : ℤ) → In m (monitors (decoded t)) → m.kind ≡ bal lo hi → Admits m (start_of m.kind) w ↔ Balanced lo hi (step_of m.parts) (pos 0) w
  unfolding Admits Ranged
  said m lo hi i q = let (l, low, high, h) = subst (Ranged (events_of (decoded t))) q ((readable-formed t r).monitored.each m i).ranged in rw q (plain lo hi m.parts w low)

  all_stop : AllMayStop t w
  unfolding IsBal AllMayStop MayStop Ends
  all_stop m i = let (lo, hi, q) = is m i in rw q tt

  all_bal : Belongs t h w ↔ ((length w ≡ h) × BelowE t w × InBands t w)
  unfolding IsBal InBands
  all_bal = (
    λ b. (b.long, b.admitted.events, λ m lo hi i q. (said m lo hi i q).0 (b.admitted.each m i)),
    λ (l, e, f).
        let a : AllAdmit t w = record { events = e; each = λ m i. let (lo, hi, q) = is m i in (said m lo hi i q).1 (f m lo hi i q) } in
        subst (λ h. Belongs t h w) l (stopping.to_stoppable t w a all_stop),
  )

-- ---- refusals

-- 'a signed step d, −15 to 15' of an event; what was given before
abbrev out : List Line → ℕ → ℤ → Monitor → Type 0
out front e d m = (events_of front ≤ e) ⊎ Outsideℤ (neg_ℤ (pos 15)) (pos 15) d

abbrev given : ℕ → Monitor → Type 0
given e m = (c : ℤ) × In (amp e c) m.parts

are : (front : List Line) (e : ℕ) (d : ℤ) → cases front (continues (amp e d)) ≡ continuing front IsBal (out front e d) never (given e)
unfolding cases
are front e d = refl

in_range : (front : List Line) (e : ℕ) (d : ℤ) (m : Monitor) → e < events_of front → neg_ℤ (pos 15) ≤ℤ d → d ≤ℤ pos 15 → out front e d m → ⊥
in_range front e d m event low high (inl h) = omega arith
in_range front e d m event low high (inr (inl h)) = clash_ℤ h low
in_range front e d m event low high (inr (inr h)) = clash_ℤ h high

pub differences : Differences
unfolding MayStop Ends
differences = record {
  states = states;
  starts = starts;
  follows = follows;
  step_given = step_given;
  step_none = step_none;
  differences = bal_agrees;
  plain = plain;
  marked = λ lo hi ps s w. tt;
  all_bal = all_bal;
  not_bal = λ t front e d z. wrong_kind front (amp e d) _ _ _ _ (are front e d) t z;
  out_of_range = λ t front e d z. out_of_range front (amp e d) _ _ _ _ (are front e d) t z;
  given_twice = λ t front e c d z m last is event low high i. given_again front (amp e d) _ _ _ _ (are front e d) t z m last is (in_range front e d m event low high) (λ n h. h) (c, i);
}
