-- What `bal` and `amp` lines are, paper 02 no. 6: the running difference of two meters, which stays in a band.
--   InBands t w        == every partial sum of the steps of each `bal` of the text t stays in its band
--   Differences        == the states and the steps, the sentence, what belongs in a rig whose monitors are all `bal`, and how `amp` lines are refused
-- Lines that begin a monitor, a `bal` among them, are refused as Sentences says; how signed numbers are written is said by Spelling. Assumes nothing.
use Rattle.std.specs.Prelude.{◌≡◌, ◌⊎◌, ◌↔◌, ℕ, suc, ◌≤◌, ◌<◌, ℤ, pos, neg_ℤ, ◌+ℤ◌, ◌-ℤ◌, ◌≤ℤ◌, length}
use mathlib.Core.List.{List, Memᴰ as In}
use Rattle.std.proofs.Math.Option.{some}
use Rattle.automaton.specs.Automaton as automaton
use Rattle.automaton.specs.Automaton.{walk}
use Rattle.promises.specs.Text.{bal, Part, amp, Line, Monitor, monitors, latest, states_of, start_of, events_of, decoded, Outsideℤ, IsBal, Readable, Fault}
use Rattle.promises.specs.Meaning.{step_of, sum_of, Balanced, Admits, MayStop, BelowE, Belongs}
use Rattle.promises.specs.Rig.{monitor_of}
use Rattle.promises.specs.Sentences.{Agrees, Continues}

unfoldable pub InBands : List ℕ → List ℕ → Type 0
InBands t w = (m : Monitor) (lo hi : ℤ) → In m (monitors (decoded t)) → m.kind ≡ bal lo hi → Balanced lo hi (step_of m.parts) (pos 0) w

pub record Differences : Type 0 where
  -- 'It has hi−lo+1 states'
  pub states : (lo hi : ℤ) → lo ≤ℤ hi → pos (states_of (bal lo hi)) ≡ hi -ℤ lo +ℤ pos 1
  -- 'beginning at 0'
  pub starts : (lo hi : ℤ) → lo ≤ℤ pos 0 → lo +ℤ pos (start_of (bal lo hi)) ≡ pos 0
  -- 'state j is the difference lo+j', and stays so: what is admitted leads from a difference to that and all its steps
  pub follows : (es : List ℕ) (lo hi : ℤ) (ps : List Part) → lo ≤ℤ hi → (s : ℕ) (w : List ℕ) → automaton.Admits (monitor_of es (record { kind = bal lo hi; parts = ps })) s w
      → lo +ℤ pos (walk (monitor_of es (record { kind = bal lo hi; parts = ps })) s w) ≡ lo +ℤ pos s +ℤ sum_of (step_of ps) w
  -- 'Each following `amp`, e, d line gives event e a signed step d'
  pub step_given : (t : List ℕ) → Readable t → (m : Monitor) → In m (monitors (decoded t)) → (e : ℕ) (d : ℤ) → In (amp e d) m.parts → step_of m.parts e ≡ d
  -- 'an event without one has step 0'
  pub step_none : (ps : List Part) (e : ℕ) → ((d : ℤ) → In (amp e d) ps → ⊥) → step_of ps e ≡ pos 0
  -- 'An event is admitted if the running difference stays from lo to hi', for all lo, hi and steps together and from every state
  pub differences : (es : List ℕ) (lo hi : ℤ) (ps : List Part) → lo ≤ℤ hi → Agrees es (record { kind = bal lo hi; parts = ps })
  -- in the start state every sum begins at 0
  pub plain : (lo hi : ℤ) (ps : List Part) (w : List ℕ) → lo ≤ℤ pos 0 → Admits (record { kind = bal lo hi; parts = ps }) (start_of (bal lo hi)) w ↔ Balanced lo hi (step_of ps) (pos 0) w
  -- 'all marked `stop`'
  pub marked : (lo hi : ℤ) (ps : List Part) (s : ℕ) (w : List ℕ) → MayStop (record { kind = bal lo hi; parts = ps }) s w
  -- 'In a rig whose monitors are all `bal`, a sequence belongs exactly when every partial sum of each one's steps stays in its band.'
  pub all_bal : (t : List ℕ) (h : ℕ) (w : List ℕ) → Readable t → ((m : Monitor) → In m (monitors (decoded t)) → IsBal m.kind)
      → Belongs t h w ↔ ((length w ≡ h) × BelowE t w × InBands t w)
  -- 'an `amp` is 5 if the latest monitor isn't a `bal`', or there is none, whatever its numbers
  pub not_bal : (t : List ℕ) (front : List Line) (e : ℕ) (d : ℤ) → Continues t front (amp e d) → ((m : Monitor) → latest (monitors front) ≡ some m → IsBal m.kind → ⊥)
      → Fault t 5 (suc (length front))
  -- 'a signed step d, −15 to 15' of an event, else 3
  pub out_of_range : (t : List ℕ) (front : List Line) (e : ℕ) (d : ℤ) → Continues t front (amp e d) → (m : Monitor) → latest (monitors front) ≡ some m → IsBal m.kind
      → (events_of front ≤ e) ⊎ Outsideℤ (neg_ℤ (pos 15)) (pos 15) d → Fault t 3 (suc (length front))
  -- 'An event given twice is 4', whatever the steps
  pub given_twice : (t : List ℕ) (front : List Line) (e : ℕ) (c d : ℤ) → Continues t front (amp e d) → (m : Monitor) → latest (monitors front) ≡ some m → IsBal m.kind
      → e < events_of front → neg_ℤ (pos 15) ≤ℤ d → d ≤ℤ pos 15 → In (amp e c) m.parts → Fault t 4 (suc (length front))
