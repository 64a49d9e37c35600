-- What `day` and `open` lines are, paper 02 no. 7: events that happen only in part of the service day.
--   day_of T ps         == the monitor of the line `day`, T with the further lines ps
--   Hours              == the steps of the day, the sentence, how `open` lines add up, and how they are refused
-- Lines that begin a monitor, a `day` among them, are refused as Sentences says. Assumes nothing.
use Rattle.std.specs.Prelude.{◌≡◌, ◌⊎◌, ◌↔◌, ℕ, suc, ◌+◌, ◌%◌, ◌≤◌, ◌<◌, length}
use mathlib.Core.List.{List, [], ◌∷◌, ◌++◌, Memᴰ as In}
use Rattle.std.proofs.Math.Option.{some}
use Rattle.automaton.specs.Automaton as automaton
use Rattle.automaton.specs.Automaton.{walk}
use Rattle.promises.specs.Text.{day, Part, opens, Line, continues, Monitor, monitors, latest, states_of, start_of, events_of, IsDay, Sound, Fault}
use Rattle.promises.specs.Meaning.{Stands, HasHours, InHours, Admits, MayStop}
use Rattle.promises.specs.Rig.{monitor_of}
use Rattle.promises.specs.Sentences.{Agrees, Continues}

abbrev pub day_of : ℕ → List Part → Monitor
day_of T ps = record { kind = day T; parts = ps }

pub record Hours : Type 0 where
  -- 'For any day length, a `day` admits a sequence exactly when each event with `open` lines stands inside its hours', for all lines together and from every state
  pub hours : (es : List ℕ) (T : ℕ) (ps : List Part) → Agrees es (day_of T ps)
  -- 'by its place from 0 modulo T': so it is in the start state
  pub plain : (T : ℕ) (ps : List Part) (w : List ℕ)
      → Admits (day_of T ps) (start_of (day T)) w ↔ ((i e c d : ℕ) → Stands e w i → In (opens e c d) ps → (a : ℕ) × (b : ℕ) × In (opens e a b) ps × (a ≤ i % T) × (i % T < b))
  -- the 'states are the steps of the day', and 'the day repeats': what is admitted leads as many steps on
  pub follows : (es : List ℕ) (T : ℕ) (ps : List Part) (s : ℕ) (w : List ℕ) → automaton.Admits (monitor_of es (day_of T ps)) s w
      → walk (monitor_of es (day_of T ps)) s w ≡ (s + length w) % T
  -- 'an event with none is always admitted'
  pub always : (T : ℕ) (ps : List Part) (s : ℕ) (w : List ℕ) → ((i e : ℕ) → Stands e w i → HasHours ps e → ⊥) → Admits (day_of T ps) s w
  -- 'Several lines add up'
  pub add_up : (ps qs : List Part) (e s : ℕ) → InHours (ps ++ qs) e s ↔ (InHours ps e s ⊎ InHours qs e s)
  -- a line that is there already adds nothing
  pub again : (T : ℕ) (ps : List Part) (e a b s : ℕ) (w : List ℕ) → In (opens e a b) ps → Admits (day_of T (ps ++ (opens e a b ∷ []))) s w ↔ Admits (day_of T ps) s w
  -- 'All T states are marked `stop`'
  pub marked : (T : ℕ) (ps : List Part) (s : ℕ) (w : List ℕ) → MayStop (day_of T ps) s w
  -- 'an `open` is 5 if the latest monitor isn't a `day`', or there is none, whatever its numbers
  pub not_day : (t : List ℕ) (front : List Line) (e a b : ℕ) → Continues t front (opens e a b) → ((m : Monitor) → latest (monitors front) ≡ some m → IsDay m.kind → ⊥)
      → Fault t 5 (suc (length front))
  -- 'b at most T', of an event, else 3, whatever a is
  pub out_of_range : (t : List ℕ) (front : List Line) (e a b : ℕ) → Continues t front (opens e a b) → (m : Monitor) → latest (monitors front) ≡ some m → IsDay m.kind
      → (events_of front ≤ e) ⊎ (states_of m.kind < b) → Fault t 3 (suc (length front))
  -- '18, a, which has no other range, not below b, place the line, after 3'
  pub not_below_lem : (t : List ℕ) (front : List Line) (e a b : ℕ) → Continues t front (opens e a b) → (m : Monitor) → latest (monitors front) ≡ some m → IsDay m.kind
      → e < events_of front → b ≤ states_of m.kind → b ≤ a → Fault t 18 (suc (length front))
  -- any other is sound, also one that is there already
  pub sound : (front : List Line) (e a b : ℕ) (m : Monitor) → latest (monitors front) ≡ some m → IsDay m.kind → e < events_of front → a < b → b ≤ states_of m.kind
      → Sound front (continues (opens e a b))
