-- What `gap` and `reply` lines are, paper 02 no. 5: that the table of each kind of monitor admits just the sequences of its sentence, for all its numbers together
-- and from every state, and how the lines are refused.
--   Agrees es m        == in any state, the automaton of m over the events es admits what m's sentence says of sequences of these events, and may stop where it says
--   RepliedAt .. w     == the sentence of `reply` by places: every a at i has its b at j, or it may still come
--   OfMon p            == p is a `go` or `stop` line
--   Sentences          == the agreements, the sentences in the start state and in others, the marks and the refusals
-- That the calls list what these sentences admit is demand 3. Assumes nothing.
use Rattle.std.specs.Prelude.{◌≡◌, ◌⊎◌, ◌≢◌, ◌↔◌, true, ℕ, suc, ◌+◌, ◌*◌, ◌≤◌, ◌<◌, length}
use mathlib.Core.List.{List, [], ◌∷◌, ◌++◌, Memᴰ as In}
use Rattle.std.proofs.Math.Option.{some}
use Rattle.automaton.specs.Automaton as automaton
use Rattle.automaton.specs.Automaton.{Over, walk}
use Rattle.promises.specs.Text.{Kind, gap, reply, Part, go, stop, amp, opens, Line, begins, continues, Monitor, monitors, latest, states_of, start_of, events_of, product, order_of, decoded, OutOfRange, Equal, IsMon, Case1, AllSound, Readable, Fault}
use Rattle.promises.specs.Meaning.{Stands, Apart, Admits, MayStop, BelowE}
use Rattle.promises.specs.Rig.{monitor_of}

pub record Agrees (es : List ℕ) (m : Monitor) : Type 0 where
  pub admits : (s : ℕ) (w : List ℕ) → s < states_of m.kind → automaton.Admits (monitor_of es m) s w ↔ (Over es w × Admits m s w)
  pub stops : (s : ℕ) (w : List ℕ) → automaton.Admits (monitor_of es m) s w → ((monitor_of es m).stop (walk (monitor_of es m) s w) ≡ true) ↔ MayStop m s w

-- 'after a, some b comes lo to hi steps later .. Until the first such b a further a isn't admitted .. A reply still due at the horizon is no fault.'
unfoldable pub RepliedAt : ℕ → ℕ → ℕ → ℕ → List ℕ → Type 0
RepliedAt a b lo hi w =
    (i : ℕ) → Stands a w i
    → ((j : ℕ) × (i + lo ≤ j) × (j ≤ i + hi) × Stands b w j × ((k : ℕ) → i < k → k < j → ¬ Stands a w k))
    ⊎ ((length w ≤ i + hi) × ((k : ℕ) → i < k → ¬ Stands a w k))

-- a line that begins a monitor after the sound lines `front`
pub record Begins (t : List ℕ) (front : List Line) (k : Kind) : Type 0 where
  pub short : Case1 t → ⊥
  pub back : List Line
  pub lines_are : decoded t ≡ front ++ (begins k ∷ back)
  pub sound : AllSound [] front
  pub not_first : front ≢ []

-- a line of the latest monitor after the sound lines `front`
pub record Continues (t : List ℕ) (front : List Line) (p : Part) : Type 0 where
  pub short : Case1 t → ⊥
  pub back : List Line
  pub lines_are : decoded t ≡ front ++ (continues p ∷ back)
  pub sound : AllSound [] front

unfoldable pub OfMon : Part → Type 0
OfMon (go s e t) = Unit {0}
OfMon (stop s) = Unit {0}
OfMon (amp e d) = ⊥
OfMon (opens e a b) = ⊥

pub record Sentences : Type 0 where
  -- 'That the table admits exactly the sequences of the sentence is shown for all n, lo and hi together.'
  pub gaps : (es : List ℕ) (e n : ℕ) (ps : List Part) → Agrees es (record { kind = gap e n; parts = ps })
  pub replies : (es : List ℕ) (a b lo hi : ℕ) (ps : List Part) → 1 ≤ lo → lo ≤ hi → a ≢ b → Agrees es (record { kind = reply a b lo hi; parts = ps })
  -- so of every monitor of a readable text, whatever its kind: 'A user reading the sentence gets what the third demand says of monitors.'
  pub each : (t : List ℕ) → Readable t → (m : Monitor) → In m (monitors (decoded t)) → Agrees (order_of (decoded t)) m
  -- in other states a monitor says what is left of its sentence: it admits v and then w just if it admits v, and w in the state that v led to
  pub continued : (t : List ℕ) → Readable t → (m : Monitor) → In m (monitors (decoded t)) → (s : ℕ) (v w : List ℕ) → s < states_of m.kind → BelowE t v → BelowE t w
      → Admits m s (v ++ w) ↔ (Admits m s v × Admits m (walk (monitor_of (order_of (decoded t)) m) s v) w)
  -- and where it admits both, it may stop after them just if it may stop after w in that state
  pub continued_stops : (t : List ℕ) → Readable t → (m : Monitor) → In m (monitors (decoded t)) → (s : ℕ) (v w : List ℕ) → s < states_of m.kind → BelowE t v → BelowE t w
      → Admits m s (v ++ w) → MayStop m s (v ++ w) ↔ MayStop m (walk (monitor_of (order_of (decoded t)) m) s v) w
  -- in the start state, 'two occurrences of e are at least n steps apart', and no more
  pub gap_plain : (e n : ℕ) (ps : List Part) (w : List ℕ) → Admits (record { kind = gap e n; parts = ps }) (start_of (gap e n)) w ↔ Apart e n w
  -- and the sentence of `reply`, by the places at which a and b stand
  pub reply_plain : (a b lo hi : ℕ) (ps : List Part) (w : List ℕ) → 1 ≤ lo → Admits (record { kind = reply a b lo hi; parts = ps }) (start_of (reply a b lo hi)) w ↔ RepliedAt a b lo hi w
  -- 'All `gap` states are marked `stop`, of `reply` only state 0.'
  pub gap_marked : (e n : ℕ) (ps : List Part) (s : ℕ) → MayStop (record { kind = gap e n; parts = ps }) s []
  pub reply_marked : (a b lo hi : ℕ) (ps : List Part) (s : ℕ) → MayStop (record { kind = reply a b lo hi; parts = ps }) s [] ↔ (s ≡ 0)
  -- it 'counts as a `mon` in 3, 5 and 6': a line of any kind is 5 as the first line, 3 out of range or as the fifth monitor
  pub not_first : (t : List ℕ) (k : Kind) (back : List Line) → (Case1 t → ⊥) → decoded t ≡ begins k ∷ back → Fault t 5 1
  pub out_of_range : (t : List ℕ) (front : List Line) (k : Kind) → Begins t front k → OutOfRange (events_of front) k → Fault t 3 (suc (length front))
  pub fifth : (t : List ℕ) (front : List Line) (k : Kind) → Begins t front k → 4 ≤ length (monitors front) → Fault t 3 (suc (length front))
  -- '17, a equals b, place the line, after 3': also where P is over 1,024
  pub equal : (t : List ℕ) (front : List Line) (k : Kind) → Begins t front k → (OutOfRange (events_of front) k → ⊥) → length (monitors front) < 4 → Equal k
      → Fault t 17 (suc (length front))
  -- and 6 where it is
  pub too_many : (t : List ℕ) (front : List Line) (k : Kind) → Begins t front k → (OutOfRange (events_of front) k → ⊥) → length (monitors front) < 4 → (Equal k → ⊥)
      → 1024 < product (monitors front) * states_of k → Fault t 6 (suc (length front))
  -- 'A `go` or `stop` is 5 if the latest monitor isn't a `mon`', or there is none, whatever its numbers
  pub not_mon : (t : List ℕ) (front : List Line) (p : Part) → OfMon p → Continues t front p → ((m : Monitor) → latest (monitors front) ≡ some m → IsMon m.kind → ⊥)
      → Fault t 5 (suc (length front))
