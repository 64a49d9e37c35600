-- Monitors that start in any state, paper 02 no. 1: 'Scenarios from any such start are owed as they were from 0.' The demands say so of every readable
-- text; here, what a start means: the same rig with its states renumbered, so that every `mon` starts in 0, has the same scenarios.
--   renumbered f m     == the monitor m with every state s written as f s
--   Renumbered ms ns   == the monitors ns are the monitors ms, the states of each renumbered
--   Starts             == such rigs have the same count, and in one order of events an index gives the same sequence in both
-- A new Kind is one clause of renumbered_kind, a new Part one of renumbered_part; where states have no numbers to choose, it stays as it is. Assumes nothing.
use Rattle.std.specs.Prelude.{◌≡◌, ◌⊎◌, ◌↔◌, ℕ, ◌<◌}
use mathlib.Core.List.{List, [], ◌∷◌, map, Memᴰ as In}
use Rattle.promises.specs.Answer.{served}
use Rattle.promises.specs.Text.{Kind, mon, gap, reply, bal, day, Part, go, stop, amp, opens, IsBal, Monitor, monitors, decoded, start_of, events_of, order_of, Readable, Case7, Case8}
use Rattle.promises.specs.Meaning.{Belongs}
use Rattle.promises.specs.Demand3.{Gives}
use Rattle.promises.specs.Calls.{count}
use Rattle.promises.specs.Generator.{generator}
use Rattle.promises.specs.Examples.{A_from_1, A_exchanged}

unfoldable pub renumbered_kind : (ℕ → ℕ) → Kind → Kind
renumbered_kind f (mon S a) = mon S (f a)
renumbered_kind f (gap e n) = gap e n
renumbered_kind f (reply a b lo hi) = reply a b lo hi
renumbered_kind f (bal lo hi) = bal lo hi
renumbered_kind f (day T) = day T

unfoldable pub renumbered_part : (ℕ → ℕ) → Part → Part
renumbered_part f (go s e t) = go (f s) e (f t)
renumbered_part f (stop s) = stop (f s)
renumbered_part f (amp e d) = amp e d
renumbered_part f (opens e a b) = opens e a b

abbrev pub renumbered : (ℕ → ℕ) → Monitor → Monitor
renumbered f m = record { kind = renumbered_kind f m.kind; parts = map (renumbered_part f) m.parts }

-- no two states get one number
unfoldable pub Renumbered : List Monitor → List Monitor → Type 0
Renumbered [] [] = Unit {0}
Renumbered [] (n ∷ ns) = ⊥
Renumbered (m ∷ ms) [] = ⊥
Renumbered (m ∷ ms) (n ∷ ns) = ((f : ℕ → ℕ) × ((s t : ℕ) → f s ≡ f t → s ≡ t) × (n ≡ renumbered f m)) × Renumbered ms ns

pub record Starts : Type 0 where
  -- any monitors can be renumbered so that each starts in 0, a `bal` apart, whose states are differences (02 no. 6)
  pub from_0 : (ms : List Monitor) → (ns : List Monitor) × Renumbered ms ns × ((n : Monitor) → In n ns → (start_of n.kind ≡ 0) ⊎ IsBal n.kind)
  -- then, with as many events, the same sequences belong
  pub same_belong : (t u : List ℕ) → Renumbered (monitors (decoded t)) (monitors (decoded u)) → events_of (decoded t) ≡ events_of (decoded u) → (h : ℕ) (w : List ℕ) → Belongs t h w ↔ Belongs u h w
  -- the count is the same
  pub same_count : (t u : List ℕ) → Readable t → Readable u → Renumbered (monitors (decoded t)) (monitors (decoded u)) → events_of (decoded t) ≡ events_of (decoded u)
      → (h : ℕ) → (Case7 h → ⊥) → (cells others : List ℕ) → (Case8 t h cells → ⊥) → (Case8 u h others → ⊥)
      → (n p : ℕ) → count t h cells ≡ served (n ∷ p ∷ []) → (q : ℕ) × (count u h others ≡ served (n ∷ q ∷ []))
  -- and, where both compare events in one order, every index gives the same bytes
  pub same_given : (t u : List ℕ) → Readable t → Readable u → Renumbered (monitors (decoded t)) (monitors (decoded u)) → order_of (decoded t) ≡ order_of (decoded u)
      → (h : ℕ) → (Case7 h → ⊥) → (cells : List ℕ) → (Case8 t h cells → ⊥)
      → (n p : ℕ) → count t h cells ≡ served (n ∷ p ∷ []) → (i : ℕ) → i < n → (w : List ℕ) → Gives generator t h i w → Gives generator u h i w
  -- so are these texts
  pub renumbered_A : Renumbered (monitors (decoded A_from_1)) (monitors (decoded A_exchanged))
