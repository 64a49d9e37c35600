-- What a `stop` line is, paper 02 no. 4: how it is refused, and what it changes.
--   Stopping           == the refusals of a `stop` line; where a run may stop and where no monitor is marked, what belongs; that 'none' depends on the horizon
-- That the calls list what belongs, with marks and without, is demand 3. Assumes nothing.
use Rattle.std.specs.Prelude.{◌≡◌, ◌↔◌, ℕ, suc, ◌≤◌, ◌<◌, length}
use mathlib.Core.List.{List, [], ◌∷◌, ◌++◌, Memᴰ as In}
use Rattle.std.proofs.Math.Option.{some}
use Rattle.promises.specs.Text.{stop, Line, continues, Monitor, monitors, latest, states_of, decoded, IsMon, Case1, AllSound, Readable, Fault}
use Rattle.promises.specs.Meaning.{AllAdmit, AllMayStop, Belongs}
use Rattle.promises.specs.Demand2.{Endless}
use Rattle.promises.specs.Examples.{closes}

pub record Stopping : Type 0 where
  -- 'a `stop` before any `mon` is 5'
  pub before_mon : (t : List ℕ) (front : List Line) (s : ℕ) (back : List Line) → (Case1 t → ⊥) → decoded t ≡ front ++ (continues (stop s) ∷ back) → AllSound [] front
      → monitors front ≡ [] → Fault t 5 (suc (length front))
  -- 'a state not below S is 3'
  pub not_below_lem : (t : List ℕ) (front : List Line) (s : ℕ) (back : List Line) → (Case1 t → ⊥) → decoded t ≡ front ++ (continues (stop s) ∷ back) → AllSound [] front
      → (m : Monitor) → latest (monitors front) ≡ some m → IsMon m.kind → states_of m.kind ≤ s → Fault t 3 (suc (length front))
  -- 'A state marked twice is 4'
  pub marked_twice : (t : List ℕ) (front : List Line) (s : ℕ) (back : List Line) → (Case1 t → ⊥) → decoded t ≡ front ++ (continues (stop s) ∷ back) → AllSound [] front
      → (m : Monitor) → latest (monitors front) ≡ some m → IsMon m.kind → s < states_of m.kind → In (stop s) m.parts → Fault t 4 (suc (length front))
  -- 'A depot closes; its last bus is parked and no event follows. 01 .. drops these scenarios.' What leads to a stoppable state belongs, whatever follows
  pub to_stoppable : (t w : List ℕ) → AllAdmit t w → AllMayStop t w → Belongs t (length w) w
  -- 'Rigs in which some monitor has no marked state': one `mon` without a `stop` line makes a rig endless, whatever the others mark
  pub endless_by_one : (t : List ℕ) (m : Monitor) → In m (monitors (decoded t)) → IsMon m.kind → ((s : ℕ) → In (stop s) m.parts → ⊥) → Endless t
  -- so a rig with a `mon` and without a `stop` line is
  pub without_stop : (t : List ℕ) (m : Monitor) → In m (monitors (decoded t)) → IsMon m.kind → ((s : ℕ) → In (continues (stop s)) (decoded t) → ⊥) → Endless t
  -- and there a sequence belongs as 01 says: 'some k events can be put after it so that every monitor admits the whole', for every k
  pub endless_belongs : (t : List ℕ) → Readable t → Endless t → (h : ℕ) (w : List ℕ)
      → Belongs t h w ↔ ((length w ≡ h) × AllAdmit t w × ((k : ℕ) → (v : List ℕ) × (length v ≡ k) × AllAdmit t (w ++ v)))
  -- and none belongs at one horizon only if none belongs at any
  pub endless_none : (t : List ℕ) → Readable t → Endless t → (h k : ℕ) → ((w : List ℕ) → Belongs t h w → ⊥) → (w : List ℕ) → Belongs t k w → ⊥
  -- 'A live state may then have no scenario of some length, so 9 depends on the horizon.'
  pub closes_readable : Readable closes
  pub closes_at_1 : Belongs closes 1 (0 ∷ [])
  pub closed_at_2 : (w : List ℕ) → Belongs closes 2 w → ⊥
