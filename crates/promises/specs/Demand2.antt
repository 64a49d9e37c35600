-- Demand 2, stated of any four calls: counts, scenarios and indices are nb_traces and trace of source document 000 over its safe states, for the
-- conjoint monitor of the text; the shuffle is the swapping of source document 001.
--   Endless t          == some monitor of the text t has no marked state
--   Traces C t h Φ     == the calls agree with nb_traces and trace, Φ telling the safe states
--   Demand2 C          == demand 2
-- At a start that is not safe source document 000 has no generator: there 9 is said and nothing is compared. The rigs that are not endless 'are held to 01's
-- definitions over these sets instead' (02 no. 4): those of Calls, which the contracts cite for every rig. Assumes nothing.
use Rattle.std.specs.Prelude.{◌≡◌, ◌↔◌, Bool, true, false, ℕ, ◌≤◌, ◌<◌, length, get_or}
use Rattle.std.proofs.Math.Option.{none, some}
use mathlib.Core.List.{List, [], ◌∷◌, Memᴰ as In}
use Rattle.lists.specs.Lists.{Pairwise}
use Rattle.automaton.specs.Counting.{most}
use Rattle.automaton.specs.Source000.{Safe, nb_traces, trace}
use Rattle.automaton.specs.Source001.{rnd_perm_prefix}
use Rattle.promises.specs.Answer.{served, refused, Served, SaysNone}
use Rattle.promises.specs.Text.{Monitor, monitors, decoded, states_of, events_of, Readable, Case7, Case8, Case12, Case13}
use Rattle.promises.specs.Meaning.{MayStop, Earlier}
use Rattle.promises.specs.Rig.{rig_automaton, start}
use Rattle.promises.specs.Demand3.{Calls, Shufflable, block, output}

-- 'Rigs in which some monitor has no marked state are still compared with source document 000' (02 no. 4): a state is marked if the monitor may stop in it
unfoldable pub Endless : List ℕ → Type 0
Endless t = (m : Monitor) × In m (monitors (decoded t)) × ((s : ℕ) → s < states_of m.kind → MayStop m s [] → ⊥)

module _ (C : Calls) where
  open C use {count, scenarios, written, index, shuffle}

  -- where the start is safe and nb_traces(h) is a number that can be told
  pub record Traced (t : List ℕ) (h : ℕ) (Φ : ℕ → Bool) : Type 0 where
    -- Count's N is nb_traces(h)
    pub counted : (cells : List ℕ) → (Case8 t h cells → ⊥) → (passes : ℕ) × (count t h cells ≡ served (nb_traces (rig_automaton t) Φ (start t) h ∷ passes ∷ []))
    -- block n of what Scenarios leaves is trace(index n, h)
    pub traced : (is cells out : List ℕ) → (Case8 t h cells → ⊥) → (Case12 h is out → ⊥) → Served (scenarios t h is cells out)
        → (n : ℕ) → n < length is → trace (rig_automaton t) Φ (start t) (get_or is n 0) h ≡ some (block h n (written t h is cells out))
    -- and 11 is said exactly where trace's error 'index out of bounds' is met
    pub bounded : (is cells out : List ℕ) → (Case8 t h cells → ⊥) → (Case12 h is out → ⊥)
        → ((p : ℕ) × (scenarios t h is cells out ≡ refused 11 p)) ↔ ((n : ℕ) × (n < length is) × (trace (rig_automaton t) Φ (start t) (get_or is n 0) h ≡ none))
    -- Index of trace(i, h) is i
    pub indexed : (i : ℕ) (w cells : List ℕ) → trace (rig_automaton t) Φ (start t) i h ≡ some w → (Case8 t h cells → ⊥) → index t w cells ≡ served (i ∷ [])

  pub record Traces (t : List ℕ) (h : ℕ) (Φ : ℕ → Bool) : Type 0 where
    -- 9 is said exactly where the start is not safe
    pub unsafe_count : (cells : List ℕ) → (Case8 t h cells → ⊥) → SaysNone (count t h cells) ↔ (Φ (start t) ≡ false)
    pub unsafe_scenarios : (is cells out : List ℕ) → (Case8 t h cells → ⊥) → (Case12 h is out → ⊥) → SaysNone (scenarios t h is cells out) ↔ (Φ (start t) ≡ false)
    pub unsafe_index : (s cells : List ℕ) → length s ≡ h → (Case8 t h cells → ⊥) → ((p : ℕ) → Case13 t s p → ⊥) → SaysNone (index t s cells) ↔ (Φ (start t) ≡ false)
    pub safe : Φ (start t) ≡ true → nb_traces (rig_automaton t) Φ (start t) h < most → Traced t h Φ
    -- and 10 where nb_traces(h) is 2^64 − 1 or more
    pub too_many : Φ (start t) ≡ true → most ≤ nb_traces (rig_automaton t) Φ (start t) h
        → ((cells : List ℕ) → (Case8 t h cells → ⊥) → count t h cells ≡ refused 10 0)
        × ((is cells out : List ℕ) → (Case8 t h cells → ⊥) → (Case12 h is out → ⊥) → scenarios t h is cells out ≡ refused 10 0)
        × ((s cells : List ℕ) → length s ≡ h → (Case8 t h cells → ⊥) → ((p : ℕ) → Case13 t s p → ⊥) → index t s cells ≡ refused 10 0)

  pub record Demand2 : Type 0 where
    -- for any Φ that is the greatest solution of equation (1); there is one
    pub traces : (t : List ℕ) (h : ℕ) → Readable t → Endless t → (Case7 h → ⊥) → (Φ : ℕ → Bool) → Safe (rig_automaton t) Φ → Traces t h Φ
    -- its inputs are the events, compared by the text's order: 'and so do .. the trace of the second demand' (02 no. 2)
    pub inputs : (t : List ℕ) → Readable t → (e : ℕ) → In e (rig_automaton t).events ↔ (e < events_of (decoded t))
    pub compared : (t : List ℕ) → Readable t → Pairwise (Earlier (decoded t)) (rig_automaton t).events
    pub safe_states : (t : List ℕ) → Readable t → Endless t → (Φ : ℕ → Bool) × Safe (rig_automaton t) Φ
    -- rnd_perm_prefix on the same draws; 01 also allows no draws and n 0, where it puts out nothing
    pub permuted : (n : ℕ) (ds scratch out : List ℕ) → Shufflable n ds scratch out → Served (shuffle n ds scratch out) × (output C n ds scratch out ≡ rnd_perm_prefix ds)
