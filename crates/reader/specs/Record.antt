-- What the record of a readable text is. Paper 01, 'Rig text'.
--   monitor_in t m      == monitor m of the text t, as its lines
--   ReadFrom t r       == r is the record of the text t: the same monitors, tables, order of events and joint automaton
-- Assumes nothing.
use Rattle.std.specs.Prelude.{◌≡◌, ◌↔◌, true, List, ℕ, ◌<◌, length, get_or}
use Rattle.automaton.specs.Automaton as automaton
use Rattle.automaton.specs.Automaton.{walk}
use Rattle.automaton.specs.Joint.{sizes}
use Rattle.promises.specs.Text.{Monitor, monitors, decoded, states_of, start_of, events_of, order_of, joint_states}
use Rattle.promises.specs.Meaning.{Admits, MayStop, BelowE}
use Rattle.promises.specs.Rig.{monitor_of, rig_automaton, start}
use Rattle.rig.specs.declared.Rig.{Rig}
use Rattle.rig.specs.Record.{count_of, start_at, order_in, monitor_at, standing, record_automaton, record_start, WellFormed}
use Rattle.reader.specs.Reading.{nobody}

abbrev pub monitor_in : List ℕ → ℕ → Monitor
monitor_in t m = get_or (monitors (decoded t)) m nobody

pub record ReadFrom (t : List ℕ) (r : Rig) : Type 0 where
  -- all states, events and targets in range, and P at most 1,024
  pub well_formed : WellFormed r
  pub events_are : r.events ≡ events_of (decoded t)
  pub monitors_are : r.monitors ≡ length (monitors (decoded t))
  pub counts_are : (m : ℕ) → m < r.monitors → count_of r m ≡ states_of (monitor_in t m).kind
  pub starts_are : (m : ℕ) → m < r.monitors → start_at r m ≡ start_of (monitor_in t m).kind
  -- the events are compared in the text's order
  pub order_is : order_in r ≡ order_of (decoded t)
  -- the table of each monitor, of any kind, is the automaton of its lines
  pub tables_are : (m : ℕ) → m < r.monitors → monitor_at r m ≡ monitor_of (order_of (decoded t)) (monitor_in t m)
  -- so, from every state, it admits just the sequences of events that the monitor's sentence admits: 'That the table admits exactly the sequences of the
  -- sentence is shown for all n, lo and hi together' (02 no. 5)
  pub admits_are : (m s : ℕ) (w : List ℕ) → m < r.monitors → s < count_of r m → automaton.Admits (monitor_at r m) s w ↔ (BelowE t w × Admits (monitor_in t m) s w)
  -- and leads to a marked state where it may stop (02 no. 4)
  pub stops_are : (m s : ℕ) (w : List ℕ) → m < r.monitors → automaton.Admits (monitor_at r m) s w
      → ((monitor_at r m).stop (walk (monitor_at r m) s w) ≡ true) ↔ MayStop (monitor_in t m) s w
  -- the joint automaton that the record stands for is the one that the lines describe
  pub automaton_is : record_automaton r ≡ rig_automaton t
  pub start_is : record_start r ≡ start t
  pub joint_states_are : sizes (standing r) ≡ joint_states t
