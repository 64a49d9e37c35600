-- The record of a readable text: its automaton is the one that the lines describe. The tables hold what each monitor's kind and lines say (Held), and that is
-- the monitor's automaton. Assumes nothing.
use mathlib.Core.Path.{◌≡◌, refl, sym, ap, ap₂, ◌∙◌, subst, fun_ext}
use mathlib.Core.Logic.{◌↔◌, ◌≢◌}
use mathlib.Core.Bool.{Bool, true, false, ◌&&◌}
use mathlib.Core.List.{List, [], ◌∷◌, ◌++◌, map, append-nil, append_assoc}
use Prim.Native.Nat.{ℕ, suc, ◌≤◌, ◌<◌}
use native.Mathlib.Omega.{arith}
use lib.ListN.{length, get_or, length-map, length-replicate, get_or-replicate, replicate}
use lib.Seq.{ext_get_or}
use lib.Dec.{ltb, eqb}
use borrow.Author.Tests.{eq-eqb, eqb-true, eqb-false, lt-ltb, le-ltb, ltb-true}
use Rattle.lists.specs.Lists.{pick, any, tabulate, Permutation}
use Rattle.lists.proofs.Tests.{case, bool_ext}
use Rattle.lists.proofs.Tables.{length-tabulate, get_or-tabulate}
use Rattle.lists.proofs.Members.{get_or-map_lt, get_or-in, any_some, any_in}
use Rattle.automaton.specs.Automaton as automaton
use Rattle.automaton.specs.Automaton.{bounded, walk}
use Rattle.automaton.specs.Joint.{At, joint, joint_state, sizes}
use Rattle.promises.specs.Text.{Line, rig, ord, begins, continues, other, Monitor, monitors_from, monitors, decoded, states_of, start_of, events_of, order_of, joint_states, AllSound, Readable}
use Rattle.promises.specs.Meaning.{Admits, MayStop, BelowE}
use Rattle.promises.specs.Reading.{empty, line_case}
use Rattle.promises.specs.Rig.{next_of, marked_of, rig_automaton, lines_automaton, lines_start, start}
use Rattle.promises.specs.Rig as lines
use Rattle.promises.specs.Sentences.{Agrees}
use Rattle.promises.proofs.Lines.{Ranged, Formed, start_below, few_states}
use Rattle.promises.proofs.Meaning.{sizes-standing, order_permutes, over_iff}
use Rattle.promises.proofs.Reading.{sound_case, readable-said}
use Rattle.promises.proofs.Sentences.{sentences}
use Rattle.rig.specs.declared.Rig.{Rig}
use Rattle.rig.specs.Record.{move_at, count_of, start_at, order_in, move_of, stop_of, monitor_at, standing, record_automaton, record_start, WellFormed, lower_first, empty_rig}
use Rattle.decoding.specs.Forms.{over, form_of}
use Rattle.decoding.proofs.Listed.{Leaves}
use Rattle.kinds.specs.Kinds.{entry_of}
use Rattle.std.specs.Prelude.{None}
use Rattle.kinds.proofs.Tables.{OfKind}
use Rattle.taking.specs.declared.Sizes.{Sizes}
use Rattle.reader.specs.Reading.{nobody, record_from, where_served, record_of}
use Rattle.reader.specs.Record.{monitor_in, ReadFrom}
use Rattle.taking.specs.Taking.{case_of, sizes_after, moves_after, stops_after, given_after, counts_after, starts_after}
use Rattle.reader.proofs.Monitors.{empty_nil}
use Rattle.reader.proofs.Held.{Tabled, Holds, few_events, begun_z, holds-none, case_is, holds_more}

-- ---- every line read

-- the reader's state after some lines, whatever it is
pub record Held (r : Rig) (ls : List Line) : Type 0 where
  pub sizes_are : Sizes
  pub moves_are : List ℕ
  pub marks_are : List ℕ
  pub given_are : List ℕ
  pub counts_are : List ℕ
  pub starts_are : List ℕ
  pub order_is : List ℕ
  pub holds : Holds r ls sizes_are moves_are marks_are given_are counts_are starts_are order_is

-- a list that decoding may leave
some_left : (l : Line) (os : List ℕ) → (left : List ℕ) × Leaves l os left
some_left (rig E) os = (os, refl)
some_left (ord es) os = (over es os, refl)
some_left (begins k) os = (os, refl)
some_left (continues p) os = (os, refl)
some_left other os = (os, refl)

held_more : (r : Rig) (ls : List Line) (l : Line) → Held r ls → line_case ls l ≡ 0 → Held r (ls ++ (l ∷ []))
held_more r ls l H q =
    let z = H.sizes_are in
    let mv = H.moves_are in
    let sp = H.marks_are in
    let gv = H.given_are in
    let ct = H.counts_are in
    let st = H.starts_are in
    let os = H.order_is in
    let (left, k) = some_left l os in
    let c : case_of mv sp gv left z (suc (length ls)) (form_of l) ≡ 0 = case_is r ls z mv sp gv ct st os H.holds l (suc (length ls)) left refl k ∙ q in
    record {
      sizes_are = sizes_after z (form_of l);
      moves_are = moves_after mv gv z (form_of l);
      marks_are = stops_after sp z (form_of l);
      given_are = given_after gv z (form_of l);
      counts_are = counts_after ct z (form_of l);
      starts_are = starts_after st z (form_of l);
      order_is = left;
      holds = holds_more r ls z mv sp gv ct st os H.holds l (suc (length ls)) left refl k c;
    }

held_all : (r : Rig) (front back : List Line) → Held r front → AllSound front back → Held r (front ++ back)
unfolding AllSound
held_all r front [] H s = rw append-nil H
held_all r front (l ∷ back) H s =
    rw (← append_assoc front (l ∷ []) back) (held_all r (front ++ (l ∷ [])) back (held_more r front l H (sound_case front l s.0)) s.1)

held_none : Held empty_rig []
held_none = record {
  sizes_are = record { events = 0; monitors = 0; latest = None; joint = 1 };
  moves_are = replicate 2048 255;
  marks_are = replicate 128 0;
  given_are = replicate 64 0;
  counts_are = replicate 4 0;
  starts_are = replicate 4 0;
  order_is = lower_first;
  holds = holds-none (replicate 2048 255) (replicate 128 0) (replicate 64 0) (replicate 4 0) (replicate 4 0) (λ i h. get_or-replicate 2048 i 255 0 h) (λ i h. get_or-replicate 128 i 0 0 h) (λ i h. get_or-replicate 64 i 0 0 h) (length-replicate {A = ℕ} 2048 255) (length-replicate {A = ℕ} 128 0) (length-replicate {A = ℕ} 64 0) (length-replicate {A = ℕ} 4 0) (length-replicate {A = ℕ} 4 0);
}

held_readable : (t : List ℕ) → Readable t → Held empty_rig (decoded t)
held_readable t R = held_all empty_rig [] (decoded t) held_none R.sound

-- ---- one monitor

-- an entry in range is where the monitor moves; 255 stands for no move
entry_moves : (S t : ℕ) → S ≤ 32 → pick (ltb (entry_of S t) S) (entry_of S t) S ≡ pick (ltb t S) t S
entry_moves S t few = case (ltb t S) (λ q. rw (q, q)) (λ q. rw (q, le-ltb 255 S (omega arith)))

-- the numbers below E are the events of a list of them
listed : (E : ℕ) (es : List ℕ) → Permutation E es → (e : ℕ) → any (eqb e) es ≡ ltb e E
listed E es p e =
    bool_ext (any (eqb e) es) (ltb e E)
    (λ q. let (d, i, r) = any_some (eqb e) es q in lt-ltb e E (rw (eqb-true e d r) ((p.just d).0 i)))
    (λ q. any_in (eqb e) ((p.just e).1 (ltb-true e E q)) (eq-eqb e e refl))

-- monitor k of the record is the monitor m of the lines
module _ (r : Rig) (m : Monitor) (k : ℕ) (T : OfKind r.moves r.stops k r.events m.kind m.parts) (c : count_of r k ≡ states_of m.kind) (few : states_of m.kind ≤ 32)
    (order : Permutation r.events (order_in r)) where
  moves_as : (s e : ℕ) → move_of r k s e ≡ (lines.monitor_of (order_in r) m).next s e
  unfolding move_of lines.monitor_of bounded
  moves_as s e = rw (c, listed r.events (order_in r) order e) (step (ltb s (states_of m.kind)) (ltb e r.events) refl refl)
    where
      step : (a b : Bool) → ltb s (states_of m.kind) ≡ a → ltb e r.events ≡ b
          → pick ((a && b) && ltb (move_at r.moves k s e) (states_of m.kind)) (move_at r.moves k s e) (states_of m.kind)
          ≡ pick ((a && b) && ltb (next_of m.kind m.parts s e) (states_of m.kind)) (next_of m.kind m.parts s e) (states_of m.kind)
      step true true p q = rw (T.moves s e (ltb-true s _ p) (ltb-true e _ q)) (entry_moves (states_of m.kind) (next_of m.kind m.parts s e) few)
      step true false p q = refl
      step false b p q = refl

  stops_as : (s : ℕ) → stop_of r k s ≡ (lines.monitor_of (order_in r) m).stop s
  unfolding stop_of lines.monitor_of bounded
  stops_as s = rw c (case (ltb s (states_of m.kind)) (λ p. rw (p, T.marks s (ltb-true s _ p)) (flag (marked_of m.kind m.parts s))) (λ p. rw p))
    where
      flag : (b : Bool) → eqb (pick b 1 0) 1 ≡ b
      flag true = refl
      flag false = refl

  monitor_is : monitor_at r k ≡ lines.monitor_of (order_in r) m
  unfolding monitor_at lines.monitor_of bounded
  monitor_is =
      let next : move_of r k ≡ (lines.monitor_of (order_in r) m).next = fun_ext (λ s. fun_ext (λ e. moves_as s e)) in
      let stop : stop_of r k ≡ (lines.monitor_of (order_in r) m).stop = fun_ext stops_as in
      rw (c, next, stop)

-- ---- all monitors

-- what the record of sound lines is, whatever it was read by
pub record Recorded (ls : List Line) (r : Rig) : Type 0 where
  pub events_are : r.events ≡ events_of ls
  pub order_is : order_in r ≡ order_of ls
  pub monitors_are : r.monitors ≡ length (monitors ls)
  pub tabled : Tabled (monitors ls) r.events r.moves r.stops r.counts r.starts
  pub formed : Formed ls

module _ (ls : List Line) (r : Rig) (H : Recorded ls r) where
  among : (k : ℕ) → k < r.monitors → k < length (monitors ls)
  among k h = rw (← H.monitors_are) h

  ranged_at : (k : ℕ) → k < r.monitors → Ranged (events_of ls) (get_or (monitors ls) k nobody).kind
  ranged_at k h = (H.formed.monitored.each _ (get_or-in (monitors ls) k nobody (among k h))).ranged

  counts_of : (k : ℕ) → k < r.monitors → count_of r k ≡ states_of (get_or (monitors ls) k nobody).kind
  counts_of k h = H.tabled.counts k (among k h)

  starts_of_lem : (k : ℕ) → k < r.monitors → start_at r k ≡ start_of (get_or (monitors ls) k nobody).kind
  starts_of_lem k h = H.tabled.starts k (among k h)

  at_monitor : (k : ℕ) → k < r.monitors → monitor_at r k ≡ lines.monitor_of (order_of ls) (get_or (monitors ls) k nobody)
  at_monitor k h =
      monitor_is r (get_or (monitors ls) k nobody) k (H.tabled.tables k (among k h)) (counts_of k h) (few_states (events_of ls) _ (ranged_at k h)) (rw (H.order_is, H.events_are) H.formed.ordered)
      ∙ ap (λ es. lines.monitor_of es (get_or (monitors ls) k nobody)) H.order_is

  pub standing_is : standing r ≡ lines.standing (order_of ls) (monitors ls)
  unfolding standing lines.standing
  standing_is = ext_get_or nowhere _ _ (length-tabulate in_record r.monitors ∙ H.monitors_are ∙ sym (length-map (monitors ls) in_lines)) (λ i h. same i (rw (length-tabulate in_record r.monitors) at h))
    where
      nowhere : At
      nowhere = record { of = monitor_at r 0; state = 0 }

      in_record : ℕ → At
      in_record k = record { of = monitor_at r k; state = start_at r k }

      in_lines : Monitor → At
      in_lines m = record { of = lines.monitor_of (order_of ls) m; state = start_of m.kind }

      same : (i : ℕ) → i < r.monitors → get_or (tabulate in_record r.monitors) i nowhere ≡ get_or (map in_lines (monitors ls)) i nowhere
      same i h =
          get_or-tabulate in_record r.monitors i nowhere h
          ∙ ap₂ (λ a x. record { of = a; state = x }) (at_monitor i h) (starts_of_lem i h)
          ∙ sym (get_or-map_lt in_lines (monitors ls) i nobody nowhere (rw (← H.monitors_are) h))

  pub automaton_of : record_automaton r ≡ lines_automaton ls
  unfolding record_automaton lines_automaton
  automaton_of = ap₂ joint H.order_is standing_is

  pub start_of_lem : record_start r ≡ lines_start ls
  unfolding record_start lines_start
  start_of_lem = ap joint_state standing_is

-- ---- a readable text

module _ (t : List ℕ) (R : Readable t) where
  held : Held empty_rig (decoded t)
  held = held_readable t R

  record_of_is : record_of t ≡ record { moves = held.moves_are; stops = held.marks_are; counts = held.counts_are; starts = held.starts_are; order = held.order_is; monitors = held.sizes_are.monitors; events = held.sizes_are.events }
  unfolding record_of
  record_of_is = ap (λ a. where_served a (record_from empty_rig [] (decoded t)) empty_rig) (readable-said t R) ∙ held.holds.recorded

  recorded : Recorded (decoded t) (record_of t)
  recorded = rw record_of_is (record {
    events_are = sym held.holds.events_are;
    order_is = held.holds.ordered;
    monitors_are = sym held.holds.monitors_are;
    tabled = held.holds.tabled;
    formed = held.holds.formed;
  })

  some_monitor : 1 ≤ (record_of t).monitors
  some_monitor = rw recorded.monitors_are (filled (monitors (decoded t)) R.monitored)
    where
      filled : (ms : List Monitor) → ms ≢ [] → 1 ≤ length ms
      filled [] h = absurd (h refl)
      filled (m ∷ ms) h = omega arith

  begun : empty (decoded t) ≡ false
  unfolding monitors monitors_from
  begun = case (empty (decoded t)) (λ p. absurd (R.monitored (ap monitors (empty_nil (decoded t) p)))) (λ p. p)

  some_event : 1 ≤ (record_of t).events
  some_event = rw record_of_is (positive (eqb-false held.sizes_are.events 0 (sym (begun_z empty_rig (decoded t) _ _ _ _ _ _ _ held.holds) ∙ begun)))
    where
      positive : {n : ℕ} → (n ≡ 0 → ⊥) → 1 ≤ n
      positive h = omega arith

  joint_of_lem : sizes (standing (record_of t)) ≡ joint_states t
  unfolding joint_states
  joint_of_lem = ap sizes (standing_is (decoded t) (record_of t) recorded) ∙ sizes-standing (order_of (decoded t)) (monitors (decoded t))

  few_joint : joint_states t ≤ 1024
  unfolding joint_states
  few_joint = recorded.formed.monitored.small

  well_formed : WellFormed (record_of t)
  well_formed = record {
    some_event = some_event;
    few_events = rw recorded.events_are (few_events (decoded t) recorded.formed);
    some_monitor = some_monitor;
    few_monitors = rw recorded.monitors_are recorded.formed.monitored.few;
    some_state = λ m h. rw (counts_of (decoded t) (record_of t) recorded m h) (omega (arith, start_below _ _ (ranged_at (decoded t) (record_of t) recorded m h)));
    few_states = λ m h. rw (counts_of (decoded t) (record_of t) recorded m h) (few_states _ _ (ranged_at (decoded t) (record_of t) recorded m h));
    start_below = λ m h. rw (counts_of (decoded t) (record_of t) recorded m h, starts_of_lem (decoded t) (record_of t) recorded m h) (start_below _ _ (ranged_at (decoded t) (record_of t) recorded m h));
    few_joint = rw joint_of_lem few_joint;
    ordered = rw (recorded.order_is, recorded.events_are) (order_permutes t R);
  }

  agrees : (m : ℕ) → m < (record_of t).monitors → Agrees (order_of (decoded t)) (monitor_in t m)
  agrees m h = sentences.each t R (monitor_in t m) (get_or-in (monitors (decoded t)) m nobody (rw (← recorded.monitors_are) h))

  table_of : (m : ℕ) → m < (record_of t).monitors → monitor_at (record_of t) m ≡ lines.monitor_of (order_of (decoded t)) (monitor_in t m)
  table_of = at_monitor (decoded t) (record_of t) recorded

  admits_of : (m s : ℕ) (w : List ℕ) → m < (record_of t).monitors → s < count_of (record_of t) m → automaton.Admits (monitor_at (record_of t) m) s w ↔ (BelowE t w × Admits (monitor_in t m) s w)
  admits_of m s w h l =
      let (to, from) = (agrees m h).admits s w (rw (← counts_of (decoded t) (record_of t) recorded m h) l) in
      let (below, over) = over_iff t R w in
      rw (table_of m h) (λ a. let (o, p) = to a in (below o, p), λ (b, p). from (over b, p))

  stops_of : (m s : ℕ) (w : List ℕ) → m < (record_of t).monitors → automaton.Admits (monitor_at (record_of t) m) s w
      → ((monitor_at (record_of t) m).stop (walk (monitor_at (record_of t) m) s w) ≡ true) ↔ MayStop (monitor_in t m) s w
  stops_of m s w h a = subst (λ A. automaton.Admits A s w → (A.stop (walk A s w) ≡ true) ↔ MayStop (monitor_in t m) s w) (sym (table_of m h)) ((agrees m h).stops s w) a

  pub read_from : ReadFrom t (record_of t)
  unfolding rig_automaton start
  read_from = record {
    well_formed = well_formed;
    events_are = recorded.events_are;
    order_is = recorded.order_is;
    monitors_are = recorded.monitors_are;
    counts_are = counts_of (decoded t) (record_of t) recorded;
    starts_are = starts_of_lem (decoded t) (record_of t) recorded;
    tables_are = table_of;
    admits_are = admits_of;
    stops_are = stops_of;
    automaton_is = automaton_of (decoded t) (record_of t) recorded;
    start_is = start_of_lem (decoded t) (record_of t) recorded;
    joint_states_are = joint_of_lem;
  }
