-- What belongs by the rig's lines is what belongs by the joint automaton of the text.
-- Why: on a readable text the automaton of each monitor agrees with the monitor's sentence, and the joint automaton admits what every monitor does.
-- Assumes nothing.
use mathlib.Core.Path.{◌≡◌, refl, sym, ap, ◌∙◌, subst}
use mathlib.Core.Logic.Iff
use mathlib.Core.Logic.{inl, inr, ◌≢◌, ◌↔◌, ⊎_elim}
use mathlib.Core.Bool.{true, false, ◌&&◌, and-false}
use mathlib.Core.List.Memᴰ
use mathlib.Core.List.Memᴰ.{head as here}
use mathlib.Core.List.Memᴰ.{map as map-in}
use mathlib.Core.List.Memᴰ.{tail as there}
use mathlib.Core.List.{List, [], ◌∷◌, ◌++◌, append-nil, Memᴰ as In}
use Prim.Native.Nat.{ℕ, ◌*◌, ◌/◌, ◌%◌, ◌<◌}
use native.Mathlib.Omega.{arith}
use native.Mathlib.Nat.{mul-zero, pos_of_ne-zero, mod-lt, div-lt_iff_lt-mul, div-add-mod'}
use lib.Dec.{ltb}
use Rattle.lists.specs.Lists.{Pairwise, Permutation}
use Rattle.lists.proofs.Ordered.{index_of-ordered}
use Rattle.lists.proofs.Tells.{tells_false}
use Rattle.automaton.specs.Automaton as automaton
use Rattle.automaton.specs.Automaton.{bounded, Over, walk}
use Rattle.automaton.specs.Joint.{join, At, idle, joint, sizes, joint_state, Fit, EachAdmits, EachStops}
use Rattle.automaton.specs.Windows.{Departs}
use Rattle.automaton.proofs.Joint.{admits-state, joint-admits, joint-states, joint-events, joint-state, joint-stops, joint-never}
use Rattle.automaton.proofs.Sentences.{Steps, says_admits}
use Rattle.promises.specs.Text.{Kind, mon, gap, reply, bal, day, Part, stop, Monitor, monitors, states_of, start_of, product, events_of, order_of, decoded, Readable, joint_states}
use Rattle.promises.specs.Meaning.{Leads, Ends, Admits, MayStop, BelowE, AllAdmit, AllMayStop, CarriedOn, Belongs, JointState, starts_of, Every, AllAdmitFrom, AllMayStopFrom, CarriedOnFrom, Departure, Earlier}
use Rattle.promises.specs.Rig.{marked_of, monitor_of, standing, lines_automaton, lines_start, rig_automaton, start}
use Rattle.promises.specs.Demand2.{Endless}
use Rattle.promises.specs.Sentences.{Agrees}
use Rattle.promises.proofs.Lines.{Ranged, PartRanged, Kept, WellFormed, band, start_below, readable-formed}
use Rattle.promises.proofs.Reading.{tells_marked}
use Rattle.promises.proofs.Mon.{mon_agrees}
use Rattle.promises.proofs.Gap.{gap_agrees}
use Rattle.promises.proofs.Reply.{marked, reply_agrees}
use Rattle.promises.proofs.Bal.{bal_agrees}
use Rattle.promises.proofs.Day.{day_agrees}

-- ---- one monitor

-- of any kind, the automaton agrees with the sentence
kind_agrees : (E : ℕ) (es : List ℕ) (k : Kind) (ps : List Part) → Kept E (record { kind = k; parts = ps }) → Agrees es (record { kind = k; parts = ps })
unfolding Ranged
kind_agrees E es (mon S a) ps k = mon_agrees E S a ps k es
kind_agrees E es (gap e n) ps k = gap_agrees e n es ps
kind_agrees E es (reply a b lo hi) ps k = let (x, y, one, le, h, ne) = k.ranged in reply_agrees a b lo hi one le ne es ps
kind_agrees E es (bal lo hi) ps k = let (l, low, high, h) = k.ranged in bal_agrees es lo hi ps (band lo hi low high)
kind_agrees E es (day T) ps k = day_agrees es T ps

pub monitor_agrees : (E : ℕ) (es : List ℕ) (m : Monitor) → Kept E m → Agrees es m
monitor_agrees E es m k = kind_agrees E es m.kind m.parts k

-- a monitor that may stop in none of its states has no marked one
unmarked : (E : ℕ) (k : Kind) (ps : List Part) → Kept E (record { kind = k; parts = ps }) → ((s : ℕ) → s < states_of k → Ends k ps s [] → ⊥) → (s : ℕ) → marked_of k ps s ≡ false
unfolding marked_of Ranged PartRanged Ends Leads states_of
unmarked E (mon S a) ps k nowhere s = tells_false (tells_marked ps s) (λ i. nowhere s (k.parts_ranged (stop s) i).1 (s, refl, i))
unmarked E (gap e n) ps k nowhere s = absurd (nowhere 0 (omega (arith, k.ranged.1)) tt)
unmarked E (reply a b lo hi) ps k nowhere s = absurd (nowhere 0 (omega arith) ((marked a b lo hi ps 0).1 refl))
unmarked E (bal lo hi) ps k nowhere s = absurd (nowhere 0 (omega arith) tt)
unmarked E (day T) ps k nowhere s = absurd (nowhere 0 (omega (arith, k.ranged.0)) tt)

-- what holds of the first monitor and of the others
pub all : {m : Monitor} {ms : List Monitor} (P : Monitor → Type 0) → P m → ((k : Monitor) → In k ms → P k) → (k : Monitor) → In k (m ∷ ms) → P k
all P p f k (here q) = subst P (sym q) p
all P p f k (there i) = f k i

-- the monitors ms, each in its state of xs
unfoldable pub placed : List ℕ → List Monitor → List ℕ → List At
placed es [] xs = []
placed es (m ∷ ms) [] = []
placed es (m ∷ ms) (x ∷ xs) = record { of = monitor_of es m; state = x } ∷ placed es ms xs

standing-placed : (es : List ℕ) (ms : List Monitor) → standing es ms ≡ placed es ms (starts_of ms)
unfolding standing placed starts_of
standing-placed es [] = refl
standing-placed es (m ∷ ms) = ap (λ ns. record { of = monitor_of es m; state = start_of m.kind } ∷ ns) (standing-placed es ms)

-- what holds of every monitor in its start state
every_start : (P : Monitor → ℕ → List ℕ → Type 0) (ms : List Monitor) (w : List ℕ) → Every P ms (starts_of ms) w ↔ ((m : Monitor) → In m ms → P m (start_of m.kind) w)
unfolding Every starts_of
every_start P [] w = (λ p m i. absurd (Memᴰ.not-nil i), λ f. tt)
every_start P (m ∷ ms) w =
    let (to, from) = every_start P ms w in
    (λ (p, r). all (λ n. P n (start_of n.kind) w) p (to r), λ f. (f m (here refl), from (λ n i. f n (there i))))

-- the joint automaton does not depend on the states that its monitors are in
joint-placed : (es : List ℕ) (ms : List Monitor) (xs : List ℕ) → JointState ms xs → joint es (placed es ms xs) ≡ joint es (standing es ms)
unfolding joint placed standing JointState
joint-placed es [] [] j = refl
joint-placed es [] (x ∷ xs) j = absurd j
joint-placed es (m ∷ ms) [] j = absurd j
joint-placed es (m ∷ ms) (x ∷ xs) j = ap (join (monitor_of es m)) (joint-placed es ms xs j.1)

pub sizes-standing : (es : List ℕ) (ms : List Monitor) → sizes (standing es ms) ≡ product ms
unfolding sizes standing product monitor_of bounded
sizes-standing es [] = refl
sizes-standing es (m ∷ ms) = ap (λ p. states_of m.kind * p) (sizes-standing es ms)

sizes-placed : (es : List ℕ) (ms : List Monitor) (xs : List ℕ) → JointState ms xs → sizes (placed es ms xs) ≡ product ms
sizes-placed es ms xs j = sym (joint-states es (placed es ms xs)) ∙ ap (λ A. A.states) (joint-placed es ms xs j) ∙ joint-states es (standing es ms) ∙ sizes-standing es ms

-- every number below P is that of a joint state: its digits
placed_at : (es : List ℕ) (ms : List Monitor) (x : ℕ) → x < product ms → (xs : List ℕ) × JointState ms xs × (joint_state (placed es ms xs) ≡ x)
unfolding placed product joint_state JointState
placed_at es [] x lt = ([], tt, omega arith)
placed_at es (m ∷ ms) x lt = go (placed_at es ms (x % product ms) (mod-lt x some))
  where
    some : 0 < product ms
    some = pos_of_ne-zero (λ z. let h = rw (z, mul-zero) at lt in omega arith)

    go : (xs : List ℕ) × JointState ms xs × (joint_state (placed es ms xs) ≡ x % product ms)
        → (xs : List ℕ) × JointState (m ∷ ms) xs × (joint_state (placed es (m ∷ ms) xs) ≡ x)
    go (xs, j, q) = (x / product ms ∷ xs, ((div-lt_iff_lt-mul some).1 lt, j), rw (sizes-placed es ms xs j, q) (div-add-mod' x (product ms)))

module _ (E : ℕ) (es : List ℕ) where
  starts_joint : (ms : List Monitor) → ((m : Monitor) → In m ms → Kept E m) → JointState ms (starts_of ms)
  unfolding JointState starts_of
  starts_joint [] k = tt
  starts_joint (m ∷ ms) k = (start_below E m.kind (k m (here refl)).ranged, starts_joint ms (λ n i. k n (there i)))

  placed_fits : (ms : List Monitor) (xs : List ℕ) → JointState ms xs → Fit es (placed es ms xs)
  unfolding Fit placed monitor_of bounded JointState
  placed_fits [] xs j = tt
  placed_fits (m ∷ ms) [] j = absurd j
  placed_fits (m ∷ ms) (x ∷ xs) j = (refl, j.0, placed_fits ms xs j.1)

  standing_fits : (ms : List Monitor) → ((m : Monitor) → In m ms → Kept E m) → Fit es (standing es ms)
  standing_fits ms k = rw (standing-placed es ms) (placed_fits ms (starts_of ms) (starts_joint ms k))

  idle_admits : (w : List ℕ) → automaton.Admits (idle es) 0 w ↔ Over es w
  unfolding idle Steps
  idle_admits w = let (to, from) = says_admits (idle es) (λ s w. Unit {0}) (λ s u w h. (λ p. (omega arith, tt), λ p. tt)) (λ s h. tt) 0 w (omega arith) in (λ a. (to a).0, λ o. from (o, tt))

  each_admits : (ms : List Monitor) → ((m : Monitor) → In m ms → Kept E m) → (xs : List ℕ) → JointState ms xs → (w : List ℕ)
      → EachAdmits es (placed es ms xs) w ↔ (Over es w × Every Admits ms xs w)
  unfolding EachAdmits placed JointState Every
  each_admits [] k xs j w = let (to, from) = idle_admits w in (λ a. (to a, tt), λ (o, f). from o)
  each_admits (m ∷ ms) k [] j w = absurd j
  each_admits (m ∷ ms) k (x ∷ xs) j w =
      let (to, from) = (monitor_agrees E es m (k m (here refl))).admits x w j.0 in
      let (ts, fs) = each_admits ms (λ n i. k n (there i)) xs j.1 w in
      (λ (a, b). let (o, f) = ts b in (o, ((to a).1, f)), λ (o, f). (from (o, f.0), fs (o, f.1)))

  each_stops : (ms : List Monitor) → ((m : Monitor) → In m ms → Kept E m) → (xs : List ℕ) → JointState ms xs → (w : List ℕ) → EachAdmits es (placed es ms xs) w
      → EachStops (placed es ms xs) w ↔ Every MayStop ms xs w
  unfolding EachAdmits EachStops placed JointState Every
  each_stops [] k xs j w a = (λ p. tt, λ f. tt)
  each_stops (m ∷ ms) k [] j w a = absurd j
  each_stops (m ∷ ms) k (x ∷ xs) j w (a, b) =
      let (to, from) = (monitor_agrees E es m (k m (here refl))).stops x w a in
      let (ts, fs) = each_stops ms (λ n i. k n (there i)) xs j.1 w b in
      (λ (p, r). (to p, ts r), λ (p, r). (from p, fs r))

-- ---- the text

-- what is admitted, and where a run may stop, tell what belongs
module _ (t u : List ℕ) (admits : (w : List ℕ) → AllAdmit t w ↔ AllAdmit u w) (stops : (w : List ℕ) → AllMayStop t w ↔ AllMayStop u w) where
  carried_alike : (w : List ℕ) (k : ℕ) → CarriedOn t w k ↔ CarriedOn u w k
  unfolding CarriedOn
  carried_alike w k = (
    λ (v, a, c). (v, (admits (w ++ v)).0 a, ⊎_elim (λ l. inl l) (λ (l, s). inr (l, (stops (w ++ v)).0 s)) c),
    λ (v, a, c). (v, (admits (w ++ v)).1 a, ⊎_elim (λ l. inl l) (λ (l, s). inr (l, (stops (w ++ v)).1 s)) c),
  )

  pub belong_alike : (h : ℕ) (w : List ℕ) → Belongs t h w ↔ Belongs u h w
  belong_alike h w = (
    λ b. record { long = b.long; admitted = (admits w).0 b.admitted; carried_on = λ k. (carried_alike w k).0 (b.carried_on k) },
    λ b. record { long = b.long; admitted = (admits w).1 b.admitted; carried_on = λ k. (carried_alike w k).1 (b.carried_on k) },
  )

-- the words of demand 3 are those from the joint state that the monitors start in
module _ (t : List ℕ) where
  pub start_admits : (w : List ℕ) → AllAdmit t w ↔ AllAdmitFrom t (starts_of (monitors (decoded t))) w
  start_admits w =
      let (to, from) = every_start Admits (monitors (decoded t)) w in
      (λ a. record { events = a.events; each = from a.each }, λ a. record { events = a.events; each = to a.each })

  pub start_carried : (w : List ℕ) (k : ℕ) → CarriedOn t w k ↔ CarriedOnFrom t (starts_of (monitors (decoded t))) w k
  unfolding CarriedOn CarriedOnFrom AllMayStop AllMayStopFrom
  start_carried w k = (
    λ (v, a, c). (v, (start_admits (w ++ v)).0 a, ⊎_elim (λ l. inl l) (λ (l, s). inr (l, (every_start MayStop (monitors (decoded t)) (w ++ v)).1 s)) c),
    λ (v, a, c). (v, (start_admits (w ++ v)).1 a, ⊎_elim (λ l. inl l) (λ (l, s). inr (l, (every_start MayStop (monitors (decoded t)) (w ++ v)).0 s)) c),
  )

  -- what can be carried on by no event is admitted
  carried_whole : (xs w : List ℕ) → CarriedOnFrom t xs w 0 → AllAdmitFrom t xs w
  unfolding CarriedOnFrom
  carried_whole xs w ([], a, c) = rw append-nil at a
  carried_whole xs w (e ∷ u, a, inl q) = absurd (omega arith)
  carried_whole xs w (e ∷ u, a, inr (l, s)) = absurd (omega arith)

-- P of the automaton is P of the lines, on any text
pub rig-states : (t : List ℕ) → (rig_automaton t).states ≡ joint_states t
unfolding rig_automaton lines_automaton joint_states
rig-states t = joint-states (order_of (decoded t)) (standing (order_of (decoded t)) (monitors (decoded t))) ∙ sizes-standing (order_of (decoded t)) (monitors (decoded t))

module _ (t : List ℕ) (r : Readable t) where
  well_formed : WellFormed (events_of (decoded t)) (monitors (decoded t))
  well_formed = (readable-formed t r).monitored

  pub order_permutes : Permutation (events_of (decoded t)) (order_of (decoded t))
  order_permutes = (readable-formed t r).ordered

  -- a joint state, and its number
  starting : JointState (monitors (decoded t)) (starts_of (monitors (decoded t)))
  starting = starts_joint (events_of (decoded t)) (order_of (decoded t)) (monitors (decoded t)) well_formed.each

  number_of : List ℕ → ℕ
  number_of xs = joint_state (placed (order_of (decoded t)) (monitors (decoded t)) xs)

  start_number : start t ≡ number_of (starts_of (monitors (decoded t)))
  unfolding start lines_start number_of
  start_number = ap joint_state (standing-placed (order_of (decoded t)) (monitors (decoded t)))

  fits : (xs : List ℕ) → JointState (monitors (decoded t)) xs → Fit (order_of (decoded t)) (placed (order_of (decoded t)) (monitors (decoded t)) xs)
  fits = placed_fits (events_of (decoded t)) (order_of (decoded t)) (monitors (decoded t))

  rig_placed : (xs : List ℕ) → JointState (monitors (decoded t)) xs → joint (order_of (decoded t)) (placed (order_of (decoded t)) (monitors (decoded t)) xs) ≡ rig_automaton t
  unfolding rig_automaton lines_automaton
  rig_placed = joint-placed (order_of (decoded t)) (monitors (decoded t))

  rig_events : (rig_automaton t).events ≡ order_of (decoded t)
  rig_events = ap (λ A. A.events) (sym (rig_placed _ starting)) ∙ joint-events (order_of (decoded t)) _ (fits _ starting)

  -- the automaton's events are the text's
  pub events_just : (e : ℕ) → In e (rig_automaton t).events ↔ (e < events_of (decoded t))
  events_just e = rw rig_events (order_permutes.just e)

  pub rig_start : start t < (rig_automaton t).states
  unfolding number_of
  rig_start = rw (start_number, ← rig_placed _ starting) (joint-state (order_of (decoded t)) _ (fits _ starting))

  -- where some monitor has no marked state, no joint state may stop
  pub endless_never_stops : Endless t → (x : ℕ) → (rig_automaton t).stop x ≡ false
  unfolding Endless MayStop rig_automaton lines_automaton standing monitor_of bounded
  endless_never_stops (m, i, n) =
      let never = unmarked (events_of (decoded t)) m.kind m.parts (well_formed.each m i) n in
      joint-never (order_of (decoded t)) (standing (order_of (decoded t)) (monitors (decoded t))) (standing_of m) (map-in standing_of i)
      (λ x. ap (λ b. ltb x (states_of m.kind) && b) (never x) ∙ and-false (ltb x (states_of m.kind)))
    where
      standing_of : Monitor → At
      standing_of m = record { of = monitor_of (order_of (decoded t)) m; state = start_of m.kind }

  pub events_distinct : Pairwise ◌≢◌ (rig_automaton t).events
  events_distinct = rw rig_events order_permutes.once

  -- and stand in its order
  pub events_ordered : Pairwise (Earlier (decoded t)) (rig_automaton t).events
  unfolding Earlier
  events_ordered = rw rig_events (index_of-ordered order_permutes.once)

  -- the events in their order are the numbers below E
  pub over_iff : (w : List ℕ) → Over (order_of (decoded t)) w ↔ BelowE t w
  unfolding Over BelowE
  over_iff w = (λ o e i. (order_permutes.just e).0 (o e i), λ b e i. (order_permutes.just e).1 (b e i))

  -- every monitor admits a sequence from a joint state exactly when the joint automaton does from its number
  module _ (xs : List ℕ) (j : JointState (monitors (decoded t)) xs) where
    from_admits : (v : List ℕ) → AllAdmitFrom t xs v ↔ automaton.Admits (rig_automaton t) (number_of xs) v
    unfolding number_of
    from_admits v =
        rw (← rig_placed xs j)
        (let (to, from) = joint-admits (order_of (decoded t)) _ v (fits xs j) in
        let (all, some) = each_admits (events_of (decoded t)) (order_of (decoded t)) (monitors (decoded t)) well_formed.each xs j v in (
          λ a. from (some ((over_iff v).1 a.events, a.each)),
          λ a. let (o, f) = all (to a) in record { events = (over_iff v).0 o; each = f },
        ))

    -- and leads each to a marked state exactly when it leads the joint automaton to a state that may stop
    from_stops : (v : List ℕ) → automaton.Admits (rig_automaton t) (number_of xs) v → AllMayStopFrom t xs v ↔ ((rig_automaton t).stop (walk (rig_automaton t) (number_of xs) v) ≡ true)
    unfolding AllMayStopFrom number_of
    from_stops v =
        rw (← rig_placed xs j)
        (λ a. let b = (joint-admits (order_of (decoded t)) _ v (fits xs j)).0 a in
        let (to, from) = joint-stops (order_of (decoded t)) _ v (fits xs j) b in
        let (all, some) = each_stops (events_of (decoded t)) (order_of (decoded t)) (monitors (decoded t)) well_formed.each xs j v b in
        (λ f. from (some f), λ q. all (to q)))

    from_carried : (v : List ℕ) (k : ℕ) → CarriedOnFrom t xs v k ↔ automaton.CarriedOn (rig_automaton t) k (number_of xs) v
    unfolding CarriedOnFrom automaton.CarriedOn
    from_carried v k = (
      λ (u, a, c). let b = (from_admits (v ++ u)).0 a in (u, b, ⊎_elim (λ l. inl l) (λ (l, s). inr (l, (from_stops (v ++ u) b).0 s)) c),
      λ (u, b, c). (u, (from_admits (v ++ u)).1 b, ⊎_elim (λ l. inl l) (λ (l, s). inr (l, (from_stops (v ++ u) b).1 s)) c),
    )

  -- a sequence departs by the lines where it departs by the automaton
  pub text_departs : (w : List ℕ) → Departs (rig_automaton t) w ↔ Departure t w
  unfolding Departs Departure automaton.CarriedOn number_of
  text_departs w = (
    λ d xs j a c. d (number_of xs) (λ k. (from_carried xs j w k).0 (c k)),
    λ d x c. to d x c (placed_at (order_of (decoded t)) (monitors (decoded t)) x (below x (c 0))),
  )
    where
      below : (x : ℕ) → automaton.CarriedOn (rig_automaton t) 0 x w → x < product (monitors (decoded t))
      below x (u, a, c) = unfold joint_states in (rw (← rig-states t) (admits-state (rig_automaton t) x (w ++ u) a))

      to : Departure t w → (x : ℕ) → ((k : ℕ) → automaton.CarriedOn (rig_automaton t) k x w)
          → (xs : List ℕ) × JointState (monitors (decoded t)) xs × (number_of xs ≡ x) → ⊥
      to d x c (xs, j, q) =
          let on : (k : ℕ) → CarriedOnFrom t xs w k = λ k. (from_carried xs j w k).1 (rw q (c k)) in
          d xs j (carried_whole t xs w (on 0)) on

  -- from the start
  pub text_admits : (v : List ℕ) → AllAdmit t v ↔ automaton.Admits (rig_automaton t) (start t) v
  text_admits v = rw start_number (Iff.trans (start_admits t v) (from_admits _ starting v))

  -- which leads each to a marked state exactly when it leads the joint automaton to a state that may stop
  pub text_stops : (v : List ℕ) → automaton.Admits (rig_automaton t) (start t) v → AllMayStop t v ↔ ((rig_automaton t).stop (walk (rig_automaton t) (start t) v) ≡ true)
  unfolding AllMayStop AllMayStopFrom
  text_stops v a =
      let (to, from) = every_start MayStop (monitors (decoded t)) v in
      rw start_number (Iff.trans (from, to) (from_stops (starts_of (monitors (decoded t))) starting v (rw start_number at a)))

  pub text_carried : (v : List ℕ) (k : ℕ) → CarriedOn t v k ↔ automaton.CarriedOn (rig_automaton t) k (start t) v
  text_carried v k = rw start_number (Iff.trans (start_carried t v k) (from_carried _ starting v k))

  -- what belongs by the lines is what belongs by the automaton
  pub text_belongs : (h : ℕ) (v : List ℕ) → Belongs t h v ↔ automaton.Belongs (rig_automaton t) h (start t) v
  text_belongs h v = (
    λ b. record { long = b.long; carried_on = λ k. (text_carried v k).0 (b.carried_on k) },
    λ b.
        let on : (k : ℕ) → CarriedOn t v k = λ k. (text_carried v k).1 (b.carried_on k) in
        record { long = b.long; admitted = (start_admits t v).1 (carried_whole t _ v ((start_carried t v 0).0 (on 0))); carried_on = on },
  )
