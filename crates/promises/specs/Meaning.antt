-- What a readable rig's lines say of sequences of events: the words of demand 3. No cell, set, count or record is named here.
--   Stands e w i        == event e stands at place i of w, places counted from 0
--   Leads ps s w u      == by the `go` lines of ps, w leads from the state s to the state u
--   Apart e n w         == the sentence of `gap`, e, n
--   Barred e s w        == the first s places of w are without e
--   Answered .. s w     == w being what follows from s steps after an a on, that a has its reply in w
--   StillDue .. s w     == it has none, and may have one after w
--   Replied .. w        == the sentence of `reply`, a, b, lo, hi: every a of w has its reply, or it is still due
--   NoneDue .. w        == every a of w has its reply
--   step_by ps e         == the step that the first `amp` line of ps that does so gives event e
--   step_of ps e         == the step of event e by the lines ps
--   sum_of d w           == the steps d of the events of w, together
--   InBand lo hi x      == the difference x is from lo to hi
--   Balanced lo hi d x w == the sentence of `bal`, lo, hi with the steps d: from the difference x on, every partial sum is from lo to hi
--   HasHours ps e       == event e has `open` lines among ps
--   InHours ps e s      == one of them has the step s of the day in its hours
--   OnTime T ps s w     == the sentence of `day`, T with the lines ps: from the step s on, each event of w with `open` lines stands inside its hours
--   Says k ps s w       == what a monitor of the kind k with the further lines ps says of w in state s
--   Ends k ps s w       == what it says of w as a sequence to stop after
--   Admits m s w        == the monitor m, in state s, admits the sequence w
--   MayStop m s w       == w leads the monitor m from s to a state that is marked
--   BelowE t w          == w is made of events of the text t
--   AllAdmit t w        == so it is, and every monitor of t admits it from its start state
--   AllMayStop t w      == w leads from the start to a stoppable joint state
--   CarriedOn t w k     == w can be carried on by k events, or by fewer to a stoppable state
--   Belongs t h w       == w has h events, every monitor admits it, and it can be so carried on by any further number of events
--   JointState ms xs    == xs is a joint state of the monitors ms: a state of each, in their order
--   starts_of ms         == the one that they start in
--   Every P ms xs w     == P holds of each monitor, of its state in xs and of w
--   AllAdmitFrom t xs w, AllMayStopFrom t xs w, CarriedOnFrom t xs w k == the same as AllAdmit, AllMayStop and CarriedOn, from the joint state xs
--   Departure t w       == there is no joint state from which every monitor admits w and it can then be so carried on
--   Earlier ls a b      == the lines ls put event a before event b
--   Comes t v w         == v comes before w in the order of their events
-- In its start state a monitor says the paper's sentence; in the other states it says what is left of it after an earlier part. A new Kind is one clause of
-- Says and one of Ends. Assumes nothing.
use Rattle.std.specs.Prelude.{◌≡◌, ◌⊎◌, ℕ, zero, suc, ◌+◌, ◌%◌, ◌≤◌, ◌<◌, ℤ, pos, ◌+ℤ◌, ◌≤ℤ◌, length, take, drop, eqb}
use mathlib.Core.List.{List, [], ◌∷◌, ◌++◌, map, Memᴰ as In}
use Rattle.std.proofs.Math.Option.{Option, none, some, get_or}
use Rattle.lists.specs.Lists.{pick, index_of, first_of}
use Rattle.promises.specs.Text.{Kind, mon, gap, reply, bal, day, Part, go, stop, amp, opens, Line, Monitor, monitors, states_of, start_of, events_of, order_of, decoded}

unfoldable pub Stands : ℕ → List ℕ → ℕ → Type 0
Stands e [] i = ⊥
Stands e (u ∷ w) zero = u ≡ e
Stands e (u ∷ w) (suc i) = Stands e w i

-- ---- `mon`

-- '`go`, s, e, t: the latest monitor moves from s to t on event e. Without such a line it doesn't admit e in s.'
unfoldable pub Leads : List Part → ℕ → List ℕ → ℕ → Type 0
Leads ps s [] u = s ≡ u
Leads ps s (e ∷ w) u = (t : ℕ) × In (go s e t) ps × Leads ps t w u

-- ---- `gap` (02 no. 5)

-- 'two occurrences of e are at least n steps apart'
unfoldable pub Apart : ℕ → ℕ → List ℕ → Type 0
Apart e n w = (i j : ℕ) → i < j → Stands e w i → Stands e w j → i + n ≤ j

-- 'The state of `gap` is the number of coming steps that bar e'
unfoldable pub Barred : ℕ → ℕ → List ℕ → Type 0
Barred e s w = (i : ℕ) → i < s → ¬ Stands e w i

-- ---- `reply` (02 no. 5)

module _ (a b lo hi : ℕ) where
  -- 'some b comes lo to hi steps later .. Until the first such b a further a isn't admitted; an earlier b is admitted and settles nothing.'
  unfoldable pub Answered : ℕ → List ℕ → Type 0
  Answered s w = (j : ℕ) × (lo ≤ s + j) × (s + j ≤ hi) × Stands b w j × ((k : ℕ) → k < j → ¬ Stands a w k)

  -- 'A reply still due at the horizon is no fault': the event after w would come in time
  unfoldable pub StillDue : ℕ → List ℕ → Type 0
  StillDue s w = (s + length w ≤ hi) × ((k : ℕ) → ¬ Stands a w k)

  -- 'after a', wherever one stands: the event after it comes 1 step later
  unfoldable pub Replied : List ℕ → Type 0
  Replied w = (i : ℕ) → Stands a w i → Answered 1 (drop (suc i) w) ⊎ StillDue 1 (drop (suc i) w)

  unfoldable pub NoneDue : List ℕ → Type 0
  NoneDue w = (i : ℕ) → Stands a w i → Answered 1 (drop (suc i) w)

-- ---- `bal` (02 no. 6)

-- 'Each following `amp`, e, d line gives event e a signed step d'
unfoldable pub step_in : ℕ → Part → Option ℤ
step_in e (go a b c) = none
step_in e (stop a) = none
step_in e (amp f d) = pick (eqb f e) (some d) none
step_in e (opens f a b) = none

abbrev pub step_by : List Part → ℕ → Option ℤ
step_by ps e = first_of (step_in e) ps

-- 'an event without one has step 0'
unfoldable pub step_of : List Part → ℕ → ℤ
step_of ps e = get_or (step_by ps e) (pos 0)

unfoldable pub sum_of : (ℕ → ℤ) → List ℕ → ℤ
sum_of d [] = pos 0
sum_of d (e ∷ w) = d e +ℤ sum_of d w

abbrev pub InBand : ℤ → ℤ → ℤ → Type 0
InBand lo hi x = (lo ≤ℤ x) × (x ≤ℤ hi)

-- 'An event is admitted if the running difference stays from lo to hi'; 'every partial sum', that of no event included
unfoldable pub Balanced : ℤ → ℤ → (ℕ → ℤ) → ℤ → List ℕ → Type 0
Balanced lo hi d x w = (k : ℕ) → k ≤ length w → InBand lo hi (x +ℤ sum_of d (take k w))

-- ---- `day` (02 no. 7)

-- 'each event with `open` lines'
unfoldable pub HasHours : List Part → ℕ → Type 0
HasHours ps e = (a : ℕ) × (b : ℕ) × In (opens e a b) ps

-- '`open`, e, a, b lines admit e at steps a up to but not including b'; 'Several lines add up'
unfoldable pub InHours : List Part → ℕ → ℕ → Type 0
InHours ps e s = (a : ℕ) × (b : ℕ) × In (opens e a b) ps × (a ≤ s) × (s < b)

-- 'each event with `open` lines stands inside its hours, by its place from 0 modulo T'; 'an event with none is always admitted'
unfoldable pub OnTime : ℕ → List Part → ℕ → List ℕ → Type 0
OnTime T ps s w = (i e : ℕ) → Stands e w i → HasHours ps e → InHours ps e ((s + i) % T)

-- ---- a monitor

-- 'A user reading the sentence gets what the third demand says of monitors.' The state of `reply` 'is 0 with nothing due, 1 just after a, and one more each
-- step' (02 no. 5); of `bal`, 'state j is the difference lo+j' (02 no. 6); of `day`, the states 'are the steps of the day' (02 no. 7)
unfoldable pub Says : Kind → List Part → ℕ → List ℕ → Type 0
Says (mon S a) ps s w = (u : ℕ) × Leads ps s w u
Says (gap e n) ps s w = Barred e s w × Apart e n w
Says (reply a b lo hi) ps s w = (0 < s → Answered a b lo hi s w ⊎ StillDue a b lo hi s w) × Replied a b lo hi w
Says (bal lo hi) ps s w = Balanced lo hi (step_of ps) (lo +ℤ pos s) w
Says (day T) ps s w = OnTime T ps s w

-- 'A line `stop`, s marks a state of the latest monitor.' (02 no. 4) 'All `gap` states are marked `stop`, of `reply` only state 0.' (02 no. 5) Of `bal`, 'all
-- marked `stop`' (02 no. 6); of `day`, 'All T states' (02 no. 7)
unfoldable pub Ends : Kind → List Part → ℕ → List ℕ → Type 0
Ends (mon S a) ps s w = (u : ℕ) × Leads ps s w u × In (stop u) ps
Ends (gap e n) ps s w = Unit {0}
Ends (reply a b lo hi) ps s w = (0 < s → Answered a b lo hi s w) × NoneDue a b lo hi w
Ends (bal lo hi) ps s w = Unit {0}
Ends (day T) ps s w = Unit {0}

-- 'A monitor admits a sequence if, from its start state, it admits each event in the state that the events before it led to.'
unfoldable pub Admits : Monitor → ℕ → List ℕ → Type 0
Admits m s w = Says m.kind m.parts s w

unfoldable pub MayStop : Monitor → ℕ → List ℕ → Type 0
MayStop m s w = Ends m.kind m.parts s w

-- ---- the rig

-- 'Events are 0 to E−1'
unfoldable pub BelowE : List ℕ → List ℕ → Type 0
BelowE t w = (e : ℕ) → In e w → e < events_of (decoded t)

pub record AllAdmit (t w : List ℕ) : Type 0 where
  pub events : BelowE t w
  pub each : (m : Monitor) → In m (monitors (decoded t)) → Admits m (start_of m.kind) w

-- 'A joint state is stoppable if every monitor's state is marked.' (02 no. 4)
unfoldable pub AllMayStop : List ℕ → List ℕ → Type 0
AllMayStop t w = (m : Monitor) → In m (monitors (decoded t)) → MayStop m (start_of m.kind) w

-- 'some k events can be put after it so that every monitor admits the whole'; 'it can be carried on by k events, or by fewer, none included, to a stoppable
-- state' (02 no. 4)
unfoldable pub CarriedOn : List ℕ → List ℕ → ℕ → Type 0
CarriedOn t w k = (v : List ℕ) × AllAdmit t (w ++ v) × ((length v ≡ k) ⊎ ((length v < k) × AllMayStop t (w ++ v)))

-- 'for every k'; 'the third demand's 'carried on by any further number of events' .. read so from now on' (02 no. 4)
pub record Belongs (t : List ℕ) (h : ℕ) (w : List ℕ) : Type 0 where
  pub long : length w ≡ h
  pub admitted : AllAdmit t w
  pub carried_on : (k : ℕ) → CarriedOn t w k

-- ---- from any joint state (02 no. 13)

unfoldable pub JointState : List Monitor → List ℕ → Type 0
JointState [] [] = Unit {0}
JointState [] (x ∷ xs) = ⊥
JointState (m ∷ ms) [] = ⊥
JointState (m ∷ ms) (x ∷ xs) = (x < states_of m.kind) × JointState ms xs

unfoldable pub starts_of : List Monitor → List ℕ
starts_of ms = map (λ m. start_of m.kind) ms

unfoldable pub Every : (Monitor → ℕ → List ℕ → Type 0) → List Monitor → List ℕ → List ℕ → Type 0
Every P [] xs w = Unit {0}
Every P (m ∷ ms) [] w = ⊥
Every P (m ∷ ms) (x ∷ xs) w = P m x w × Every P ms xs w

-- 'from which every monitor admits it'
pub record AllAdmitFrom (t xs w : List ℕ) : Type 0 where
  pub events : BelowE t w
  pub each : Every Admits (monitors (decoded t)) xs w

unfoldable pub AllMayStopFrom : List ℕ → List ℕ → List ℕ → Type 0
AllMayStopFrom t xs w = Every MayStop (monitors (decoded t)) xs w

-- 'carried on as the third demand now says'
unfoldable pub CarriedOnFrom : List ℕ → List ℕ → List ℕ → ℕ → Type 0
CarriedOnFrom t xs w k = (v : List ℕ) × AllAdmitFrom t xs (w ++ v) × ((length v ≡ k) ⊎ ((length v < k) × AllMayStopFrom t xs (w ++ v)))

-- 'a window for which there is no joint state from which every monitor admits it and it can then be carried on as the third demand now says'
unfoldable pub Departure : List ℕ → List ℕ → Type 0
Departure t w = (xs : List ℕ) → JointState (monitors (decoded t)) xs → AllAdmitFrom t xs w → ((k : ℕ) → CarriedOnFrom t xs w k) → ⊥

-- ---- the order

-- `ord` 'replaces 'lower first' in comparing two events; without it 01's order holds' (02 no. 2): both are a list of the events, first to last
unfoldable pub Earlier : List Line → ℕ → ℕ → Type 0
Earlier ls a b = index_of (order_of ls) a < index_of (order_of ls) b

-- 'Order is by the first differing event'
unfoldable pub Comes : List ℕ → List ℕ → List ℕ → Type 0
Comes t [] w = ⊥
Comes t (a ∷ v) [] = ⊥
Comes t (a ∷ v) (b ∷ w) = Earlier (decoded t) a b ⊎ ((a ≡ b) × Comes t v w)
