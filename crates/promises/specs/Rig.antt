-- The automaton that a text's lines describe: each monitor an automaton, all of them joined. What the answers are read from.
--   gap_next, reply_next, bal_next, day_next == where a `gap`, a `reply`, a `bal` and a `day` monitor move
--   admitted_at ps e s  == a `day` with the lines ps admits event e at step s
--   next_of k ps s e    == where a monitor of the kind k with the further lines ps moves from s on e; a number that is no state where it doesn't admit e
--   marked_of k ps s    == its state s is marked as one in which a run may stop
--   monitor_of es m     == the automaton of the monitor m, its events in the order es
--   standing es ms     == the monitors ms as automata, each in its start state
--   rig_automaton t     == the joint automaton of the text t
--   start t            == its start state
-- A new Kind is one clause of next_of and one of marked_of. Assumes nothing.
use Rattle.std.specs.Prelude.{Bool, true, not, ◌&&◌, ◌||◌, List, map, ℕ, suc, ◌+◌, ◌-◌, ◌%◌, ℤ, pos, nat_abs, ◌+ℤ◌, ◌-ℤ◌, eqb, leb}
use Rattle.std.proofs.Math.Option.{get_or}
use Rattle.lists.specs.Lists.{pick}
use Rattle.automaton.specs.Automaton.{Automaton, bounded}
use Rattle.automaton.specs.Joint.{At, joint, joint_state}
use Rattle.promises.specs.Meaning.{step_of}
use Rattle.promises.specs.Reading.{move_by, marked_by, has_hours, in_hours, outsideℤ}
use Rattle.promises.specs.Text.{Kind, mon, gap, reply, bal, day, Part, Line, Monitor, monitors, states_of, start_of, order_of, decoded}

-- 'The state of `gap` is the number of coming steps that bar e' (02 no. 5): on e it moves if none does, to the n − 1 steps that follow
unfoldable pub gap_next : ℕ → ℕ → ℕ → ℕ → ℕ
gap_next e n s u = pick (eqb u e) (pick (eqb s 0) (n - 1) n) (s - 1)

-- 'that of `reply` is 0 with nothing due, 1 just after a, and one more each step' (02 no. 5): in state s the coming event is s steps after a
unfoldable pub reply_next : ℕ → ℕ → ℕ → ℕ → ℕ → ℕ → ℕ
reply_next a b lo hi s u = pick (eqb s 0) (pick (eqb u a) 1 0) (pick (eqb u a) (hi + 1) (pick (eqb u b && leb lo s) 0 (s + 1)))

-- 'An event is admitted if the running difference stays from lo to hi'; 'state j is the difference lo+j' (02 no. 6): in state s an event of step d leads to the
-- difference x; hi−lo+1 is the number that is no state
unfoldable pub bal_next : ℤ → ℤ → ℤ → ℕ → ℕ
bal_next lo hi d s = let x = lo +ℤ pos s +ℤ d in pick (outsideℤ lo hi x) (nat_abs (hi -ℤ lo) + 1) (nat_abs (x -ℤ lo))

-- 'the day repeats' (02 no. 7): where the event is admitted the next step comes, after the last one step 0; T is the number that is no state
unfoldable pub day_next : ℕ → Bool → ℕ → ℕ
day_next T admitted s = pick admitted (suc s % T) T

-- 'Following `open`, e, a, b lines admit e'; 'an event with none is always admitted' (02 no. 7)
abbrev pub admitted_at : List Part → ℕ → ℕ → Bool
admitted_at ps e s = not (has_hours ps e) || in_hours ps e s

-- '`mon`, S: a new monitor with states 0 to S−1'; S itself is the number that is no state. 'Without such a line it doesn't admit e in s.'
unfoldable pub next_of : Kind → List Part → ℕ → ℕ → ℕ
next_of (mon S a) ps s e = get_or (move_by ps s e) S
next_of (gap e n) ps s u = gap_next e n s u
next_of (reply a b lo hi) ps s u = reply_next a b lo hi s u
next_of (bal lo hi) ps s u = bal_next lo hi (step_of ps u) s
next_of (day T) ps s u = day_next T (admitted_at ps u s) s

-- 'A line `stop`, s marks a state of the latest monitor.' (02 no. 4) 'All `gap` states are marked `stop`, of `reply` only state 0.' (02 no. 5) Of
-- `bal`, 'all marked `stop`' (02 no. 6); of `day`, 'All T states' (02 no. 7)
unfoldable pub marked_of : Kind → List Part → ℕ → Bool
marked_of (mon S a) ps s = marked_by ps s
marked_of (gap e n) ps s = true
marked_of (reply a b lo hi) ps s = eqb s 0
marked_of (bal lo hi) ps s = true
marked_of (day T) ps s = true

-- what the kind says, of its states and of the events es alone
unfoldable pub monitor_of : List ℕ → Monitor → Automaton
monitor_of es m = bounded (record {
  states = states_of m.kind;
  events = es;
  next = next_of m.kind m.parts;
  stop = marked_of m.kind m.parts;
})

unfoldable pub standing : List ℕ → List Monitor → List At
standing es ms = map (λ m. record { of = monitor_of es m; state = start_of m.kind }) ms

unfoldable pub lines_automaton : List Line → Automaton
lines_automaton ls = joint (order_of ls) (standing (order_of ls) (monitors ls))

unfoldable pub lines_start : List Line → ℕ
lines_start ls = joint_state (standing (order_of ls) (monitors ls))

unfoldable pub rig_automaton : List ℕ → Automaton
rig_automaton t = lines_automaton (decoded t)

unfoldable pub start : List ℕ → ℕ
start t = lines_start (decoded t)
