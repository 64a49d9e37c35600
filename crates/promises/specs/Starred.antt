-- The starred lines of paper 01, 'Rigs A, B, F', as one statement about the values of the definitions, with values for the requests of paper 02.
-- Assumes nothing.
use Rattle.std.specs.Prelude.{◌≡◌, List, [], ◌∷◌, ℕ, replicate}
use Rattle.promises.specs.Answer.{served, refused}
use Rattle.promises.specs.Rig.{start}
use Rattle.promises.specs.Calls.{count, scenarios, written, index, shuffle, shuffled}
use Rattle.promises.specs.Small.{small, small_output}
use Rattle.promises.specs.Forward.{forward}
use Rattle.promises.specs.Examples.{A, B, A_from_1, A_exchanged, two_starts, A_ordered, closes, one_unmarked, both_marked, may_close, gap_alone, reply_alone, unanswerable, meters, meters_table, no_difference, depot_hours, hours_table, always_open}

-- n numbers to lend
abbrev pub lent : ℕ → List ℕ
lent n = replicate n 7

pub record Starred : Type 0 where
  -- 'A, h 0: N 1. h 1: 2. h 2: 3. h 3: 5, passes 1.'
  pub a_0 : count A 0 (lent 8) ≡ served (1 ∷ 1 ∷ [])
  pub a_1 : count A 1 (lent 8) ≡ served (2 ∷ 1 ∷ [])
  pub a_2 : count A 2 (lent 8) ≡ served (3 ∷ 1 ∷ [])
  pub a_3 : count A 3 (lent 8) ≡ served (5 ∷ 1 ∷ [])
  -- 'A, h 3, indices 4 2 2: bytes 1 0 1 0 1 0 0 1 0.'
  pub a_listed : scenarios A 3 (4 ∷ 2 ∷ 2 ∷ []) (lent 8) (lent 9) ≡ served []
  pub a_bytes : written A 3 (4 ∷ 2 ∷ 2 ∷ []) (lent 8) (lent 9) ≡ 1 ∷ 0 ∷ 1 ∷ 0 ∷ 1 ∷ 0 ∷ 0 ∷ 1 ∷ 0 ∷ []
  -- 'A, sequence 1 0 1: index 4.'
  pub a_index : index A (1 ∷ 0 ∷ 1 ∷ []) (lent 8) ≡ served (4 ∷ [])
  -- 'B, h 1: N 1, passes 3. B, sequence 1: refusal 14, place 0.'
  pub b_1 : count B 1 (lent 8) ≡ served (1 ∷ 3 ∷ [])
  pub b_index : index B (1 ∷ []) (lent 8) ≡ refused 14 0
  -- 'Shuffle, n 5, draws 4 4 4: 4 0 1. n 0, no draws: nothing.'
  pub again_served : shuffle 5 (4 ∷ 4 ∷ 4 ∷ []) (lent 6) (lent 3) ≡ served []
  pub again : shuffled 5 (4 ∷ 4 ∷ 4 ∷ []) (lent 6) (lent 3) ≡ 4 ∷ 0 ∷ 1 ∷ []
  pub nothing_served : shuffle 0 [] [] [] ≡ served []
  pub nothing : shuffled 0 [] [] [] ≡ []
  -- 02 no. 1. A from its state 1 has what follows a 1 in A; so has the same rig with its states renumbered, from 0
  pub from_1 : count A_from_1 3 (lent 8) ≡ served (3 ∷ 1 ∷ [])
  pub from_1_bytes : written A_from_1 3 (2 ∷ 0 ∷ 1 ∷ []) (lent 8) (lent 9) ≡ 0 ∷ 1 ∷ 0 ∷ 0 ∷ 0 ∷ 0 ∷ 0 ∷ 0 ∷ 1 ∷ []
  pub from_1_index : index A_from_1 (0 ∷ 1 ∷ 0 ∷ []) (lent 8) ≡ served (2 ∷ [])
  pub from_1_not : index A_from_1 (1 ∷ 0 ∷ 1 ∷ []) (lent 8) ≡ refused 14 0
  pub exchanged : count A_exchanged 3 (lent 8) ≡ served (3 ∷ 1 ∷ [])
  -- 'the start joint state is made of these', 'the first monitor as its highest digit': state 1 of 2, and 2 of 3
  pub made_of_starts : start two_starts ≡ 5
  -- 02 no. 2. A with event 1 before event 0: as many scenarios, and those that begin with 1 come first
  pub ordered : count A_ordered 3 (lent 8) ≡ served (5 ∷ 1 ∷ [])
  pub ordered_bytes : written A_ordered 3 (0 ∷ 1 ∷ 4 ∷ []) (lent 8) (lent 9) ≡ 1 ∷ 0 ∷ 1 ∷ 1 ∷ 0 ∷ 0 ∷ 0 ∷ 0 ∷ 0 ∷ []
  pub ordered_index : index A_ordered (0 ∷ 1 ∷ 0 ∷ []) (lent 8) ≡ served (2 ∷ [])
  -- 02 no. 4. 'so 9 depends on the horizon'
  pub closes_0 : count closes 0 (lent 8) ≡ served (1 ∷ 1 ∷ [])
  pub closes_1 : count closes 1 (lent 8) ≡ served (1 ∷ 1 ∷ [])
  pub closes_2 : count closes 2 (lent 8) ≡ refused 9 0
  -- 'A joint state is stoppable if every monitor's state is marked.'
  pub both_1 : count both_marked 1 (lent 8) ≡ served (1 ∷ 2 ∷ [])
  pub one_1 : count one_unmarked 1 (lent 8) ≡ refused 9 0
  -- either event, then event 1 alone; 14 has the place of the first event to a state not live, though no scenario goes on after the event before it
  pub may_close_1 : count may_close 1 (lent 8) ≡ served (2 ∷ 2 ∷ [])
  pub may_close_2 : count may_close 2 (lent 12) ≡ served (1 ∷ 2 ∷ [])
  pub may_close_index : index may_close (0 ∷ 1 ∷ []) (lent 12) ≡ refused 14 1
  -- 02 no. 5. A `gap` on the only event: once, and then nothing more, though all its states are live
  pub gap_1 : count gap_alone 1 (lent 4) ≡ served (1 ∷ 1 ∷ [])
  pub gap_2 : count gap_alone 2 (lent 6) ≡ refused 9 0
  -- 'after a, some b comes lo to hi steps later'; 'an earlier b is admitted'; 'A reply still due at the horizon is no fault'
  pub reply_3 : count reply_alone 3 (lent 16) ≡ served (20 ∷ 1 ∷ [])
  pub reply_bytes : written reply_alone 3 (0 ∷ 1 ∷ 2 ∷ 3 ∷ []) (lent 16) (lent 12) ≡ 0 ∷ 1 ∷ 1 ∷ 0 ∷ 1 ∷ 2 ∷ 0 ∷ 2 ∷ 1 ∷ 0 ∷ 2 ∷ 2 ∷ []
  -- 'Until the first such b a further a isn't admitted', and after hi steps nothing but b
  pub reply_again : index reply_alone (0 ∷ 1 ∷ 0 ∷ []) (lent 16) ≡ refused 14 2
  pub reply_late : index reply_alone (0 ∷ 2 ∷ 2 ∷ 2 ∷ []) (lent 20) ≡ refused 14 3
  -- what both sentences admit and no reply can follow is not live
  pub unanswerable_2 : count unanswerable 2 (lent 36) ≡ served (1 ∷ 2 ∷ [])
  pub unanswerable_index : index unanswerable (1 ∷ 0 ∷ []) (lent 36) ≡ refused 14 1
  -- 02 no. 6. 'state j is the difference lo+j', so the start is −lo; every partial sum from −1 to 2
  pub meters_start : start meters ≡ 1
  pub meters_2 : count meters 2 (lent 12) ≡ served (7 ∷ 1 ∷ [])
  pub meters_bytes : written meters 2 (0 ∷ 1 ∷ 2 ∷ 3 ∷ []) (lent 12) (lent 8) ≡ 0 ∷ 1 ∷ 0 ∷ 2 ∷ 1 ∷ 0 ∷ 1 ∷ 2 ∷ []
  pub meters_index : index meters (2 ∷ 1 ∷ []) (lent 12) ≡ served (5 ∷ [])
  pub meters_above : index meters (0 ∷ 1 ∷ 0 ∷ []) (lent 16) ≡ refused 14 2
  -- so of the table that it replaces
  pub table_2 : count meters_table 2 (lent 12) ≡ served (7 ∷ 1 ∷ [])
  -- 'an event without one has step 0'
  pub no_difference_3 : count no_difference 3 (lent 4) ≡ served (1 ∷ 1 ∷ [])
  -- 02 no. 7. 'step 0 begins the scenario and the day repeats': event 0 at steps 0 and 2 of three
  pub hours_start : start depot_hours ≡ 0
  pub hours_4 : count depot_hours 4 (lent 15) ≡ served (8 ∷ 1 ∷ [])
  pub hours_bytes : written depot_hours 4 (0 ∷ 1 ∷ 6 ∷ []) (lent 15) (lent 12) ≡ 0 ∷ 1 ∷ 0 ∷ 0 ∷ 0 ∷ 1 ∷ 0 ∷ 1 ∷ 1 ∷ 1 ∷ 1 ∷ 0 ∷ []
  pub hours_index : index depot_hours (1 ∷ 1 ∷ 0 ∷ []) (lent 12) ≡ served (2 ∷ [])
  pub hours_closed : index depot_hours (0 ∷ 0 ∷ []) (lent 9) ≡ refused 14 1
  -- so of the table that it replaces
  pub hours_table_4 : count hours_table 4 (lent 15) ≡ served (8 ∷ 1 ∷ [])
  -- 'an event with none is always admitted'
  pub always_open_3 : count always_open 3 (lent 8) ≡ served (1 ∷ 1 ∷ [])
  -- 02 no. 8. '(⌊h/16⌋ + 16) × P cells': of A at h 3 that is 32, where Scenarios needs 8
  pub small_3 : small A 3 (4 ∷ 2 ∷ 2 ∷ []) (lent 32) (lent 9) ≡ served []
  pub small_bytes : small_output A 3 (4 ∷ 2 ∷ 2 ∷ []) (lent 32) (lent 9) ≡ 1 ∷ 0 ∷ 1 ∷ 0 ∷ 1 ∷ 0 ∷ 0 ∷ 1 ∷ 0 ∷ []
  pub small_short : small A 3 (4 ∷ 2 ∷ 2 ∷ []) (lent 31) (lent 9) ≡ refused 8 0
  -- a row more from h 16 on: 32 cells for 15 events, 34 for 16
  pub small_15 : small always_open 15 (0 ∷ []) (lent 32) (lent 15) ≡ served []
  pub small_16 : small always_open 16 (0 ∷ []) (lent 34) (lent 16) ≡ served []
  pub small_16_short : small always_open 16 (0 ∷ []) (lent 33) (lent 16) ≡ refused 8 0
  -- 02 no. 9. '2 × P cells instead of all rows': of A at h 3 that is 4, where Count needs 8
  pub forward_3 : forward A 3 (lent 4) ≡ served (5 ∷ 1 ∷ [])
  pub forward_short : forward A 3 (lent 3) ≡ refused 8 0
  -- 'refusals as Count does': 9, and 8 before it
  pub forward_none : forward closes 2 (lent 4) ≡ refused 9 0
  pub forward_none_short : forward closes 2 (lent 3) ≡ refused 8 0
