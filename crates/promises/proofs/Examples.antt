-- The words of demand 3 are not empty.
-- Why: reading computes on each text, and reading agrees with the words. Assumes nothing.
use mathlib.Core.Option.{or_else}
use mathlib.Core.Path.{◌≡◌, refl, subst}
use mathlib.Core.Logic.{inl, inr}
use mathlib.Core.List.{List, [], ◌∷◌}
use Prim.Native.Nat.{ℕ, ◌<◌}
use native.Mathlib.Omega.{arith}
use lib.ListN.{length, length-replicate}
use Rattle.lists.specs.Lists.{range, index_of, first_of}
use Rattle.lists.proofs.Distinct.{in_place}
use Rattle.automaton.specs.Automaton.{bounded}
use Rattle.automaton.specs.Joint.{both, join, idle, joint, sizes, joint_state}
use Rattle.automaton.specs.Pruning.{keep, pruned_set, size, passes_from, passes, live}
use Rattle.automaton.specs.Counting.{N}
use Rattle.automaton.specs.Ranking.{choose, unrank, first_violation}
use Rattle.automaton.proofs.Counting.{scenarios_length, scenarios_sound, stays_live, stays_events}
use Rattle.automaton.proofs.Ranking.{index_belongs, first_violation_none}
use Rattle.promises.specs.Text.{onto, split_on, init, last_of, lines, unended, fields, digits_value, number, ahead, numbers, same, field, end_or, end, one, two, three, four, one_or_two, any_number, form, decode, decoded, add_part, extended, monitors_from, monitors, states_of, start_of, latest, product, events_of, reordered, order_from, order_of, Readable, Fault, Case1, signed, minus, plus, one_signed, two_signed, then_signed}
use Rattle.promises.specs.Answer.{served, refused, Served}
use Rattle.promises.specs.Meaning.{Belongs, Earlier, Comes, step_in, step_of}
use Rattle.promises.specs.Reading.{leads_to, marks, opens_by, test_beginning, of_latest, test_continuing, tests, line_case, reading_from, reading}
use Rattle.promises.specs.Rig.{gap_next, reply_next, next_of, marked_of, monitor_of, standing, lines_automaton, lines_start, rig_automaton, start, bal_next, day_next}
use Rattle.promises.specs.Examples.{A, B, A_from_1, A_exchanged, most_events, most_joint_states, Words, closes, one_unmarked, both_marked, may_close, gap_alone, reply_alone, unanswerable, four_kinds, widest_kinds, gap_without_n, field_after_n, reply_without_hi, field_after_hi, gap_first, gap_1, gap_33, gap_no_event, reply_to_no_event, reply_no_event, reply_lo_0, reply_hi_32, reply_lo_over_hi, reply_equal, equal_and_too_many, equal_and_fifth, gap_too_many, go_after_gap, stop_after_reply, stop_without_state, field_after_stop, stop_before_mon, stop_S, stop_again, start_S, field_after_start, empty_start, A_ordered, ord_too_short, ord_not_below, ord_twice, ord_third, ord_first, ord_no_number, ord_alone, mon_without_S, last_line_unended, leading_zero, six_digits, empty_field, seventeen_events, five_digits, fifth_monitor, go_again_out_of_range, go_again, nothing, rig_alone, rig_later, go_before_mon, too_many_joint_states, meters, meters_table, no_difference, widest_band, bal_without_hi, field_after_band, amp_without_step, minus_zero, two_signs, plus_sign, sign_and_zero, lone_sign, negative_event, negative_n, six_signed_digits, five_signed_digits, lo_16, lo_1, hi_16, hi_below_0, step_16, step_below, step_of_no_event, given_twice, given_zero_twice, amp_first, amp_after_mon, go_after_bal, stop_after_bal, bal_too_many, depot_hours, hours_table, always_open, longest_day, day_without_T, field_after_T, open_without_b, field_after_b, negative_step, day_1, day_33, fifth_day, b_over_T, hours_of_no_event, a_is_b, a_over_b, open_first, open_after_mon, open_after_bal, go_after_day, stop_after_day, amp_after_day, day_too_many}
use Rattle.promises.proofs.Reading.{reading_refuses, reading-serves}
use Rattle.promises.proofs.Meaning.{text_belongs}
use Rattle.promises.proofs.Answers.{belongs_listed}

record Readings : Type 0 where
  of_A : reading A ≡ served []
  of_B : reading B ≡ served []
  of_A_from_1 : reading A_from_1 ≡ served []
  of_A_exchanged : reading A_exchanged ≡ served []
  of_A_ordered : reading A_ordered ≡ served []
  of_closes : reading closes ≡ served []
  of_one_unmarked : reading one_unmarked ≡ served []
  of_both_marked : reading both_marked ≡ served []
  of_may_close : reading may_close ≡ served []
  of_gap_alone : reading gap_alone ≡ served []
  of_reply_alone : reading reply_alone ≡ served []
  of_unanswerable : reading unanswerable ≡ served []
  of_four_kinds : reading four_kinds ≡ served []
  of_widest_kinds : reading widest_kinds ≡ served []
  of_meters : reading meters ≡ served []
  of_meters_table : reading meters_table ≡ served []
  of_no_difference : reading no_difference ≡ served []
  of_widest_band : reading widest_band ≡ served []
  of_bal_without_hi : reading bal_without_hi ≡ refused 2 2
  of_field_after_band : reading field_after_band ≡ refused 2 2
  of_amp_without_step : reading amp_without_step ≡ refused 2 3
  of_minus_zero : reading minus_zero ≡ refused 2 2
  of_two_signs : reading two_signs ≡ refused 2 2
  of_plus_sign : reading plus_sign ≡ refused 2 2
  of_sign_and_zero : reading sign_and_zero ≡ refused 2 2
  of_lone_sign : reading lone_sign ≡ refused 2 2
  of_negative_event : reading negative_event ≡ refused 2 3
  of_negative_n : reading negative_n ≡ refused 2 2
  of_six_signed_digits : reading six_signed_digits ≡ refused 2 2
  of_five_signed_digits : reading five_signed_digits ≡ refused 3 2
  of_lo_16 : reading lo_16 ≡ refused 3 2
  of_lo_1 : reading lo_1 ≡ refused 3 2
  of_hi_16 : reading hi_16 ≡ refused 3 2
  of_hi_below_0 : reading hi_below_0 ≡ refused 3 2
  of_step_16 : reading step_16 ≡ refused 3 3
  of_step_below : reading step_below ≡ refused 3 3
  of_step_of_no_event : reading step_of_no_event ≡ refused 3 3
  of_given_twice : reading given_twice ≡ refused 4 4
  of_given_zero_twice : reading given_zero_twice ≡ refused 4 4
  of_amp_first : reading amp_first ≡ refused 5 2
  of_amp_after_mon : reading amp_after_mon ≡ refused 5 4
  of_go_after_bal : reading go_after_bal ≡ refused 5 3
  of_stop_after_bal : reading stop_after_bal ≡ refused 5 3
  of_bal_too_many : reading bal_too_many ≡ refused 6 4
  of_depot_hours : reading depot_hours ≡ served []
  of_hours_table : reading hours_table ≡ served []
  of_always_open : reading always_open ≡ served []
  of_longest_day : reading longest_day ≡ served []
  of_day_without_T : reading day_without_T ≡ refused 2 2
  of_field_after_T : reading field_after_T ≡ refused 2 2
  of_open_without_b : reading open_without_b ≡ refused 2 3
  of_field_after_b : reading field_after_b ≡ refused 2 3
  of_negative_step : reading negative_step ≡ refused 2 3
  of_day_1 : reading day_1 ≡ refused 3 2
  of_day_33 : reading day_33 ≡ refused 3 2
  of_fifth_day : reading fifth_day ≡ refused 3 6
  of_b_over_T : reading b_over_T ≡ refused 3 3
  of_hours_of_no_event : reading hours_of_no_event ≡ refused 3 3
  of_a_is_b : reading a_is_b ≡ refused 18 3
  of_a_over_b : reading a_over_b ≡ refused 18 3
  of_open_first : reading open_first ≡ refused 5 2
  of_open_after_mon : reading open_after_mon ≡ refused 5 4
  of_open_after_bal : reading open_after_bal ≡ refused 5 3
  of_go_after_day : reading go_after_day ≡ refused 5 3
  of_stop_after_day : reading stop_after_day ≡ refused 5 3
  of_amp_after_day : reading amp_after_day ≡ refused 5 3
  of_day_too_many : reading day_too_many ≡ refused 6 4
  of_gap_without_n : reading gap_without_n ≡ refused 2 2
  of_field_after_n : reading field_after_n ≡ refused 2 2
  of_reply_without_hi : reading reply_without_hi ≡ refused 2 2
  of_field_after_hi : reading field_after_hi ≡ refused 2 2
  of_gap_first : reading gap_first ≡ refused 5 1
  of_gap_1 : reading gap_1 ≡ refused 3 2
  of_gap_33 : reading gap_33 ≡ refused 3 2
  of_gap_no_event : reading gap_no_event ≡ refused 3 2
  of_reply_to_no_event : reading reply_to_no_event ≡ refused 3 2
  of_reply_no_event : reading reply_no_event ≡ refused 3 2
  of_reply_lo_0 : reading reply_lo_0 ≡ refused 3 2
  of_reply_hi_32 : reading reply_hi_32 ≡ refused 3 2
  of_reply_lo_over_hi : reading reply_lo_over_hi ≡ refused 3 2
  of_reply_equal : reading reply_equal ≡ refused 17 2
  of_equal_and_too_many : reading equal_and_too_many ≡ refused 17 4
  of_equal_and_fifth : reading equal_and_fifth ≡ refused 3 6
  of_gap_too_many : reading gap_too_many ≡ refused 6 4
  of_go_after_gap : reading go_after_gap ≡ refused 5 4
  of_stop_after_reply : reading stop_after_reply ≡ refused 5 3
  of_stop_without_state : reading stop_without_state ≡ refused 2 3
  of_field_after_stop : reading field_after_stop ≡ refused 2 3
  of_stop_before_mon : reading stop_before_mon ≡ refused 5 2
  of_stop_S : reading stop_S ≡ refused 3 3
  of_stop_again : reading stop_again ≡ refused 4 5
  of_most_events : reading most_events ≡ served []
  of_most_joint_states : reading most_joint_states ≡ served []
  of_start_S : reading start_S ≡ refused 3 2
  of_field_after_start : reading field_after_start ≡ refused 2 2
  of_empty_start : reading empty_start ≡ refused 2 2
  of_ord_too_short : reading ord_too_short ≡ refused 2 2
  of_ord_not_below : reading ord_not_below ≡ refused 3 2
  of_ord_twice : reading ord_twice ≡ refused 16 2
  of_ord_third : reading ord_third ≡ refused 5 3
  of_ord_first : reading ord_first ≡ refused 5 1
  of_ord_no_number : reading ord_no_number ≡ refused 2 1
  of_ord_alone : reading ord_alone ≡ refused 5 3
  of_mon_without_S : reading mon_without_S ≡ refused 2 2
  of_last_line_unended : reading last_line_unended ≡ refused 2 2
  of_leading_zero : reading leading_zero ≡ refused 2 1
  of_six_digits : reading six_digits ≡ refused 2 1
  of_empty_field : reading empty_field ≡ refused 2 1
  of_seventeen_events : reading seventeen_events ≡ refused 3 1
  of_five_digits : reading five_digits ≡ refused 3 1
  of_fifth_monitor : reading fifth_monitor ≡ refused 3 6
  of_go_again_out_of_range : reading go_again_out_of_range ≡ refused 3 4
  of_go_again : reading go_again ≡ refused 4 4
  of_nothing : reading nothing ≡ refused 5 1
  of_rig_alone : reading rig_alone ≡ refused 5 2
  of_rig_later : reading rig_later ≡ refused 5 2
  of_go_before_mon : reading go_before_mon ≡ refused 5 2
  of_too_many_joint_states : reading too_many_joint_states ≡ refused 6 4

readings : Readings
unfolding reading reading_from line_case tests test_beginning test_continuing of_latest first_of leads_to step_in marks or_else decoded lines unended split_on onto init last_of decode fields form one two three four one_or_two any_number field end_or end number numbers ahead digits_value signed minus plus one_signed two_signed then_signed same monitors monitors_from extended add_part latest states_of product events_of order_of order_from reordered
readings = record {
  of_A = refl;
  of_B = refl;
  of_A_from_1 = refl;
  of_A_exchanged = refl;
  of_A_ordered = refl;
  of_closes = refl;
  of_one_unmarked = refl;
  of_both_marked = refl;
  of_may_close = refl;
  of_gap_alone = refl;
  of_reply_alone = refl;
  of_unanswerable = refl;
  of_four_kinds = refl;
  of_widest_kinds = refl;
  of_meters = refl;
  of_meters_table = refl;
  of_no_difference = refl;
  of_widest_band = refl;
  of_bal_without_hi = refl;
  of_field_after_band = refl;
  of_amp_without_step = refl;
  of_minus_zero = refl;
  of_two_signs = refl;
  of_plus_sign = refl;
  of_sign_and_zero = refl;
  of_lone_sign = refl;
  of_negative_event = refl;
  of_negative_n = refl;
  of_six_signed_digits = refl;
  of_five_signed_digits = refl;
  of_lo_16 = refl;
  of_lo_1 = refl;
  of_hi_16 = refl;
  of_hi_below_0 = refl;
  of_step_16 = refl;
  of_step_below = refl;
  of_step_of_no_event = refl;
  of_given_twice = refl;
  of_given_zero_twice = refl;
  of_amp_first = refl;
  of_amp_after_mon = refl;
  of_go_after_bal = refl;
  of_stop_after_bal = refl;
  of_bal_too_many = refl;
  of_depot_hours = refl;
  of_hours_table = refl;
  of_always_open = refl;
  of_longest_day = refl;
  of_day_without_T = refl;
  of_field_after_T = refl;
  of_open_without_b = refl;
  of_field_after_b = refl;
  of_negative_step = refl;
  of_day_1 = refl;
  of_day_33 = refl;
  of_fifth_day = refl;
  of_b_over_T = refl;
  of_hours_of_no_event = refl;
  of_a_is_b = refl;
  of_a_over_b = refl;
  of_open_first = refl;
  of_open_after_mon = refl;
  of_open_after_bal = refl;
  of_go_after_day = refl;
  of_stop_after_day = refl;
  of_amp_after_day = refl;
  of_day_too_many = refl;
  of_gap_without_n = refl;
  of_field_after_n = refl;
  of_reply_without_hi = refl;
  of_field_after_hi = refl;
  of_gap_first = refl;
  of_gap_1 = refl;
  of_gap_33 = refl;
  of_gap_no_event = refl;
  of_reply_to_no_event = refl;
  of_reply_no_event = refl;
  of_reply_lo_0 = refl;
  of_reply_hi_32 = refl;
  of_reply_lo_over_hi = refl;
  of_reply_equal = refl;
  of_equal_and_too_many = refl;
  of_equal_and_fifth = refl;
  of_gap_too_many = refl;
  of_go_after_gap = refl;
  of_stop_after_reply = refl;
  of_stop_without_state = refl;
  of_field_after_stop = refl;
  of_stop_before_mon = refl;
  of_stop_S = refl;
  of_stop_again = refl;
  of_most_events = refl;
  of_most_joint_states = refl;
  of_start_S = refl;
  of_field_after_start = refl;
  of_empty_start = refl;
  of_ord_too_short = refl;
  of_ord_not_below = refl;
  of_ord_twice = refl;
  of_ord_third = refl;
  of_ord_first = refl;
  of_ord_no_number = refl;
  of_ord_alone = refl;
  of_mon_without_S = refl;
  of_last_line_unended = refl;
  of_leading_zero = refl;
  of_six_digits = refl;
  of_empty_field = refl;
  of_seventeen_events = refl;
  of_five_digits = refl;
  of_fifth_monitor = refl;
  of_go_again_out_of_range = refl;
  of_go_again = refl;
  of_nothing = refl;
  of_rig_alone = refl;
  of_rig_later = refl;
  of_go_before_mon = refl;
  of_too_many_joint_states = refl;
}

readable : (t : List ℕ) → reading t ≡ served [] → Readable t
unfolding Served
readable t q = (reading-serves t).0 ([], q)

-- index 4 of A at horizon 3, and where 0 1 1 leaves the live states; from state 1, index 0 at horizon 1, and where 1 leaves them
record Scenarios_A : Type 0 where
  four_below : 4 < N (rig_automaton A) 3 (start A)
  four_is : unrank (rig_automaton A) 3 (start A) 4 ≡ 1 ∷ 0 ∷ 1 ∷ []
  leaves_at : first_violation (rig_automaton A) (start A) (0 ∷ 1 ∷ 1 ∷ []) ≡ 2
  zero_below : 0 < N (rig_automaton A_from_1) 1 (start A_from_1)
  zero_is : unrank (rig_automaton A_from_1) 1 (start A_from_1) 0 ≡ 0 ∷ []
  leaves_at_once : first_violation (rig_automaton A_from_1) (start A_from_1) (1 ∷ []) ≡ 0

scenarios-A : Scenarios_A
unfolding decoded lines unended split_on onto init last_of decode fields form one two three four one_or_two any_number field end_or end number numbers ahead digits_value signed minus plus one_signed two_signed then_signed same monitors monitors_from extended add_part latest states_of product events_of order_of order_from reordered start_of first_of leads_to step_in marks or_else gap_next reply_next bal_next step_of opens_by day_next next_of marked_of bounded monitor_of standing lines_automaton lines_start rig_automaton start range both join idle joint sizes joint_state keep pruned_set size passes_from passes live N choose unrank first_violation
scenarios-A = record { four_below = omega arith; four_is = refl; leaves_at = refl; zero_below = omega arith; zero_is = refl; leaves_at_once = refl }

-- where the depot closes, and where it may: index 0 at horizon 1, and where what follows it leaves the live states; two monitors, with both states marked and with one
record Closing : Type 0 where
  only_below : 0 < N (rig_automaton closes) 1 (start closes)
  only_is : unrank (rig_automaton closes) 1 (start closes) 0 ≡ 0 ∷ []
  none_then : N (rig_automaton closes) 2 (start closes) ≡ 0
  last_below : 0 < N (rig_automaton may_close) 1 (start may_close)
  last_is : unrank (rig_automaton may_close) 1 (start may_close) 0 ≡ 0 ∷ []
  leaves_then : first_violation (rig_automaton may_close) (start may_close) (0 ∷ 1 ∷ []) ≡ 1
  both_below : 0 < N (rig_automaton both_marked) 1 (start both_marked)
  both_is : unrank (rig_automaton both_marked) 1 (start both_marked) 0 ≡ 0 ∷ []
  one_leaves : first_violation (rig_automaton one_unmarked) (start one_unmarked) (0 ∷ []) ≡ 0

closing : Closing
unfolding decoded lines unended split_on onto init last_of decode fields form one two three four one_or_two any_number field end_or end number numbers ahead digits_value signed minus plus one_signed two_signed then_signed same monitors monitors_from extended add_part latest states_of product events_of order_of order_from reordered start_of first_of leads_to step_in marks or_else gap_next reply_next bal_next step_of opens_by day_next next_of marked_of bounded monitor_of standing lines_automaton lines_start rig_automaton start range both join idle joint sizes joint_state keep pruned_set size passes_from passes live N choose unrank first_violation
closing = record { only_below = omega arith; only_is = refl; none_then = refl; last_below = omega arith; last_is = refl; leaves_then = refl; both_below = omega arith; both_is = refl; one_leaves = refl }

-- a difference that stays in the band, and where it leaves it
record Balancing : Type 0 where
  inside_below : 2 < N (rig_automaton meters) 2 (start meters)
  inside_is : unrank (rig_automaton meters) 2 (start meters) 2 ≡ 1 ∷ 0 ∷ []
  below_leaves : first_violation (rig_automaton meters) (start meters) (1 ∷ 1 ∷ []) ≡ 1
  above_leaves : first_violation (rig_automaton meters) (start meters) (0 ∷ 0 ∷ []) ≡ 1

balancing : Balancing
unfolding decoded lines unended split_on onto init last_of decode fields form one two three four one_or_two any_number field end_or end number numbers ahead digits_value signed minus plus one_signed two_signed then_signed same monitors monitors_from extended add_part latest states_of product events_of order_of order_from reordered start_of first_of leads_to step_in marks or_else gap_next reply_next bal_next step_of opens_by day_next next_of marked_of bounded monitor_of standing lines_automaton lines_start rig_automaton start range both join idle joint sizes joint_state keep pruned_set size passes_from passes live N choose unrank first_violation
balancing = record { inside_below = omega arith; inside_is = refl; below_leaves = refl; above_leaves = refl }

-- an event inside its hours, and outside them on the first day and on the next
record Opening : Type 0 where
  inside_below : 1 < N (rig_automaton depot_hours) 4 (start depot_hours)
  inside_is : unrank (rig_automaton depot_hours) 4 (start depot_hours) 0 ≡ 0 ∷ 1 ∷ 0 ∷ 0 ∷ []
  closed_leaves : first_violation (rig_automaton depot_hours) (start depot_hours) (1 ∷ 0 ∷ []) ≡ 1
  next_leaves : first_violation (rig_automaton depot_hours) (start depot_hours) (1 ∷ 1 ∷ 1 ∷ 1 ∷ 0 ∷ []) ≡ 4

opening : Opening
unfolding decoded lines unended split_on onto init last_of decode fields form one two three four one_or_two any_number field end_or end number numbers ahead digits_value signed minus plus one_signed two_signed then_signed same monitors monitors_from extended add_part latest states_of product events_of order_of order_from reordered start_of first_of leads_to step_in marks or_else gap_next reply_next bal_next step_of opens_by day_next next_of marked_of bounded monitor_of standing lines_automaton lines_start rig_automaton start range both join idle joint sizes joint_state keep pruned_set size passes_from passes live N choose unrank first_violation
opening = record { inside_below = omega arith; inside_is = refl; closed_leaves = refl; next_leaves = refl }

-- the reply to an event, in time, still due, before it and too late; an event that is barred; one that no reply can follow
record Replying : Type 0 where
  replied_below : 0 < N (rig_automaton reply_alone) 4 (start reply_alone)
  replied_is : unrank (rig_automaton reply_alone) 4 (start reply_alone) 0 ≡ 0 ∷ 1 ∷ 1 ∷ 0 ∷ []
  due_below : 3 < N (rig_automaton reply_alone) 3 (start reply_alone)
  due_is : unrank (rig_automaton reply_alone) 3 (start reply_alone) 3 ≡ 0 ∷ 2 ∷ 2 ∷ []
  again_leaves : first_violation (rig_automaton reply_alone) (start reply_alone) (0 ∷ 1 ∷ 0 ∷ []) ≡ 2
  late_leaves : first_violation (rig_automaton reply_alone) (start reply_alone) (0 ∷ 2 ∷ 2 ∷ 2 ∷ []) ≡ 3
  once_below : 0 < N (rig_automaton gap_alone) 1 (start gap_alone)
  once_is : unrank (rig_automaton gap_alone) 1 (start gap_alone) 0 ≡ 0 ∷ []
  twice_none : N (rig_automaton gap_alone) 2 (start gap_alone) ≡ 0
  unanswered_leaves : first_violation (rig_automaton unanswerable) (start unanswerable) (1 ∷ 0 ∷ []) ≡ 1

replying : Replying
unfolding decoded lines unended split_on onto init last_of decode fields form one two three four one_or_two any_number field end_or end number numbers ahead digits_value signed minus plus one_signed two_signed then_signed same monitors monitors_from extended add_part latest states_of product events_of order_of order_from reordered start_of first_of leads_to step_in marks or_else gap_next reply_next bal_next step_of opens_by day_next next_of marked_of bounded monitor_of standing lines_automaton lines_start rig_automaton start range both join idle joint sizes joint_state keep pruned_set size passes_from passes live N choose unrank first_violation
replying = record {
  replied_below = omega arith;
  replied_is = refl;
  due_below = omega arith;
  due_is = refl;
  again_leaves = refl;
  late_leaves = refl;
  once_below = omega arith;
  once_is = refl;
  twice_none = refl;
  unanswered_leaves = refl;
}

-- where the events stand in the order of A with `ord`, and without
record Compared : Type 0 where
  by_ord : index_of (order_of (decoded A_ordered)) 1 < index_of (order_of (decoded A_ordered)) 0
  lower_first_lem : index_of (order_of (decoded A)) 0 < index_of (order_of (decoded A)) 1

compared : Compared
unfolding decoded lines split_on onto init decode fields form one two three four one_or_two any_number field end_or end number numbers ahead digits_value signed minus plus one_signed two_signed then_signed same order_of order_from reordered range index_of
compared = record { by_ord = omega arith; lower_first_lem = omega arith }

module _ (t : List ℕ) (r : Readable t) where
  index_given : (h i : ℕ) (w : List ℕ) → i < N (rig_automaton t) h (start t) → unrank (rig_automaton t) h (start t) i ≡ w → Belongs t h w
  index_given h i w l q = subst (Belongs t h) q ((text_belongs t r h (unrank (rig_automaton t) h (start t) i)).1 (index_belongs (rig_automaton t) h (start t) i l))

  leaves : (w : List ℕ) → first_violation (rig_automaton t) (start t) w < length w → Belongs t (length w) w → ⊥
  leaves w lt b =
      let s = (scenarios_sound (rig_automaton t) (length w) (start t) w ((belongs_listed t (length w) r w).0 b)).1 in
      let q : first_violation (rig_automaton t) (start t) w ≡ length w = (first_violation_none (rig_automaton t) (start t) w (stays_live (rig_automaton t) (start t) w s) (stays_events (rig_automaton t) (start t) w s)).1 s in
      omega arith

  none_of : (h : ℕ) → N (rig_automaton t) h (start t) ≡ 0 → (w : List ℕ) → Belongs t h w → ⊥
  none_of h q w b = let (p, l, e) = in_place [] ((belongs_listed t h r w).0 b) in omega (arith, scenarios_length (rig_automaton t) h (start t))

-- the limit is met by 65,535 bytes: the other cases have a line as their place
long-enough : (t : List ℕ) → length t ≡ 65535 → Fault t 1 0 → ⊥
unfolding Fault Case1
long-enough t q (inl (c, a, b)) = omega arith
long-enough t q (inr (inl (c, (front, l, back, e, s, f, p)))) = omega arith
long-enough t q (inr (inr (inl (c, s, u, n, p)))) = omega arith
long-enough t q (inr (inr (inr (c, s, u, m, n, p)))) = omega arith

pub words : Words
unfolding Fault Case1
words = record {
  readable_A = readable A readings.of_A;
  readable_B = readable B readings.of_B;
  readable_A_from_1 = readable A_from_1 readings.of_A_from_1;
  readable_A_exchanged = readable A_exchanged readings.of_A_exchanged;
  readable_A_ordered = readable A_ordered readings.of_A_ordered;
  readable_closes = readable closes readings.of_closes;
  readable_one_unmarked = readable one_unmarked readings.of_one_unmarked;
  readable_both_marked = readable both_marked readings.of_both_marked;
  readable_may_close = readable may_close readings.of_may_close;
  readable_gap_alone = readable gap_alone readings.of_gap_alone;
  readable_reply_alone = readable reply_alone readings.of_reply_alone;
  readable_unanswerable = readable unanswerable readings.of_unanswerable;
  readable_four_kinds = readable four_kinds readings.of_four_kinds;
  readable_widest_kinds = readable widest_kinds readings.of_widest_kinds;
  readable_meters = readable meters readings.of_meters;
  readable_meters_table = readable meters_table readings.of_meters_table;
  readable_no_difference = readable no_difference readings.of_no_difference;
  readable_widest_band = readable widest_band readings.of_widest_band;
  readable_depot_hours = readable depot_hours readings.of_depot_hours;
  readable_hours_table = readable hours_table readings.of_hours_table;
  readable_always_open = readable always_open readings.of_always_open;
  readable_longest_day = readable longest_day readings.of_longest_day;
  readable_most_events = readable most_events readings.of_most_events;
  readable_most_joint_states = readable most_joint_states readings.of_most_joint_states;
  belongs = index_given A (readable A readings.of_A) 3 4 _ scenarios-A.four_below scenarios-A.four_is;
  not_belongs = leaves A (readable A readings.of_A) (0 ∷ 1 ∷ 1 ∷ []) (omega (arith, scenarios-A.leaves_at));
  belongs_from_1 = index_given A_from_1 (readable A_from_1 readings.of_A_from_1) 1 0 _ scenarios-A.zero_below scenarios-A.zero_is;
  not_belongs_from_1 = leaves A_from_1 (readable A_from_1 readings.of_A_from_1) (1 ∷ []) (omega (arith, scenarios-A.leaves_at_once));
  comes_by_ord = unfold Comes Earlier in inl compared.by_ord;
  comes_lower_first = unfold Comes Earlier in inl compared.lower_first_lem;
  belongs_closes = index_given closes (readable closes readings.of_closes) 1 0 _ closing.only_below closing.only_is;
  none_closed = none_of closes (readable closes readings.of_closes) 2 closing.none_then;
  belongs_closing = index_given may_close (readable may_close readings.of_may_close) 1 0 _ closing.last_below closing.last_is;
  not_belongs_closed = leaves may_close (readable may_close readings.of_may_close) (0 ∷ 1 ∷ []) (omega (arith, closing.leaves_then));
  belongs_both = index_given both_marked (readable both_marked readings.of_both_marked) 1 0 _ closing.both_below closing.both_is;
  not_belongs_one = leaves one_unmarked (readable one_unmarked readings.of_one_unmarked) (0 ∷ []) (omega (arith, closing.one_leaves));
  belongs_replied = index_given reply_alone (readable reply_alone readings.of_reply_alone) 4 0 _ replying.replied_below replying.replied_is;
  not_belongs_again = leaves reply_alone (readable reply_alone readings.of_reply_alone) (0 ∷ 1 ∷ 0 ∷ []) (omega (arith, replying.again_leaves));
  not_belongs_late = leaves reply_alone (readable reply_alone readings.of_reply_alone) (0 ∷ 2 ∷ 2 ∷ 2 ∷ []) (omega (arith, replying.late_leaves));
  belongs_due = index_given reply_alone (readable reply_alone readings.of_reply_alone) 3 3 _ replying.due_below replying.due_is;
  belongs_once = index_given gap_alone (readable gap_alone readings.of_gap_alone) 1 0 _ replying.once_below replying.once_is;
  none_twice = none_of gap_alone (readable gap_alone readings.of_gap_alone) 2 replying.twice_none;
  not_belongs_unanswered = leaves unanswerable (readable unanswerable readings.of_unanswerable) (1 ∷ 0 ∷ []) (omega (arith, replying.unanswered_leaves));
  belongs_in_band = index_given meters (readable meters readings.of_meters) 2 2 _ balancing.inside_below balancing.inside_is;
  not_belongs_below = leaves meters (readable meters readings.of_meters) (1 ∷ 1 ∷ []) (omega (arith, balancing.below_leaves));
  belongs_in_hours = index_given depot_hours (readable depot_hours readings.of_depot_hours) 4 0 _ (omega (arith, opening.inside_below)) opening.inside_is;
  not_belongs_out_of_hours = leaves depot_hours (readable depot_hours readings.of_depot_hours) (1 ∷ 0 ∷ []) (omega (arith, opening.closed_leaves));
  not_belongs_next_day = leaves depot_hours (readable depot_hours readings.of_depot_hours) (1 ∷ 1 ∷ 1 ∷ 1 ∷ 0 ∷ []) (omega (arith, opening.next_leaves));
  not_belongs_above = leaves meters (readable meters readings.of_meters) (0 ∷ 0 ∷ []) (omega (arith, balancing.above_leaves));
  fault_too_long = inl (omega (arith, length-replicate {A = ℕ} 65536 10), refl, refl);
  never_too_long = long-enough;
  fault_mon_without_S = (reading_refuses mon_without_S 2 2).0 readings.of_mon_without_S;
  fault_last_line_unended = (reading_refuses last_line_unended 2 2).0 readings.of_last_line_unended;
  fault_leading_zero = (reading_refuses leading_zero 2 1).0 readings.of_leading_zero;
  fault_six_digits = (reading_refuses six_digits 2 1).0 readings.of_six_digits;
  fault_empty_field = (reading_refuses empty_field 2 1).0 readings.of_empty_field;
  fault_seventeen_events = (reading_refuses seventeen_events 3 1).0 readings.of_seventeen_events;
  fault_five_digits = (reading_refuses five_digits 3 1).0 readings.of_five_digits;
  fault_fifth_monitor = (reading_refuses fifth_monitor 3 6).0 readings.of_fifth_monitor;
  fault_start_S = (reading_refuses start_S 3 2).0 readings.of_start_S;
  fault_field_after_start = (reading_refuses field_after_start 2 2).0 readings.of_field_after_start;
  fault_empty_start = (reading_refuses empty_start 2 2).0 readings.of_empty_start;
  fault_ord_too_short = (reading_refuses ord_too_short 2 2).0 readings.of_ord_too_short;
  fault_ord_not_below = (reading_refuses ord_not_below 3 2).0 readings.of_ord_not_below;
  fault_ord_twice = (reading_refuses ord_twice 16 2).0 readings.of_ord_twice;
  fault_ord_third = (reading_refuses ord_third 5 3).0 readings.of_ord_third;
  fault_ord_first = (reading_refuses ord_first 5 1).0 readings.of_ord_first;
  fault_ord_no_number = (reading_refuses ord_no_number 2 1).0 readings.of_ord_no_number;
  fault_ord_alone = (reading_refuses ord_alone 5 3).0 readings.of_ord_alone;
  fault_go_again_out_of_range = (reading_refuses go_again_out_of_range 3 4).0 readings.of_go_again_out_of_range;
  fault_go_again = (reading_refuses go_again 4 4).0 readings.of_go_again;
  fault_stop_without_state = (reading_refuses stop_without_state 2 3).0 readings.of_stop_without_state;
  fault_field_after_stop = (reading_refuses field_after_stop 2 3).0 readings.of_field_after_stop;
  fault_stop_before_mon = (reading_refuses stop_before_mon 5 2).0 readings.of_stop_before_mon;
  fault_stop_S = (reading_refuses stop_S 3 3).0 readings.of_stop_S;
  fault_stop_again = (reading_refuses stop_again 4 5).0 readings.of_stop_again;
  fault_gap_without_n = (reading_refuses gap_without_n 2 2).0 readings.of_gap_without_n;
  fault_field_after_n = (reading_refuses field_after_n 2 2).0 readings.of_field_after_n;
  fault_reply_without_hi = (reading_refuses reply_without_hi 2 2).0 readings.of_reply_without_hi;
  fault_field_after_hi = (reading_refuses field_after_hi 2 2).0 readings.of_field_after_hi;
  fault_gap_first = (reading_refuses gap_first 5 1).0 readings.of_gap_first;
  fault_gap_1 = (reading_refuses gap_1 3 2).0 readings.of_gap_1;
  fault_gap_33 = (reading_refuses gap_33 3 2).0 readings.of_gap_33;
  fault_gap_no_event = (reading_refuses gap_no_event 3 2).0 readings.of_gap_no_event;
  fault_reply_to_no_event = (reading_refuses reply_to_no_event 3 2).0 readings.of_reply_to_no_event;
  fault_reply_no_event = (reading_refuses reply_no_event 3 2).0 readings.of_reply_no_event;
  fault_reply_lo_0 = (reading_refuses reply_lo_0 3 2).0 readings.of_reply_lo_0;
  fault_reply_hi_32 = (reading_refuses reply_hi_32 3 2).0 readings.of_reply_hi_32;
  fault_reply_lo_over_hi = (reading_refuses reply_lo_over_hi 3 2).0 readings.of_reply_lo_over_hi;
  fault_reply_equal = (reading_refuses reply_equal 17 2).0 readings.of_reply_equal;
  fault_equal_and_too_many = (reading_refuses equal_and_too_many 17 4).0 readings.of_equal_and_too_many;
  fault_equal_and_fifth = (reading_refuses equal_and_fifth 3 6).0 readings.of_equal_and_fifth;
  fault_gap_too_many = (reading_refuses gap_too_many 6 4).0 readings.of_gap_too_many;
  fault_go_after_gap = (reading_refuses go_after_gap 5 4).0 readings.of_go_after_gap;
  fault_stop_after_reply = (reading_refuses stop_after_reply 5 3).0 readings.of_stop_after_reply;
  fault_bal_without_hi = (reading_refuses bal_without_hi 2 2).0 readings.of_bal_without_hi;
  fault_field_after_band = (reading_refuses field_after_band 2 2).0 readings.of_field_after_band;
  fault_amp_without_step = (reading_refuses amp_without_step 2 3).0 readings.of_amp_without_step;
  fault_minus_zero = (reading_refuses minus_zero 2 2).0 readings.of_minus_zero;
  fault_two_signs = (reading_refuses two_signs 2 2).0 readings.of_two_signs;
  fault_plus_sign = (reading_refuses plus_sign 2 2).0 readings.of_plus_sign;
  fault_sign_and_zero = (reading_refuses sign_and_zero 2 2).0 readings.of_sign_and_zero;
  fault_lone_sign = (reading_refuses lone_sign 2 2).0 readings.of_lone_sign;
  fault_negative_event = (reading_refuses negative_event 2 3).0 readings.of_negative_event;
  fault_negative_n = (reading_refuses negative_n 2 2).0 readings.of_negative_n;
  fault_six_signed_digits = (reading_refuses six_signed_digits 2 2).0 readings.of_six_signed_digits;
  fault_five_signed_digits = (reading_refuses five_signed_digits 3 2).0 readings.of_five_signed_digits;
  fault_lo_16 = (reading_refuses lo_16 3 2).0 readings.of_lo_16;
  fault_lo_1 = (reading_refuses lo_1 3 2).0 readings.of_lo_1;
  fault_hi_16 = (reading_refuses hi_16 3 2).0 readings.of_hi_16;
  fault_hi_below_0 = (reading_refuses hi_below_0 3 2).0 readings.of_hi_below_0;
  fault_step_16 = (reading_refuses step_16 3 3).0 readings.of_step_16;
  fault_step_below = (reading_refuses step_below 3 3).0 readings.of_step_below;
  fault_step_of_no_event = (reading_refuses step_of_no_event 3 3).0 readings.of_step_of_no_event;
  fault_given_twice = (reading_refuses given_twice 4 4).0 readings.of_given_twice;
  fault_given_zero_twice = (reading_refuses given_zero_twice 4 4).0 readings.of_given_zero_twice;
  fault_amp_first = (reading_refuses amp_first 5 2).0 readings.of_amp_first;
  fault_amp_after_mon = (reading_refuses amp_after_mon 5 4).0 readings.of_amp_after_mon;
  fault_go_after_bal = (reading_refuses go_after_bal 5 3).0 readings.of_go_after_bal;
  fault_stop_after_bal = (reading_refuses stop_after_bal 5 3).0 readings.of_stop_after_bal;
  fault_bal_too_many = (reading_refuses bal_too_many 6 4).0 readings.of_bal_too_many;
  fault_day_without_T = (reading_refuses day_without_T 2 2).0 readings.of_day_without_T;
  fault_field_after_T = (reading_refuses field_after_T 2 2).0 readings.of_field_after_T;
  fault_open_without_b = (reading_refuses open_without_b 2 3).0 readings.of_open_without_b;
  fault_field_after_b = (reading_refuses field_after_b 2 3).0 readings.of_field_after_b;
  fault_negative_step = (reading_refuses negative_step 2 3).0 readings.of_negative_step;
  fault_day_1 = (reading_refuses day_1 3 2).0 readings.of_day_1;
  fault_day_33 = (reading_refuses day_33 3 2).0 readings.of_day_33;
  fault_fifth_day = (reading_refuses fifth_day 3 6).0 readings.of_fifth_day;
  fault_b_over_T = (reading_refuses b_over_T 3 3).0 readings.of_b_over_T;
  fault_hours_of_no_event = (reading_refuses hours_of_no_event 3 3).0 readings.of_hours_of_no_event;
  fault_a_is_b = (reading_refuses a_is_b 18 3).0 readings.of_a_is_b;
  fault_a_over_b = (reading_refuses a_over_b 18 3).0 readings.of_a_over_b;
  fault_open_first = (reading_refuses open_first 5 2).0 readings.of_open_first;
  fault_open_after_mon = (reading_refuses open_after_mon 5 4).0 readings.of_open_after_mon;
  fault_open_after_bal = (reading_refuses open_after_bal 5 3).0 readings.of_open_after_bal;
  fault_go_after_day = (reading_refuses go_after_day 5 3).0 readings.of_go_after_day;
  fault_stop_after_day = (reading_refuses stop_after_day 5 3).0 readings.of_stop_after_day;
  fault_amp_after_day = (reading_refuses amp_after_day 5 3).0 readings.of_amp_after_day;
  fault_day_too_many = (reading_refuses day_too_many 6 4).0 readings.of_day_too_many;
  fault_nothing = (reading_refuses nothing 5 1).0 readings.of_nothing;
  fault_rig_alone = (reading_refuses rig_alone 5 2).0 readings.of_rig_alone;
  fault_rig_later = (reading_refuses rig_later 5 2).0 readings.of_rig_later;
  fault_go_before_mon = (reading_refuses go_before_mon 5 2).0 readings.of_go_before_mon;
  fault_too_many_joint_states = (reading_refuses too_many_joint_states 6 4).0 readings.of_too_many_joint_states;
}
