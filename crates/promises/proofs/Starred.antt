-- The starred lines hold: each side computes to the other. Assumes nothing.
use mathlib.Core.Option.{or_else}
use mathlib.Core.Path.{refl}
use Rattle.lists.specs.Lists.{range, first_of}
use Rattle.automaton.specs.Automaton.{bounded}
use Rattle.automaton.specs.Joint.{both, join, idle, joint, sizes, joint_state}
use Rattle.automaton.specs.Pruning.{keep, pruned_set, size, passes_from, passes, live}
use Rattle.automaton.specs.Counting.{N, most}
use Rattle.automaton.specs.Ranking.{choose, before, unrank, rank, first_violation}
use Rattle.automaton.specs.Shuffle as swapping
use Rattle.automaton.specs.Shuffle.{swap, shuffle_from}
use Rattle.promises.specs.Text.{onto, split_on, init, last_of, lines, unended, fields, digits_value, number, ahead, numbers, same, field, end_or, end, one, two, three, four, one_or_two, any_number, form, decode, decoded, add_part, extended, monitors_from, monitors, states_of, start_of, latest, product, events_of, reordered, order_from, order_of, joint_states, signed, minus, plus, one_signed, two_signed, then_signed}
use Rattle.promises.specs.Meaning.{step_in, step_of}
use Rattle.promises.specs.Reading.{leads_to, marks, opens_by, test_beginning, of_latest, test_continuing, tests, line_case, reading_from, reading}
use Rattle.promises.specs.Rig.{gap_next, reply_next, next_of, marked_of, monitor_of, standing, lines_automaton, lines_start, rig_automaton, start, bal_next, day_next}
use Rattle.promises.specs.Calls.{first_bad_from, first_bad, unless_at, output_after, sized_for, total, counted, count, scenarios, written, index, bad_draw, shuffle, shuffled}
use Rattle.promises.specs.Small.{small_rows, small, small_output}
use Rattle.promises.specs.Forward.{forward_rows, forward}
use Rattle.promises.specs.Starred.{Starred}

pub starred : Starred
unfolding reading reading_from line_case tests test_beginning test_continuing of_latest first_of leads_to step_in marks or_else decoded lines unended split_on onto init last_of decode fields form one two three four one_or_two any_number field end_or end number numbers ahead digits_value signed minus plus one_signed two_signed then_signed same monitors monitors_from extended add_part latest states_of product events_of order_of order_from reordered start_of joint_states gap_next reply_next bal_next step_of opens_by day_next next_of marked_of bounded monitor_of standing lines_automaton lines_start rig_automaton start range both join idle joint sizes joint_state keep pruned_set size passes_from passes live N most choose before unrank rank first_violation first_bad_from first_bad unless_at output_after sized_for total counted count scenarios written index bad_draw shuffle shuffled swapping.shuffle shuffle_from swap small_rows small small_output forward_rows forward
starred = record {
  a_0 = refl;
  a_1 = refl;
  a_2 = refl;
  a_3 = refl;
  a_listed = refl;
  a_bytes = refl;
  a_index = refl;
  b_1 = refl;
  b_index = refl;
  again_served = refl;
  again = refl;
  nothing_served = refl;
  nothing = refl;
  from_1 = refl;
  from_1_bytes = refl;
  from_1_index = refl;
  from_1_not = refl;
  exchanged = refl;
  made_of_starts = refl;
  ordered = refl;
  ordered_bytes = refl;
  ordered_index = refl;
  closes_0 = refl;
  closes_1 = refl;
  closes_2 = refl;
  both_1 = refl;
  one_1 = refl;
  may_close_1 = refl;
  may_close_2 = refl;
  may_close_index = refl;
  gap_1 = refl;
  gap_2 = refl;
  reply_3 = refl;
  reply_bytes = refl;
  reply_again = refl;
  reply_late = refl;
  unanswerable_2 = refl;
  unanswerable_index = refl;
  meters_start = refl;
  meters_2 = refl;
  meters_bytes = refl;
  meters_index = refl;
  meters_above = refl;
  table_2 = refl;
  no_difference_3 = refl;
  hours_start = refl;
  hours_4 = refl;
  hours_bytes = refl;
  hours_index = refl;
  hours_closed = refl;
  hours_table_4 = refl;
  always_open_3 = refl;
  small_3 = refl;
  small_bytes = refl;
  small_short = refl;
  small_15 = refl;
  small_16 = refl;
  small_16_short = refl;
  forward_3 = refl;
  forward_short = refl;
  forward_none = refl;
  forward_none_short = refl;
}
