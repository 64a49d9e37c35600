-- The listing that paper 01 prints whole, the same rig with another order of events, a rig that may stop, and the least inputs: each side computes to the other. Assumes nothing.
use mathlib.Core.Option.{or_else}
use mathlib.Core.Path.{◌≡◌, refl}
use mathlib.Core.List.{List, [], ◌++◌}
use Prim.Native.Nat.{ℕ}
use Rattle.lists.specs.Lists.{range, index_of, first_of}
use Rattle.automaton.specs.Automaton.{bounded}
use Rattle.automaton.specs.Joint.{both, join, idle, joint, sizes, joint_state}
use Rattle.automaton.specs.Pruning.{keep, pruned_set, size, passes_from, passes, live}
use Rattle.automaton.specs.Counting.{N, most}
use Rattle.automaton.specs.Ranking.{choose, unrank}
use Rattle.promises.specs.Text.{bytes, onto, split_on, init, last_of, lines, unended, fields, digits_value, number, ahead, numbers, same, field, end_or, end, one, two, three, four, one_or_two, any_number, form, decode, decoded, add_part, extended, monitors_from, monitors, states_of, start_of, latest, product, events_of, reordered, order_from, order_of, joint_states, signed, minus, plus, one_signed, two_signed, then_signed}
use Rattle.promises.specs.Meaning.{step_in, step_of}
use Rattle.promises.specs.Reading.{leads_to, marks, opens_by, test_beginning, of_latest, test_continuing, tests, line_case, reading_from, reading}
use Rattle.promises.specs.Rig.{gap_next, reply_next, next_of, marked_of, monitor_of, standing, lines_automaton, lines_start, rig_automaton, start, bal_next, day_next}
use Rattle.promises.specs.Calls.{sized_for, total, counted, count}
use Rattle.promises.specs.Examples.{A, A_ordered, may_close, gap_alone, reply_alone, meters, depot_hours}
use Rattle.lists.specs.Decimal as decimals
use Rattle.lists.specs.Decimal.{decimal}
use Rattle.line.specs.Line.{line_of, numbers_of}
use Rattle.listing.specs.Listing.{first_line, asked_in, asked, text, owned, answer, follow, horizon, scenario_line, listing}
use Rattle.listing.specs.Printing.{line_at}

-- `no`, 2, 0
abbrev bad : List ℕ
bad = bytes "no\t2\t0\n"

-- 'For `ask` 3 and A, whole'
pub worked : listing (bytes "ask\t3\n" ++ A) ≡ bytes "count\t5\t1\n0\t0\t0\t0\n1\t0\t0\t1\n2\t0\t1\t0\n3\t1\t0\t0\n4\t1\t0\t1\n"
unfolding listing answer asked asked_in first_line text owned horizon scenario_line index_of line_of numbers_of decimal decimals.digits reading reading_from line_case tests test_beginning test_continuing of_latest first_of leads_to step_in marks or_else decoded lines unended split_on onto init last_of decode fields form one two three four one_or_two any_number field end_or end number numbers ahead digits_value signed minus plus one_signed two_signed then_signed same monitors monitors_from extended add_part latest states_of product events_of order_of order_from reordered start_of joint_states gap_next reply_next bal_next step_of opens_by day_next next_of marked_of bounded monitor_of standing lines_automaton lines_start rig_automaton start range both join idle joint sizes joint_state keep pruned_set size passes_from passes live N most choose unrank sized_for total counted count
worked = refl

-- the same with `ord` 1 0 (02 no. 2)
pub ordered : listing (bytes "ask\t3\n" ++ A_ordered) ≡ bytes "count\t5\t1\n0\t1\t0\t1\n1\t1\t0\t0\n2\t0\t1\t0\n3\t0\t0\t1\n4\t0\t0\t0\n"
unfolding listing answer asked asked_in first_line text owned horizon scenario_line index_of line_of numbers_of decimal decimals.digits reading reading_from line_case tests test_beginning test_continuing of_latest first_of leads_to step_in marks or_else decoded lines unended split_on onto init last_of decode fields form one two three four one_or_two any_number field end_or end number numbers ahead digits_value signed minus plus one_signed two_signed then_signed same monitors monitors_from extended add_part latest states_of product events_of order_of order_from reordered start_of joint_states gap_next reply_next bal_next step_of opens_by day_next next_of marked_of bounded monitor_of standing lines_automaton lines_start rig_automaton start range both join idle joint sizes joint_state keep pruned_set size passes_from passes live N most choose unrank sized_for total counted count
ordered = refl

-- event 0 closes the depot, event 1 goes on: both at horizon 1, the second alone at horizon 2 (02 no. 4)
pub closing : listing (bytes "ask\t1\n" ++ may_close) ≡ bytes "count\t2\t2\n0\t0\n1\t1\n"
unfolding listing answer asked asked_in first_line text owned horizon scenario_line index_of line_of numbers_of decimal decimals.digits reading reading_from line_case tests test_beginning test_continuing of_latest first_of leads_to step_in marks or_else decoded lines unended split_on onto init last_of decode fields form one two three four one_or_two any_number field end_or end number numbers ahead digits_value signed minus plus one_signed two_signed then_signed same monitors monitors_from extended add_part latest states_of product events_of order_of order_from reordered start_of joint_states gap_next reply_next bal_next step_of opens_by day_next next_of marked_of bounded monitor_of standing lines_automaton lines_start rig_automaton start range both join idle joint sizes joint_state keep pruned_set size passes_from passes live N most choose unrank sized_for total counted count
closing = refl

pub closed : listing (bytes "ask\t2\n" ++ may_close) ≡ bytes "count\t1\t2\n0\t1\t1\n"
unfolding listing answer asked asked_in first_line text owned horizon scenario_line index_of line_of numbers_of decimal decimals.digits reading reading_from line_case tests test_beginning test_continuing of_latest first_of leads_to step_in marks or_else decoded lines unended split_on onto init last_of decode fields form one two three four one_or_two any_number field end_or end number numbers ahead digits_value signed minus plus one_signed two_signed then_signed same monitors monitors_from extended add_part latest states_of product events_of order_of order_from reordered start_of joint_states gap_next reply_next bal_next step_of opens_by day_next next_of marked_of bounded monitor_of standing lines_automaton lines_start rig_automaton start range both join idle joint sizes joint_state keep pruned_set size passes_from passes live N most choose unrank sized_for total counted count
closed = refl

-- a reply 2 or 3 steps after its event, or still due; and an event that bars itself, once and no more (02 no. 5)
pub replying : listing (bytes "ask\t2\n" ++ reply_alone) ≡ bytes "count\t8\t1\n0\t0\t1\n1\t0\t2\n2\t1\t0\n3\t1\t1\n4\t1\t2\n5\t2\t0\n6\t2\t1\n7\t2\t2\n"
unfolding listing answer asked asked_in first_line text owned horizon scenario_line index_of line_of numbers_of decimal decimals.digits reading reading_from line_case tests test_beginning test_continuing of_latest first_of leads_to step_in marks or_else decoded lines unended split_on onto init last_of decode fields form one two three four one_or_two any_number field end_or end number numbers ahead digits_value signed minus plus one_signed two_signed then_signed same monitors monitors_from extended add_part latest states_of product events_of order_of order_from reordered start_of joint_states gap_next reply_next bal_next step_of opens_by day_next next_of marked_of bounded monitor_of standing lines_automaton lines_start rig_automaton start range both join idle joint sizes joint_state keep pruned_set size passes_from passes live N most choose unrank sized_for total counted count
replying = refl

pub barred : listing (bytes "ask\t2\n" ++ gap_alone) ≡ bytes "no\t9\t0\n"
unfolding listing answer asked asked_in first_line text owned horizon scenario_line index_of line_of numbers_of decimal decimals.digits reading reading_from line_case tests test_beginning test_continuing of_latest first_of leads_to step_in marks or_else decoded lines unended split_on onto init last_of decode fields form one two three four one_or_two any_number field end_or end number numbers ahead digits_value signed minus plus one_signed two_signed then_signed same monitors monitors_from extended add_part latest states_of product events_of order_of order_from reordered start_of joint_states gap_next reply_next bal_next step_of opens_by day_next next_of marked_of bounded monitor_of standing lines_automaton lines_start rig_automaton start range both join idle joint sizes joint_state keep pruned_set size passes_from passes live N most choose unrank sized_for total counted count
barred = refl

-- a difference from −1 to 2, of which event 0 adds 2 and event 1 takes 1 (02 no. 6)
pub differing : listing (bytes "ask\t2\n" ++ meters) ≡ bytes "count\t7\t1\n0\t0\t1\n1\t0\t2\n2\t1\t0\n3\t1\t2\n4\t2\t0\n5\t2\t1\n6\t2\t2\n"
unfolding listing answer asked asked_in first_line text owned horizon scenario_line index_of line_of numbers_of decimal decimals.digits reading reading_from line_case tests test_beginning test_continuing of_latest first_of leads_to step_in marks or_else decoded lines unended split_on onto init last_of decode fields form one two three four one_or_two any_number field end_or end number numbers ahead digits_value signed minus plus one_signed two_signed then_signed same monitors monitors_from extended add_part latest states_of product events_of order_of order_from reordered start_of joint_states gap_next reply_next bal_next step_of opens_by day_next next_of marked_of bounded monitor_of standing lines_automaton lines_start rig_automaton start range both join idle joint sizes joint_state keep pruned_set size passes_from passes live N most choose unrank sized_for total counted count
differing = refl

-- a day of three steps, of which event 0 is admitted at the first and the last (02 no. 7)
pub daily : listing (bytes "ask\t4\n" ++ depot_hours) ≡ bytes "count\t8\t1\n0\t0\t1\t0\t0\n1\t0\t1\t0\t1\n2\t0\t1\t1\t0\n3\t0\t1\t1\t1\n4\t1\t1\t0\t0\n5\t1\t1\t0\t1\n6\t1\t1\t1\t0\n7\t1\t1\t1\t1\n"
unfolding listing answer asked asked_in first_line text owned horizon scenario_line index_of line_of numbers_of decimal decimals.digits reading reading_from line_case tests test_beginning test_continuing of_latest first_of leads_to step_in marks or_else decoded lines unended split_on onto init last_of decode fields form one two three four one_or_two any_number field end_or end number numbers ahead digits_value signed minus plus one_signed two_signed then_signed same monitors monitors_from extended add_part latest states_of product events_of order_of order_from reordered start_of joint_states gap_next reply_next bal_next step_of opens_by day_next next_of marked_of bounded monitor_of standing lines_automaton lines_start rig_automaton start range both join idle joint sizes joint_state keep pruned_set size passes_from passes live N most choose unrank sized_for total counted count
daily = refl

-- F at 10, which has 1,024 scenarios
abbrev long : List ℕ
long = bytes "ask\t10\nrig\t2\nmon\t1\ngo\t0\t0\t0\ngo\t0\t1\t0\n"

-- 'for the first 1,000 indices': its last line is that of index 999
pub thousand : (follow (answer long) ≡ 1000) × (line_at long 1000 ≡ bytes "999\t1\t1\t1\t1\t1\t0\t0\t1\t1\t1\n")
unfolding line_at answer asked asked_in first_line text owned horizon scenario_line index_of line_of decimal decimals.digits reading reading_from line_case tests test_beginning test_continuing of_latest first_of leads_to step_in marks or_else decoded lines unended split_on onto init last_of decode fields form one two three four one_or_two any_number field end_or end number numbers ahead digits_value signed minus plus one_signed two_signed then_signed same monitors monitors_from extended add_part latest states_of product events_of order_of order_from reordered start_of joint_states gap_next reply_next bal_next step_of opens_by day_next next_of marked_of bounded monitor_of standing lines_automaton lines_start rig_automaton start range both join idle joint sizes joint_state keep pruned_set size passes_from passes live N most choose unrank sized_for total counted count
thousand = (refl, refl)

pub nothing : listing [] ≡ bad
unfolding listing answer asked index_of numbers_of decimal decimals.digits range
nothing = refl

-- `ask`, 3, unended
pub unended_ask : listing (bytes "ask\t3") ≡ bad
unfolding listing answer asked index_of numbers_of decimal decimals.digits range
unended_ask = refl

-- `ask`, 03
pub leading_zero : listing (bytes "ask\t03\n" ++ A) ≡ bad
unfolding listing answer asked asked_in first_line index_of numbers_of decimal decimals.digits range same number digits_value
leading_zero = refl
