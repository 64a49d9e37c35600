-- The rigs A and B of paper 01 and small texts for the table of refusals, each written as its characters; and that the words of demand 3 are not empty.
--   Words              == what is readable, what belongs and what does not, and faults at the ends of the limits
-- Assumes nothing.
use Rattle.std.specs.Prelude.{◌≡◌, List, [], ◌∷◌, ℕ, length, replicate}
use Rattle.promises.specs.Text.{bytes, Readable, Fault}
use Rattle.promises.specs.Meaning.{Belongs, Comes}

-- 'A: E 2, one monitor, S 2, go 0 0 0, 0 1 1, 1 0 0 (no two 1s together).'
abbrev pub A : List ℕ
A = bytes "rig\t2\nmon\t2\ngo\t0\t0\t0\ngo\t0\t1\t1\ngo\t1\t0\t0\n"

-- 'B: A and a second monitor, S 2, go 0 0 0, 0 1 1, 1 1 1.'
abbrev pub B : List ℕ
B = bytes "rig\t2\nmon\t2\ngo\t0\t0\t0\ngo\t0\t1\t1\ngo\t1\t0\t0\nmon\t2\ngo\t0\t0\t0\ngo\t0\t1\t1\ngo\t1\t1\t1\n"

-- ---- monitors that start in another state than 0 (02 no. 1)

-- A from its state 1
abbrev pub A_from_1 : List ℕ
A_from_1 = bytes "rig\t2\nmon\t2\t1\ngo\t0\t0\t0\ngo\t0\t1\t1\ngo\t1\t0\t0\n"

-- the same with the numbers 0 and 1 of its states exchanged, so that it starts in 0
abbrev pub A_exchanged : List ℕ
A_exchanged = bytes "rig\t2\nmon\t2\ngo\t1\t0\t1\ngo\t1\t1\t0\ngo\t0\t0\t1\n"

abbrev pub two_starts : List ℕ
two_starts = bytes "rig\t1\nmon\t2\t1\nmon\t3\t2\n"

-- ---- the bench order of events (02 no. 2)

-- A with event 1 before event 0
abbrev pub A_ordered : List ℕ
A_ordered = bytes "rig\t2\nord\t1\t0\nmon\t2\ngo\t0\t0\t0\ngo\t0\t1\t1\ngo\t1\t0\t0\n"

-- ---- shifts that end (02 no. 4)

-- one event, and then the depot is closed
abbrev pub closes : List ℕ
closes = bytes "rig\t1\nmon\t2\ngo\t0\t0\t1\nstop\t1\n"

-- the same with a second monitor whose state is not marked: no joint state is stoppable
abbrev pub one_unmarked : List ℕ
one_unmarked = bytes "rig\t1\nmon\t2\ngo\t0\t0\t1\nstop\t1\nmon\t2\ngo\t0\t0\t1\n"

-- and with that state marked too
abbrev pub both_marked : List ℕ
both_marked = bytes "rig\t1\nmon\t2\ngo\t0\t0\t1\nstop\t1\nmon\t2\nstop\t1\ngo\t0\t0\t1\n"

-- event 0 closes the depot, event 1 goes on without end
abbrev pub may_close : List ℕ
may_close = bytes "rig\t2\nmon\t4\ngo\t0\t0\t1\ngo\t0\t1\t2\ngo\t2\t1\t2\nstop\t1\n"

-- ---- gaps and replies (02 no. 5)

-- a `gap` on the only event, and no `mon`
abbrev pub gap_alone : List ℕ
gap_alone = bytes "rig\t1\ngap\t0\t2\n"

-- event 1 comes 2 or 3 steps after event 0
abbrev pub reply_alone : List ℕ
reply_alone = bytes "rig\t3\nreply\t0\t1\t2\t3\n"

-- after event 1 it is barred for longer than a reply to event 0 can wait
abbrev pub unanswerable : List ℕ
unanswerable = bytes "rig\t2\ngap\t1\t4\nreply\t0\t1\t1\t2\n"

-- a `go` and a `stop` of a `mon` between other kinds: four of the five, as there are 'One to four monitors'
abbrev pub four_kinds : List ℕ
four_kinds = bytes "rig\t2\ngap\t0\t2\nmon\t1\ngo\t0\t0\t0\nstop\t0\nreply\t0\t1\t1\t1\nday\t2\nopen\t1\t0\t1\n"

-- 'n from 2 to 32', '1 ≤ lo ≤ hi ≤ 31': 32 states each, P 1,024
abbrev pub widest_kinds : List ℕ
widest_kinds = bytes "rig\t2\ngap\t1\t32\nreply\t0\t1\t31\t31\n"

-- ---- two meters (02 no. 6)

-- a difference from −1 to 2: event 0 adds 2, event 1 takes 1, event 2 leaves it
abbrev pub meters : List ℕ
meters = bytes "rig\t3\nbal\t-1\t2\namp\t0\t2\namp\t1\t-1\n"

-- the same as a `mon` with every move, each state marked
abbrev pub meters_table : List ℕ
meters_table = bytes "rig\t3\nmon\t4\t1\ngo\t0\t0\t2\ngo\t1\t0\t3\ngo\t1\t1\t0\ngo\t2\t1\t1\ngo\t3\t1\t2\ngo\t0\t2\t0\ngo\t1\t2\t1\ngo\t2\t2\t2\ngo\t3\t2\t3\nstop\t0\nstop\t1\nstop\t2\nstop\t3\n"

-- one state, and every step 0
abbrev pub no_difference : List ℕ
no_difference = bytes "rig\t1\nbal\t0\t0\n"

-- 'lo from −15 to 0 and hi from 0 to 15', 'a signed step d, −15 to 15': 31 states; a later `bal` gives event 0 a step anew
abbrev pub widest_band : List ℕ
widest_band = bytes "rig\t1\nbal\t-15\t15\namp\t0\t-15\nbal\t0\t0\namp\t0\t15\n"

-- ---- depot hours (02 no. 7)

-- a day of three steps: event 0 is admitted at steps 0 and 2, event 1 always
abbrev pub depot_hours : List ℕ
depot_hours = bytes "rig\t2\nday\t3\nopen\t0\t0\t1\nopen\t0\t2\t3\n"

-- the same as a `mon` with every move, each state marked
abbrev pub hours_table : List ℕ
hours_table = bytes "rig\t2\nmon\t3\ngo\t0\t0\t1\ngo\t0\t1\t1\ngo\t1\t1\t2\ngo\t2\t0\t0\ngo\t2\t1\t0\nstop\t0\nstop\t1\nstop\t2\n"

-- no hours
abbrev pub always_open : List ℕ
always_open = bytes "rig\t1\nday\t2\n"

-- 'T from 2 to 32', 'b at most T'; equal lines, and one inside the hours of another; a later `day` gives event 0 hours anew
abbrev pub longest_day : List ℕ
longest_day = bytes "rig\t1\nday\t32\nopen\t0\t0\t32\nopen\t0\t0\t32\nopen\t0\t31\t32\nday\t2\nopen\t0\t0\t2\n"

-- ---- the largest rigs

-- 'E from 1 to 16'
abbrev pub most_events : List ℕ
most_events = bytes "rig\t16\nmon\t1\n"

-- 'P 1,024 by S 32, 32 is read'
abbrev pub most_joint_states : List ℕ
most_joint_states = bytes "rig\t1\nmon\t32\nmon\t32\n"

-- ---- rigs on which a wrong generator shows

-- 9: 'one state, no `go`'
abbrev pub one_state : List ℕ
one_state = bytes "rig\t1\nmon\t1\n"

-- 'a cell is full that no scenario passes': state 1 is never reached
abbrev pub full_cell : List ℕ
full_cell = bytes "rig\t2\nmon\t2\ngo\t0\t0\t0\ngo\t1\t0\t1\ngo\t1\t1\t1\n"

-- ---- texts for the numbers of refusal, each with its place

-- 2, place 2: '`mon` with no S'
abbrev pub mon_without_S : List ℕ
mon_without_S = bytes "rig\t2\nmon\n"

-- 2, place 2: 'last line unended'
abbrev pub last_line_unended : List ℕ
last_line_unended = bytes "rig\t2\nmon\t2"

-- 2, place 1: 'no leading zero except 0 itself'
abbrev pub leading_zero : List ℕ
leading_zero = bytes "rig\t02\n"

-- 2, place 1: 'one to five digits'
abbrev pub six_digits : List ℕ
six_digits = bytes "rig\t100000\n"

-- 2, place 1: 'one to five digits', so a field with none is no number
abbrev pub empty_field : List ℕ
empty_field = bytes "rig\t\n"

-- 3, place 1: '`rig`, 17'
abbrev pub seventeen_events : List ℕ
seventeen_events = bytes "rig\t17\n"

-- 3, place 1: five digits are a number, which is out of its range
abbrev pub five_digits : List ℕ
five_digits = bytes "rig\t10000\n"

-- 3, place 6: 'a fifth `mon`'
abbrev pub fifth_monitor : List ℕ
fifth_monitor = bytes "rig\t1\nmon\t1\nmon\t1\nmon\t1\nmon\t1\nmon\t1\n"

-- 3, place 2: 'A start not below S'
abbrev pub start_S : List ℕ
start_S = bytes "rig\t1\nmon\t2\t2\n"

-- 2, place 2: a start is the last field
abbrev pub field_after_start : List ℕ
field_after_start = bytes "rig\t1\nmon\t2\t1\t0\n"

-- 2, place 2: a field that is there is a number
abbrev pub empty_start : List ℕ
empty_start = bytes "rig\t1\nmon\t2\t\n"

-- 2, place 2: `ord` with 'the wrong number of fields', though one is out of range
abbrev pub ord_too_short : List ℕ
ord_too_short = bytes "rig\t2\nord\t2\n"

-- 3, place 2: 'an event not below E', though it is named twice
abbrev pub ord_not_below : List ℕ
ord_not_below = bytes "rig\t2\nord\t2\t2\n"

-- 16, place 2: 'an event named twice in `ord`'
abbrev pub ord_twice : List ℕ
ord_twice = bytes "rig\t2\nord\t1\t1\n"

-- 5, place 3: 'an `ord` elsewhere', though the same line was read as the second
abbrev pub ord_third : List ℕ
ord_third = bytes "rig\t2\nord\t1\t0\nord\t1\t0\n"

-- 5, place 1: 'elsewhere .. with any number of number fields, none included'
abbrev pub ord_first : List ℕ
ord_first = bytes "ord\n"

-- 2, place 1: a field that is no number is 2 wherever the line stands
abbrev pub ord_no_number : List ℕ
ord_no_number = bytes "ord\t0\t\n"

-- 5, place 3: 'no `mon` by the end', 'at the end, lines + 1'
abbrev pub ord_alone : List ℕ
ord_alone = bytes "rig\t1\nord\t0\n"

-- 3, place 4: t out of range, though s and e stand again: 'on one line 2, 5, 3, 4, 6'
abbrev pub go_again_out_of_range : List ℕ
go_again_out_of_range = bytes "rig\t1\nmon\t1\ngo\t0\t0\t0\ngo\t0\t0\t9\n"

-- 4, place 4: '`go` 0 0 0 twice'
abbrev pub go_again : List ℕ
go_again = bytes "rig\t1\nmon\t1\ngo\t0\t0\t0\ngo\t0\t0\t0\n"

-- 2, place 3: `stop` with no state
abbrev pub stop_without_state : List ℕ
stop_without_state = bytes "rig\t1\nmon\t1\nstop\n"

-- 2, place 3: a state is the last field
abbrev pub field_after_stop : List ℕ
field_after_stop = bytes "rig\t1\nmon\t1\nstop\t0\t0\n"

-- 5, place 2: 'a `stop` before any `mon`', though out of range: 'on one line 2, 5, 3, 4, 6'
abbrev pub stop_before_mon : List ℕ
stop_before_mon = bytes "rig\t1\nstop\t9\n"

-- 3, place 3: 'a state not below S'
abbrev pub stop_S : List ℕ
stop_S = bytes "rig\t1\nmon\t2\nstop\t2\n"

-- 4, place 5: 'A state marked twice', a `go` between
abbrev pub stop_again : List ℕ
stop_again = bytes "rig\t1\nmon\t1\nstop\t0\ngo\t0\t0\t0\nstop\t0\n"

-- 2, place 2: `gap` has two numbers
abbrev pub gap_without_n : List ℕ
gap_without_n = bytes "rig\t1\ngap\t0\n"

-- 2, place 2: and no more
abbrev pub field_after_n : List ℕ
field_after_n = bytes "rig\t1\ngap\t0\t2\t2\n"

-- 2, place 2: `reply` has four
abbrev pub reply_without_hi : List ℕ
reply_without_hi = bytes "rig\t2\nreply\t0\t1\t1\n"

-- 2, place 2: and no more
abbrev pub field_after_hi : List ℕ
field_after_hi = bytes "rig\t2\nreply\t0\t1\t1\t1\t1\n"

-- 5, place 1: 'first line not `rig`'
abbrev pub gap_first : List ℕ
gap_first = bytes "gap\t0\t2\n"

-- 3, place 2: 'n from 2 to 32'
abbrev pub gap_1 : List ℕ
gap_1 = bytes "rig\t1\ngap\t0\t1\n"

-- 3, place 2: 'n from 2 to 32'
abbrev pub gap_33 : List ℕ
gap_33 = bytes "rig\t1\ngap\t0\t33\n"

-- 3, place 2: e not below E
abbrev pub gap_no_event : List ℕ
gap_no_event = bytes "rig\t1\ngap\t1\t2\n"

-- 3, place 2: a not below E
abbrev pub reply_to_no_event : List ℕ
reply_to_no_event = bytes "rig\t2\nreply\t2\t1\t1\t1\n"

-- 3, place 2: b not below E
abbrev pub reply_no_event : List ℕ
reply_no_event = bytes "rig\t2\nreply\t0\t2\t1\t1\n"

-- 3, place 2: '1 ≤ lo'
abbrev pub reply_lo_0 : List ℕ
reply_lo_0 = bytes "rig\t2\nreply\t0\t1\t0\t1\n"

-- 3, place 2: 'hi ≤ 31'
abbrev pub reply_hi_32 : List ℕ
reply_hi_32 = bytes "rig\t2\nreply\t0\t1\t1\t32\n"

-- 3, place 2: 'lo ≤ hi', though a equals b
abbrev pub reply_lo_over_hi : List ℕ
reply_lo_over_hi = bytes "rig\t2\nreply\t0\t0\t2\t1\n"

-- 17, place 2: 'a equals b'
abbrev pub reply_equal : List ℕ
reply_equal = bytes "rig\t2\nreply\t1\t1\t1\t1\n"

-- 17, place 4: 'after 3', so before 6: P would be over 1,024
abbrev pub equal_and_too_many : List ℕ
equal_and_too_many = bytes "rig\t1\nmon\t32\nmon\t32\nreply\t0\t0\t1\t1\n"

-- 3, place 6: the fifth monitor, though a equals b
abbrev pub equal_and_fifth : List ℕ
equal_and_fifth = bytes "rig\t1\nmon\t1\ngap\t0\t2\nmon\t1\ngap\t0\t2\nreply\t0\t0\t1\t1\n"

-- 6, place 4: it 'counts as a `mon` in .. 6'
abbrev pub gap_too_many : List ℕ
gap_too_many = bytes "rig\t1\nmon\t32\nmon\t32\ngap\t0\t2\n"

-- 5, place 4: 'A `go` .. is 5 if the latest monitor isn't a `mon`', though out of range
abbrev pub go_after_gap : List ℕ
go_after_gap = bytes "rig\t1\nmon\t1\ngap\t0\t2\ngo\t9\t9\t9\n"

-- 5, place 3: nor a `stop`, though its state is marked already
abbrev pub stop_after_reply : List ℕ
stop_after_reply = bytes "rig\t2\nreply\t0\t1\t1\t1\nstop\t0\n"

-- 2, place 2: `bal` has two numbers
abbrev pub bal_without_hi : List ℕ
bal_without_hi = bytes "rig\t1\nbal\t0\n"

-- 2, place 2: and no more
abbrev pub field_after_band : List ℕ
field_after_band = bytes "rig\t1\nbal\t0\t0\t0\n"

-- 2, place 3: `amp` has two
abbrev pub amp_without_step : List ℕ
amp_without_step = bytes "rig\t1\nbal\t0\t0\namp\t0\n"

-- 2, place 2: 'a minus sign .. may come before a nonzero number'
abbrev pub minus_zero : List ℕ
minus_zero = bytes "rig\t1\nbal\t-0\t1\n"

-- 2, place 2: 'any other is 2'
abbrev pub two_signs : List ℕ
two_signs = bytes "rig\t1\nbal\t--1\t1\n"

-- 2, place 2
abbrev pub plus_sign : List ℕ
plus_sign = bytes "rig\t1\nbal\t-1\t+1\n"

-- 2, place 2: a leading zero
abbrev pub sign_and_zero : List ℕ
sign_and_zero = bytes "rig\t1\nbal\t-01\t1\n"

-- 2, place 2
abbrev pub lone_sign : List ℕ
lone_sign = bytes "rig\t1\nbal\t-\t1\n"

-- 2, place 3: 'In lo, hi and d', and not in e
abbrev pub negative_event : List ℕ
negative_event = bytes "rig\t1\nbal\t-1\t1\namp\t-1\t1\n"

-- 2, place 2: nor in any other line
abbrev pub negative_n : List ℕ
negative_n = bytes "rig\t1\ngap\t0\t-2\n"

-- 2, place 2: 'one to five digits'
abbrev pub six_signed_digits : List ℕ
six_signed_digits = bytes "rig\t1\nbal\t-100000\t0\n"

-- 3, place 2: the sign is not one of the five
abbrev pub five_signed_digits : List ℕ
five_signed_digits = bytes "rig\t1\nbal\t-99999\t0\n"

-- 3, place 2: 'lo from −15 to 0'
abbrev pub lo_16 : List ℕ
lo_16 = bytes "rig\t1\nbal\t-16\t0\n"

-- 3, place 2
abbrev pub lo_1 : List ℕ
lo_1 = bytes "rig\t1\nbal\t1\t1\n"

-- 3, place 2: 'hi from 0 to 15'
abbrev pub hi_16 : List ℕ
hi_16 = bytes "rig\t1\nbal\t0\t16\n"

-- 3, place 2
abbrev pub hi_below_0 : List ℕ
hi_below_0 = bytes "rig\t1\nbal\t-2\t-1\n"

-- 3, place 3: 'a signed step d, −15 to 15'
abbrev pub step_16 : List ℕ
step_16 = bytes "rig\t1\nbal\t0\t15\namp\t0\t16\n"

-- 3, place 3
abbrev pub step_below : List ℕ
step_below = bytes "rig\t1\nbal\t-15\t0\namp\t0\t-16\n"

-- 3, place 3
abbrev pub step_of_no_event : List ℕ
step_of_no_event = bytes "rig\t1\nbal\t0\t0\namp\t1\t0\n"

-- 4, place 4: 'An event given twice is 4', also with step 0
abbrev pub given_twice : List ℕ
given_twice = bytes "rig\t1\nbal\t0\t1\namp\t0\t1\namp\t0\t0\n"

-- 4, place 4: and if the first step is 0
abbrev pub given_zero_twice : List ℕ
given_zero_twice = bytes "rig\t1\nbal\t0\t1\namp\t0\t0\namp\t0\t1\n"

-- 5, place 2: 'an `amp` is 5 if the latest monitor isn't a `bal`'
abbrev pub amp_first : List ℕ
amp_first = bytes "rig\t1\namp\t0\t0\n"

-- 5, place 4: though there is one before it, and out of range
abbrev pub amp_after_mon : List ℕ
amp_after_mon = bytes "rig\t1\nbal\t0\t0\nmon\t1\namp\t9\t99\n"

-- 5, place 3: 'A `go` or `stop` is 5 if the latest monitor isn't a `mon`'
abbrev pub go_after_bal : List ℕ
go_after_bal = bytes "rig\t1\nbal\t0\t0\ngo\t0\t0\t0\n"

-- 5, place 3: though its state is marked already
abbrev pub stop_after_bal : List ℕ
stop_after_bal = bytes "rig\t1\nbal\t0\t0\nstop\t0\n"

-- 6, place 4: 31 states, 2 and 17
abbrev pub bal_too_many : List ℕ
bal_too_many = bytes "rig\t1\nbal\t-15\t15\nbal\t-1\t0\nbal\t-15\t1\n"

-- 2, place 2: `day` has one number
abbrev pub day_without_T : List ℕ
day_without_T = bytes "rig\t1\nday\n"

-- 2, place 2: and no more
abbrev pub field_after_T : List ℕ
field_after_T = bytes "rig\t1\nday\t2\t0\n"

-- 2, place 3: `open` has three
abbrev pub open_without_b : List ℕ
open_without_b = bytes "rig\t1\nday\t2\nopen\t0\t0\n"

-- 2, place 3: and no more
abbrev pub field_after_b : List ℕ
field_after_b = bytes "rig\t1\nday\t2\nopen\t0\t0\t1\t1\n"

-- 2, place 3: no sign
abbrev pub negative_step : List ℕ
negative_step = bytes "rig\t1\nday\t2\nopen\t0\t-1\t1\n"

-- 3, place 2: 'T from 2 to 32'
abbrev pub day_1 : List ℕ
day_1 = bytes "rig\t1\nday\t1\n"

-- 3, place 2
abbrev pub day_33 : List ℕ
day_33 = bytes "rig\t1\nday\t33\n"

-- 3, place 6: it 'counts as a `mon`'
abbrev pub fifth_day : List ℕ
fifth_day = bytes "rig\t1\nmon\t1\nmon\t1\nmon\t1\nmon\t1\nday\t2\n"

-- 3, place 3: 'b at most T', though a is not below b either
abbrev pub b_over_T : List ℕ
b_over_T = bytes "rig\t1\nday\t2\nopen\t0\t9\t3\n"

-- 3, place 3: likewise
abbrev pub hours_of_no_event : List ℕ
hours_of_no_event = bytes "rig\t1\nday\t2\nopen\t1\t1\t1\n"

-- 18, place 3: 'a .. not below b'
abbrev pub a_is_b : List ℕ
a_is_b = bytes "rig\t1\nday\t2\nopen\t0\t0\t0\n"

-- 18, place 3: 'a, which has no other range'
abbrev pub a_over_b : List ℕ
a_over_b = bytes "rig\t1\nday\t2\nopen\t0\t99999\t2\n"

-- 5, place 2: 'an `open` is 5 if the latest monitor isn't a `day`'
abbrev pub open_first : List ℕ
open_first = bytes "rig\t1\nopen\t0\t0\t1\n"

-- 5, place 4: though there is one before it, and out of range
abbrev pub open_after_mon : List ℕ
open_after_mon = bytes "rig\t1\nday\t2\nmon\t1\nopen\t9\t9\t9\n"

-- 5, place 3
abbrev pub open_after_bal : List ℕ
open_after_bal = bytes "rig\t1\nbal\t0\t1\nopen\t0\t0\t1\n"

-- 5, place 3: 'A `go` or `stop` is 5 if the latest monitor isn't a `mon`'
abbrev pub go_after_day : List ℕ
go_after_day = bytes "rig\t1\nday\t2\ngo\t0\t0\t0\n"

-- 5, place 3: though its state is marked already
abbrev pub stop_after_day : List ℕ
stop_after_day = bytes "rig\t1\nday\t2\nstop\t0\n"

-- 5, place 3
abbrev pub amp_after_day : List ℕ
amp_after_day = bytes "rig\t1\nday\t2\namp\t0\t0\n"

-- 6, place 4: 32, 16 and 3 states
abbrev pub day_too_many : List ℕ
day_too_many = bytes "rig\t1\nday\t32\nday\t16\nday\t3\n"

-- 5, place 1: 'empty text, place 1'
abbrev pub nothing : List ℕ
nothing = []

-- 5, place 2: 'no `mon` by the end', 'at the end, lines + 1'
abbrev pub rig_alone : List ℕ
rig_alone = bytes "rig\t2\n"

-- 5, place 2: '`rig` later', though out of range: 'on one line 2, 5, 3, 4, 6'
abbrev pub rig_later : List ℕ
rig_later = bytes "rig\t1\nrig\t17\n"

-- 5, place 2: '`go` before `mon`'
abbrev pub go_before_mon : List ℕ
go_before_mon = bytes "rig\t1\ngo\t0\t0\t0\n"

-- 6, place 4: 'S of 32, 32, 2'
abbrev pub too_many_joint_states : List ℕ
too_many_joint_states = bytes "rig\t1\nmon\t32\nmon\t32\nmon\t2\n"

-- 1, place 0: '65,536 line ends'
abbrev pub too_long : List ℕ
too_long = replicate 65536 10

pub record Words : Type 0 where
  pub readable_A : Readable A
  pub readable_B : Readable B
  pub readable_A_from_1 : Readable A_from_1
  pub readable_A_exchanged : Readable A_exchanged
  pub readable_A_ordered : Readable A_ordered
  pub readable_closes : Readable closes
  pub readable_one_unmarked : Readable one_unmarked
  pub readable_both_marked : Readable both_marked
  pub readable_may_close : Readable may_close
  pub readable_gap_alone : Readable gap_alone
  pub readable_reply_alone : Readable reply_alone
  pub readable_unanswerable : Readable unanswerable
  pub readable_four_kinds : Readable four_kinds
  pub readable_widest_kinds : Readable widest_kinds
  pub readable_meters : Readable meters
  pub readable_meters_table : Readable meters_table
  pub readable_no_difference : Readable no_difference
  pub readable_widest_band : Readable widest_band
  pub readable_depot_hours : Readable depot_hours
  pub readable_hours_table : Readable hours_table
  pub readable_always_open : Readable always_open
  pub readable_longest_day : Readable longest_day
  pub readable_most_events : Readable most_events
  pub readable_most_joint_states : Readable most_joint_states
  -- A's scenario of index 4 belongs; '0 1 1' does not
  pub belongs : Belongs A 3 (1 ∷ 0 ∷ 1 ∷ [])
  pub not_belongs : Belongs A 3 (0 ∷ 1 ∷ 1 ∷ []) → ⊥
  -- from its state 1, A admits 0 first, not 1
  pub belongs_from_1 : Belongs A_from_1 1 (0 ∷ [])
  pub not_belongs_from_1 : Belongs A_from_1 1 (1 ∷ []) → ⊥
  -- with `ord` 1 0, event 1 is compared as the first; without it, as the second
  pub comes_by_ord : Comes A_ordered (1 ∷ 0 ∷ []) (0 ∷ 1 ∷ [])
  pub comes_lower_first : Comes A (0 ∷ 1 ∷ []) (1 ∷ 0 ∷ [])
  -- the last event belongs where the depot may close after it, and nothing follows
  pub belongs_closes : Belongs closes 1 (0 ∷ [])
  pub none_closed : (w : List ℕ) → Belongs closes 2 w → ⊥
  pub belongs_closing : Belongs may_close 1 (0 ∷ [])
  pub not_belongs_closed : Belongs may_close 2 (0 ∷ 1 ∷ []) → ⊥
  -- it may close if every monitor's state is marked
  pub belongs_both : Belongs both_marked 1 (0 ∷ [])
  pub not_belongs_one : Belongs one_unmarked 1 (0 ∷ []) → ⊥
  -- an earlier 1 settles nothing, the next one does; then event 0 may come again
  pub belongs_replied : Belongs reply_alone 4 (0 ∷ 1 ∷ 1 ∷ 0 ∷ [])
  -- before that it may not; nor may the steps go by; a reply still due at the end is no fault
  pub not_belongs_again : Belongs reply_alone 3 (0 ∷ 1 ∷ 0 ∷ []) → ⊥
  pub not_belongs_late : Belongs reply_alone 4 (0 ∷ 2 ∷ 2 ∷ 2 ∷ []) → ⊥
  pub belongs_due : Belongs reply_alone 3 (0 ∷ 2 ∷ 2 ∷ [])
  -- after its only event the depot may close, and no other event is there
  pub belongs_once : Belongs gap_alone 1 (0 ∷ [])
  pub none_twice : (w : List ℕ) → Belongs gap_alone 2 w → ⊥
  -- both sentences admit 1 0, and no reply can follow
  pub not_belongs_unanswered : Belongs unanswerable 2 (1 ∷ 0 ∷ []) → ⊥
  -- 'An event is admitted if the running difference stays from lo to hi': −1 and then 1; not −2, nor 4
  pub belongs_in_band : Belongs meters 2 (1 ∷ 0 ∷ [])
  pub not_belongs_below : Belongs meters 2 (1 ∷ 1 ∷ []) → ⊥
  pub not_belongs_above : Belongs meters 2 (0 ∷ 0 ∷ []) → ⊥
  -- 'stands inside its hours, by its place from 0 modulo T': event 0 at steps 0, 2 and 0 again; not at step 1, of this day or the next
  pub belongs_in_hours : Belongs depot_hours 4 (0 ∷ 1 ∷ 0 ∷ 0 ∷ [])
  pub not_belongs_out_of_hours : Belongs depot_hours 2 (1 ∷ 0 ∷ []) → ⊥
  pub not_belongs_next_day : Belongs depot_hours 5 (1 ∷ 1 ∷ 1 ∷ 1 ∷ 0 ∷ []) → ⊥
  pub fault_too_long : Fault too_long 1 0
  -- 'At most 65,535 bytes.'
  pub never_too_long : (t : List ℕ) → length t ≡ 65535 → Fault t 1 0 → ⊥
  pub fault_mon_without_S : Fault mon_without_S 2 2
  pub fault_last_line_unended : Fault last_line_unended 2 2
  pub fault_leading_zero : Fault leading_zero 2 1
  pub fault_six_digits : Fault six_digits 2 1
  pub fault_empty_field : Fault empty_field 2 1
  pub fault_seventeen_events : Fault seventeen_events 3 1
  pub fault_five_digits : Fault five_digits 3 1
  pub fault_fifth_monitor : Fault fifth_monitor 3 6
  pub fault_start_S : Fault start_S 3 2
  pub fault_field_after_start : Fault field_after_start 2 2
  pub fault_empty_start : Fault empty_start 2 2
  pub fault_ord_too_short : Fault ord_too_short 2 2
  pub fault_ord_not_below : Fault ord_not_below 3 2
  pub fault_ord_twice : Fault ord_twice 16 2
  pub fault_ord_third : Fault ord_third 5 3
  pub fault_ord_first : Fault ord_first 5 1
  pub fault_ord_no_number : Fault ord_no_number 2 1
  pub fault_ord_alone : Fault ord_alone 5 3
  pub fault_go_again_out_of_range : Fault go_again_out_of_range 3 4
  pub fault_go_again : Fault go_again 4 4
  pub fault_stop_without_state : Fault stop_without_state 2 3
  pub fault_field_after_stop : Fault field_after_stop 2 3
  pub fault_stop_before_mon : Fault stop_before_mon 5 2
  pub fault_stop_S : Fault stop_S 3 3
  pub fault_stop_again : Fault stop_again 4 5
  pub fault_gap_without_n : Fault gap_without_n 2 2
  pub fault_field_after_n : Fault field_after_n 2 2
  pub fault_reply_without_hi : Fault reply_without_hi 2 2
  pub fault_field_after_hi : Fault field_after_hi 2 2
  pub fault_gap_first : Fault gap_first 5 1
  pub fault_gap_1 : Fault gap_1 3 2
  pub fault_gap_33 : Fault gap_33 3 2
  pub fault_gap_no_event : Fault gap_no_event 3 2
  pub fault_reply_to_no_event : Fault reply_to_no_event 3 2
  pub fault_reply_no_event : Fault reply_no_event 3 2
  pub fault_reply_lo_0 : Fault reply_lo_0 3 2
  pub fault_reply_hi_32 : Fault reply_hi_32 3 2
  pub fault_reply_lo_over_hi : Fault reply_lo_over_hi 3 2
  pub fault_reply_equal : Fault reply_equal 17 2
  pub fault_equal_and_too_many : Fault equal_and_too_many 17 4
  pub fault_equal_and_fifth : Fault equal_and_fifth 3 6
  pub fault_gap_too_many : Fault gap_too_many 6 4
  pub fault_go_after_gap : Fault go_after_gap 5 4
  pub fault_stop_after_reply : Fault stop_after_reply 5 3
  pub fault_bal_without_hi : Fault bal_without_hi 2 2
  pub fault_field_after_band : Fault field_after_band 2 2
  pub fault_amp_without_step : Fault amp_without_step 2 3
  pub fault_minus_zero : Fault minus_zero 2 2
  pub fault_two_signs : Fault two_signs 2 2
  pub fault_plus_sign : Fault plus_sign 2 2
  pub fault_sign_and_zero : Fault sign_and_zero 2 2
  pub fault_lone_sign : Fault lone_sign 2 2
  pub fault_negative_event : Fault negative_event 2 3
  pub fault_negative_n : Fault negative_n 2 2
  pub fault_six_signed_digits : Fault six_signed_digits 2 2
  pub fault_five_signed_digits : Fault five_signed_digits 3 2
  pub fault_lo_16 : Fault lo_16 3 2
  pub fault_lo_1 : Fault lo_1 3 2
  pub fault_hi_16 : Fault hi_16 3 2
  pub fault_hi_below_0 : Fault hi_below_0 3 2
  pub fault_step_16 : Fault step_16 3 3
  pub fault_step_below : Fault step_below 3 3
  pub fault_step_of_no_event : Fault step_of_no_event 3 3
  pub fault_given_twice : Fault given_twice 4 4
  pub fault_given_zero_twice : Fault given_zero_twice 4 4
  pub fault_amp_first : Fault amp_first 5 2
  pub fault_amp_after_mon : Fault amp_after_mon 5 4
  pub fault_go_after_bal : Fault go_after_bal 5 3
  pub fault_stop_after_bal : Fault stop_after_bal 5 3
  pub fault_bal_too_many : Fault bal_too_many 6 4
  pub fault_day_without_T : Fault day_without_T 2 2
  pub fault_field_after_T : Fault field_after_T 2 2
  pub fault_open_without_b : Fault open_without_b 2 3
  pub fault_field_after_b : Fault field_after_b 2 3
  pub fault_negative_step : Fault negative_step 2 3
  pub fault_day_1 : Fault day_1 3 2
  pub fault_day_33 : Fault day_33 3 2
  pub fault_fifth_day : Fault fifth_day 3 6
  pub fault_b_over_T : Fault b_over_T 3 3
  pub fault_hours_of_no_event : Fault hours_of_no_event 3 3
  pub fault_a_is_b : Fault a_is_b 18 3
  pub fault_a_over_b : Fault a_over_b 18 3
  pub fault_open_first : Fault open_first 5 2
  pub fault_open_after_mon : Fault open_after_mon 5 4
  pub fault_open_after_bal : Fault open_after_bal 5 3
  pub fault_go_after_day : Fault go_after_day 5 3
  pub fault_stop_after_day : Fault stop_after_day 5 3
  pub fault_amp_after_day : Fault amp_after_day 5 3
  pub fault_day_too_many : Fault day_too_many 6 4
  pub fault_nothing : Fault nothing 5 1
  pub fault_rig_alone : Fault rig_alone 5 2
  pub fault_rig_later : Fault rig_later 5 2
  pub fault_go_before_mon : Fault go_before_mon 5 2
  pub fault_too_many_joint_states : Fault too_many_joint_states 6 4
