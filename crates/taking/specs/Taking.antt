-- One line more, after the sizes and the tables of the lines so far. That these tests are the paper's, and these changes what the lines say, is proved of the
-- reader (reader/proofs/Held).
--   case_in r          == the number of what is wrong, 0 where nothing is
--   latest_passes f o      == there is a latest monitor, and its kind passes the test f
--   latest_kind o      == its kind; where there is none, a `mon` without states
--   latest_states o    == how many states it has
--   Allowed z          == sizes within the paper's limits
--   only_if n a b       == a where the number n is 0, else b
--   given_at gv m e     == 1 where an `amp` line of monitor m has given event e a step, or an `open` line hours, else 0
--   with_given gv z e   == the list gv with event e given in the latest monitor
--   rig_case, ord_case, kind_case, go_case, stop_case, amp_case, open_case == the number of the first case that holds of such a line, 0 where none does
--   rig_sizes, kind_sizes, kind_counts, kind_starts, go_moves, stop_stops, amp_moves, open_moves == what such a line changes, where no case holds of it
--   part_case, part_moves, part_stops, part_given == the same for any line of the latest monitor
--   case_of, sizes_after, moves_after, stops_after, given_after, counts_after, starts_after == the same for any line, by its form; os is the list that its decoding leaves, l its number
-- A new line form that begins no monitor is one section and its clauses of those for its group. Assumes nothing.
use Rattle.std.specs.Prelude.{◌≡◌, Bool, true, false, not, ◌||◌, List, ℕ, ◌+◌, ◌-◌, ◌*◌, ◌≤◌, ℤ, pos, neg_ℤ, is_some, Option, None, Some, Result, Ok, Err, get_or, take, set, ltb, leb, eqb}
use Rattle.lists.specs.Lists.{pick, any}
use Rattle.promises.specs.Text.{mon, states_of, start_of}
use Rattle.promises.specs.Text as text
use Rattle.promises.specs.Reading.{outside, outsideℤ, is_mon, is_bal, is_day, is_out_of_range, equal, repeats}
use Rattle.refusal.specs.Numbers.{fault_number}
use Rattle.refusal.specs.declared.Fault.{Fault}
use Rattle.rig.specs.Record.{move_index, move_at, stop_index, stop_at}
use Rattle.decoding.specs.declared.Form.{Form}
use Rattle.decoding.specs.declared.Form.TheVariants.{Rig, Ord, Begins, Continues}
use Rattle.decoding.specs.declared.Kind.{Kind}
use Rattle.decoding.specs.declared.Part.{Part}
use Rattle.decoding.specs.declared.Part.TheVariants.{Go, Stop, Amp, Open}
use Rattle.kinds.specs.Kinds.{as_kind, with_step, kind_moves, kind_stops, with_hours}
use Rattle.taking.specs.declared.Sizes.{Sizes}

abbrev pub case_in : {A : Type 0} → Result A Fault → ℕ
case_in (Ok a) = 0
case_in (Err f) = fault_number f

abbrev pub latest_passes : (text.Kind → Bool) → Option Kind → Bool
latest_passes f None = false
latest_passes f (Some k) = f (as_kind k)

abbrev pub latest_kind : Option Kind → text.Kind
latest_kind None = mon 0 0
latest_kind (Some k) = as_kind k

abbrev pub latest_states : Option Kind → ℕ
latest_states o = states_of (latest_kind o)

pub record Allowed (z : Sizes) : Type 0 where
  pub few_events : z.events ≤ 16
  pub few_monitors : z.monitors ≤ 4
  pub few_latest : latest_states z.latest ≤ 32
  pub none_latest : z.monitors ≡ 0 → is_some z.latest ≡ false
  pub in_band : latest_passes is_bal z.latest ≡ true → is_out_of_range z.events (latest_kind z.latest) ≡ false
  pub few_joint : z.joint ≤ 1024

abbrev pub only_if : {A : Type 0} → ℕ → A → A → A
only_if n a b = pick (eqb n 0) a b

-- ---- `rig`, E

unfoldable pub rig_case : Sizes → ℕ → ℕ
rig_case z e = pick (not (eqb z.events 0)) 5 (pick (outside 1 16 e) 3 0)

abbrev pub rig_sizes : Sizes → ℕ → Sizes
rig_sizes z e = record { events = e; monitors = z.monitors; latest = z.latest; joint = z.joint }

-- ---- `ord`, whose n events stand first in os, on line number l

unfoldable pub ord_case : List ℕ → Sizes → ℕ → ℕ → ℕ
ord_case os z l n =
    pick (not (eqb l 2)) 5
    (pick (not (eqb n z.events)) 2
    (pick (any (leb z.events) (take n os)) 3
    (pick (repeats (take n os)) 16
    0)))

-- ---- a line that begins a monitor of the kind k

unfoldable pub kind_case : Sizes → Kind → ℕ
kind_case z k =
    pick (eqb z.events 0) 5
    (pick (is_out_of_range z.events (as_kind k) || leb 4 z.monitors) 3
    (pick (equal (as_kind k)) 17
    (pick (ltb 1024 (z.joint * states_of (as_kind k))) 6
    0)))

abbrev pub kind_sizes : Sizes → Kind → Sizes
kind_sizes z k = record { events = z.events; monitors = z.monitors + 1; latest = Some k; joint = z.joint * states_of (as_kind k) }

abbrev pub kind_counts : List ℕ → Sizes → Kind → List ℕ
kind_counts ct z k = set ct z.monitors (states_of (as_kind k))

abbrev pub kind_starts : List ℕ → Sizes → Kind → List ℕ
kind_starts st z k = set st z.monitors (start_of (as_kind k))

-- ---- `go`, s, e, t

unfoldable pub go_case : List ℕ → Sizes → ℕ → ℕ → ℕ → ℕ
go_case mv z s e t =
    pick (not (latest_passes is_mon z.latest)) 5
    (pick (leb (latest_states z.latest) s || (leb z.events e || leb (latest_states z.latest) t)) 3
    (pick (not (eqb (move_at mv (z.monitors - 1) s e) 255)) 4
    0))

abbrev pub go_moves : List ℕ → Sizes → ℕ → ℕ → ℕ → List ℕ
go_moves mv z s e t = set mv (move_index (z.monitors - 1) s e) t

-- ---- `stop`, s

unfoldable pub stop_case : List ℕ → Sizes → ℕ → ℕ
stop_case sp z s = pick (not (latest_passes is_mon z.latest)) 5 (pick (leb (latest_states z.latest) s) 3 (pick (not (eqb (stop_at sp (z.monitors - 1) s) 0)) 4 0))

abbrev pub stop_stops : List ℕ → Sizes → ℕ → List ℕ
stop_stops sp z s = set sp (stop_index (z.monitors - 1) s) 1

-- ---- what an event has been given

abbrev pub given_index : ℕ → ℕ → ℕ
given_index m e = m * 16 + e

abbrev pub given_at : List ℕ → ℕ → ℕ → ℕ
given_at gv m e = get_or gv (given_index m e) 0

abbrev pub with_given : List ℕ → Sizes → ℕ → List ℕ
with_given gv z e = set gv (given_index (z.monitors - 1) e) 1

-- ---- `amp`, e, d

unfoldable pub amp_case : List ℕ → Sizes → ℕ → ℤ → ℕ
amp_case gv z e d =
    pick (not (latest_passes is_bal z.latest)) 5
    (pick (leb z.events e || outsideℤ (neg_ℤ (pos 15)) (pos 15) d) 3
    (pick (not (eqb (given_at gv (z.monitors - 1) e) 0)) 4
    0))

abbrev pub amp_moves : List ℕ → Sizes → ℕ → ℤ → List ℕ
amp_moves mv z e d = with_step mv (z.monitors - 1) (latest_kind z.latest) e d

-- ---- `open`, e, a, b

unfoldable pub open_case : Sizes → ℕ → ℕ → ℕ → ℕ
open_case z e a b = pick (not (latest_passes is_day z.latest)) 5 (pick (leb z.events e || ltb (latest_states z.latest) b) 3 (pick (leb b a) 18 0))

abbrev pub open_moves : List ℕ → List ℕ → Sizes → ℕ → ℕ → ℕ → List ℕ
open_moves mv gv z e a b = with_hours mv (z.monitors - 1) (latest_states z.latest) e a b (eqb (given_at gv (z.monitors - 1) e) 0)

-- ---- any line

abbrev pub part_case : List ℕ → List ℕ → List ℕ → Sizes → Part → ℕ
part_case mv sp gv z (Go s e t) = go_case mv z s e t
part_case mv sp gv z (Stop s) = stop_case sp z s
part_case mv sp gv z (Amp e d) = amp_case gv z e d
part_case mv sp gv z (Open e a b) = open_case z e a b

abbrev pub part_moves : List ℕ → List ℕ → Sizes → Part → List ℕ
part_moves mv gv z (Go s e t) = go_moves mv z s e t
part_moves mv gv z (Stop s) = mv
part_moves mv gv z (Amp e d) = amp_moves mv z e d
part_moves mv gv z (Open e a b) = open_moves mv gv z e a b

abbrev pub part_stops : List ℕ → Sizes → Part → List ℕ
part_stops sp z (Go s e t) = sp
part_stops sp z (Stop s) = stop_stops sp z s
part_stops sp z (Amp e d) = sp
part_stops sp z (Open e a b) = sp

abbrev pub part_given : List ℕ → Sizes → Part → List ℕ
part_given gv z (Go s e t) = gv
part_given gv z (Stop s) = gv
part_given gv z (Amp e d) = with_given gv z e
part_given gv z (Open e a b) = with_given gv z e

abbrev pub case_of : List ℕ → List ℕ → List ℕ → List ℕ → Sizes → ℕ → Option Form → ℕ
case_of mv sp gv os z l (Some (Rig e)) = rig_case z e
case_of mv sp gv os z l (Some (Ord n)) = ord_case os z l n
case_of mv sp gv os z l (Some (Begins k)) = kind_case z k
case_of mv sp gv os z l (Some (Continues p)) = part_case mv sp gv z p
case_of mv sp gv os z l None = 2

abbrev pub sizes_after : Sizes → Option Form → Sizes
sizes_after z (Some (Rig e)) = rig_sizes z e
sizes_after z (Some (Ord n)) = z
sizes_after z (Some (Begins k)) = kind_sizes z k
sizes_after z (Some (Continues p)) = z
sizes_after z None = z

abbrev pub moves_after : List ℕ → List ℕ → Sizes → Option Form → List ℕ
moves_after mv gv z (Some (Rig e)) = mv
moves_after mv gv z (Some (Ord n)) = mv
moves_after mv gv z (Some (Begins k)) = kind_moves mv z.monitors (as_kind k)
moves_after mv gv z (Some (Continues p)) = part_moves mv gv z p
moves_after mv gv z None = mv

abbrev pub stops_after : List ℕ → Sizes → Option Form → List ℕ
stops_after sp z (Some (Rig e)) = sp
stops_after sp z (Some (Ord n)) = sp
stops_after sp z (Some (Begins k)) = kind_stops sp z.monitors (as_kind k)
stops_after sp z (Some (Continues p)) = part_stops sp z p
stops_after sp z None = sp

abbrev pub given_after : List ℕ → Sizes → Option Form → List ℕ
given_after gv z (Some (Rig e)) = gv
given_after gv z (Some (Ord n)) = gv
given_after gv z (Some (Begins k)) = gv
given_after gv z (Some (Continues p)) = part_given gv z p
given_after gv z None = gv

abbrev pub counts_after : List ℕ → Sizes → Option Form → List ℕ
counts_after ct z (Some (Rig e)) = ct
counts_after ct z (Some (Ord n)) = ct
counts_after ct z (Some (Begins k)) = kind_counts ct z k
counts_after ct z (Some (Continues p)) = ct
counts_after ct z None = ct

abbrev pub starts_after : List ℕ → Sizes → Option Form → List ℕ
starts_after st z (Some (Rig e)) = st
starts_after st z (Some (Ord n)) = st
starts_after st z (Some (Begins k)) = kind_starts st z k
starts_after st z (Some (Continues p)) = st
starts_after st z None = st
