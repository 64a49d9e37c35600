-- What `read` answers and the record that it gives. Paper 01, 'Rig text' and 'Numbers of refusal'.
--   answer_of r         == the result r in the paper's numbers
--   nobody             == what stands past the last monitor
--   with_part r m p     == the record r with the line p of its latest monitor, which is m before it
--   with_line r front l == the record r of the lines `front` with the line l
--   record_from r front ls == with the lines ls, one after the other
--   where_served a r s  == r where the answer a is served, else s
--   record_of t         == the record of the text t, empty where t is refused
-- A new part of a monitor is one clause of with_part. Assumes nothing.
use Rattle.std.specs.Prelude.{not, List, [], ◌∷◌, ◌++◌, ℕ, ◌+◌, ◌-◌, Result, length, get_or, drop, set}
use Rattle.promises.specs.Answer.{Answer, served, refused}
use Rattle.promises.specs.Text.{mon, Part, go, stop, amp, opens, Line, rig, ord, begins, continues, other, Monitor, monitors, states_of, start_of, decoded}
use Rattle.promises.specs.Reading.{has_hours, reading}
use Rattle.refusal.specs.Numbers.{answered}
use Rattle.refusal.specs.declared.Refusal.{Refusal}
use Rattle.rig.specs.declared.Rig.{Rig}
use Rattle.rig.specs.Record.{move_index, stop_index, empty_rig}
use Rattle.kinds.specs.Kinds.{with_step, kind_moves, kind_stops, with_hours}

abbrev pub nobody : Monitor
nobody = record { kind = mon 0 0; parts = [] }

-- 'A refusal is its number and a place'
abbrev pub answer_of : Result Rig Refusal → Answer
answer_of r = answered (λ rig. []) r

-- '`go`, s, e, t: the latest monitor moves from s to t on event e'; '`stop`, s marks a state of the latest monitor' (02 no. 4); '`amp`, e, d line gives event e a
-- signed step d' (02 no. 6): the moves on e are those of this step; '`open`, e, a, b lines admit e at steps a up to but not including b', and 'Several lines add
-- up' (02 no. 7): the first one closes the other steps
unfoldable pub with_part : Rig → Monitor → Part → Rig
with_part r m (go s e t) = record { moves = set r.moves (move_index (r.monitors - 1) s e) t; stops = r.stops; counts = r.counts; starts = r.starts; order = r.order; monitors = r.monitors; events = r.events }
with_part r m (stop s) = record { moves = r.moves; stops = set r.stops (stop_index (r.monitors - 1) s) 1; counts = r.counts; starts = r.starts; order = r.order; monitors = r.monitors; events = r.events }
with_part r m (amp e d) = record { moves = with_step r.moves (r.monitors - 1) m.kind e d; stops = r.stops; counts = r.counts; starts = r.starts; order = r.order; monitors = r.monitors; events = r.events }
with_part r m (opens e a b) = record {
  moves = with_hours r.moves (r.monitors - 1) (states_of m.kind) e a b (not (has_hours m.parts e));
  stops = r.stops;
  counts = r.counts;
  starts = r.starts;
  order = r.order;
  monitors = r.monitors;
  events = r.events;
}

-- '`rig`, E'; `ord` 'lists all E events, first to last' (02 no. 2); '`mon`, S: a new monitor', as are `gap` and `reply` (02 no. 5), `bal` (02 no. 6) and `day` (02 no. 7); 'The rig record keeps one start for each monitor' (02 no. 1)
unfoldable pub with_line : Rig → List Line → Line → Rig
with_line r front (rig E) = record { moves = r.moves; stops = r.stops; counts = r.counts; starts = r.starts; order = r.order; monitors = r.monitors; events = E }
with_line r front (ord es) = record { moves = r.moves; stops = r.stops; counts = r.counts; starts = r.starts; order = es ++ drop (length es) r.order; monitors = r.monitors; events = r.events }
with_line r front (begins k) = record {
  moves = kind_moves r.moves r.monitors k;
  stops = kind_stops r.stops r.monitors k;
  counts = set r.counts r.monitors (states_of k);
  starts = set r.starts r.monitors (start_of k);
  order = r.order;
  monitors = r.monitors + 1;
  events = r.events;
}
with_line r front (continues p) = with_part r (get_or (monitors front) (r.monitors - 1) nobody) p
with_line r front other = r

unfoldable pub record_from : Rig → List Line → List Line → Rig
record_from r front [] = r
record_from r front (l ∷ ls) = record_from (with_line r front l) (front ++ (l ∷ [])) ls

abbrev pub where_served : Answer → Rig → Rig → Rig
where_served (served vs) r s = r
where_served (refused number place) r s = s

-- 'The read rig is one record that holds its move tables.'
unfoldable pub record_of : List ℕ → Rig
record_of t = where_served (reading t) (record_from empty_rig [] (decoded t)) empty_rig
