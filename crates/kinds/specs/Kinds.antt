-- The kinds of monitor in the words of `promises`, and the tables that a line fills that begins one, gives a step or hours. Paper 02 no. 5 to 7.
--   as_kind k           == the kind k, as `promises` writes it
--   InRange k          == the numbers of k are in their ranges, in a rig with some number of events
--   row_at r u          == where the row r moves on event u
--   entry_of S t        == the state t of S states as an entry of the move table: 255 where it is no state
--   with_rows mv m k n  == the move table mv with the moves of monitor m, of the kind k, from its first n states on each of the sixteen events that there can be
--   kind_moves mv m k   == the move table mv with what the line says that begins monitor m of the kind k
--   kind_stops sp m k   == the marks sp likewise
--   with_column mv m e f n == the move table mv with the entries f 0, f 1, … f (n−1) of monitor m on event e from its first n states
--   with_step mv m k e d == with its moves, of the kind k, on the event e, of the step d
--   hour_of T a b first s x == the move from step s of a day of T steps, where it was x before, with hours from a up to b more, which are the first or not
--   with_hours mv m T e a b first == with its moves, of a `day` of T steps, on the event e with these hours more
-- A new Kind is one clause of as_kind; its automaton is that of promises/specs/Rig. Assumes nothing.
use Rattle.std.specs.Prelude.{◌≡◌, Bool, false, ◌&&◌, List, [], ◌∷◌, ℕ, zero, suc, ◌%◌, ℤ, leb, ltb, eqb}
use Rattle.lists.specs.Lists.{pick, overwrite}
use Rattle.promises.specs.Text as text
use Rattle.promises.specs.Text.{mon, gap, reply, bal, day, amp, states_of}
use Rattle.promises.specs.Reading.{is_mon, is_out_of_range, equal}
use Rattle.promises.specs.Rig.{next_of, marked_of}
use Rattle.rig.specs.Record.{move_index, move_at, stop_index}
use Rattle.decoding.specs.declared.Kind.{Kind}
use Rattle.decoding.specs.declared.Kind.TheVariants.{Mon, Gap, Reply, Bal, Day}
use Rattle.kinds.specs.declared.Row.{Row}

abbrev pub as_kind : Kind → text.Kind
as_kind (Mon S a) = mon S a
as_kind (Gap e n) = gap e n
as_kind (Reply a b lo hi) = reply a b lo hi
as_kind (Bal lo hi) = bal lo hi
as_kind (Day T) = day T

abbrev pub InRange : text.Kind → Type 0
InRange k = (E : ℕ) × (is_out_of_range E k ≡ false) × (equal k ≡ false)

abbrev pub row_at : Row → ℕ → ℕ
row_at r u = pick (eqb u r.a) r.x (pick (eqb u r.b) r.y r.z)

abbrev pub entry_of : ℕ → ℕ → ℕ
entry_of S t = pick (ltb t S) t 255

-- a row is filled whole: nothing reads the entries of events that the rig doesn't have
unfoldable pub with_rows : List ℕ → ℕ → text.Kind → ℕ → List ℕ
with_rows mv m k zero = mv
with_rows mv m k (suc s) = overwrite (with_rows mv m k s) (move_index m s) (λ u. entry_of (states_of k) (next_of k [] s u)) 16

-- 'Each line is a monitor' (02 no. 5): its whole table. A `mon` line has no move yet, and no mark
unfoldable pub kind_moves : List ℕ → ℕ → text.Kind → List ℕ
kind_moves mv m k = pick (is_mon k) mv (with_rows mv m k (states_of k))

unfoldable pub kind_stops : List ℕ → ℕ → text.Kind → List ℕ
kind_stops sp m k = pick (is_mon k) sp (overwrite sp (stop_index m) (λ s. pick (marked_of k [] s) 1 0) (states_of k))

-- what stood there before is written over
abbrev pub with_column : List ℕ → ℕ → ℕ → (ℕ → ℕ) → ℕ → List ℕ
with_column mv m e f n = overwrite mv (λ s. move_index m s e) f n

-- '`amp`, e, d line gives event e a signed step d' (02 no. 6)
abbrev pub with_step : List ℕ → ℕ → text.Kind → ℕ → ℤ → List ℕ
with_step mv m k e d = with_column mv m e (λ s. entry_of (states_of k) (next_of k (amp e d ∷ []) s e)) (states_of k)

-- 'Following `open`, e, a, b lines admit e at steps a up to but not including b'; 'Several lines add up, and an event with none is always admitted' (02 no. 7):
-- so the first line closes the steps that are not in its hours
abbrev pub hour_of : ℕ → ℕ → ℕ → Bool → ℕ → ℕ → ℕ
hour_of T a b first s x = pick (leb a s && ltb s b) (suc s % T) (pick first 255 x)

abbrev pub with_hours : List ℕ → ℕ → ℕ → ℕ → ℕ → ℕ → Bool → List ℕ
with_hours mv m T e a b first = with_column mv m e (λ s. hour_of T a b first s (move_at mv m s e)) T
