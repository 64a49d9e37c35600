-- What rows 1 to 8 and 16 to 18 come to, for a call on a text.
--   checked_or o a                  == the refusal that o tells, or a where it tells none
--   rows_for k h                    == how many rows of cells a call needs that keeps the rows k
--   FitsFor r states x rows h room == the record r has so many joint states and starts in x, and h and the room for so many rows of cells are as sized
--   Fits r states x h room         == so for all rows up to h
--   Ready t rows h room r states x == the record r stands for the readable text t, and fits
--   ChecksSizes r rows h room o    == o tells rows 7 and 8 of the record r
--   Loads t rows h room o          == o tells rows 1 to 8 and 16 to 18, with the record
--   Opens t rows h room o          == o tells them, with the record unless one of them applies
-- Nothing is left free: the record is that of the text, and that of no line where the text is refused. None of these refusals is one after which the cells are filled. Assumes nothing.
use Rattle.std.specs.Prelude.{◌≡◌, false, List, ℕ, ◌+◌, ◌*◌, ◌≤◌, ◌<◌, length, Result, Ok, Err, IfOk, IfErr}
use Rattle.rig.specs.declared.Rig.{Rig}
use Rattle.rig.specs.Record.{record_automaton, record_start, WellFormed}
use Rattle.promises.specs.Answer.{Answer}
use Rattle.promises.specs.Text.{decoded, events_of, Readable}
use Rattle.promises.specs.Rig.{rig_automaton, start}
use Rattle.promises.specs.Calls.{size_rows, fills, sized_for}
use Rattle.promises.specs.Small.{small_rows}
use Rattle.promises.specs.Forward.{forward_rows}
use Rattle.refusal.specs.declared.Refusal.{Refusal}
use Rattle.refusal.specs.Numbers.{refused_by}
use Rattle.reader.specs.Reading.{record_of}
use Rattle.checks.specs.declared.Rows.{Rows}
use Rattle.checks.specs.declared.Rows.TheVariants.{All, Sixteenths, Two}
use Rattle.checks.specs.declared.loaded.Loaded.{Loaded}
use Rattle.checks.specs.declared.Checked.{Checked}

abbrev pub checked_or : {A : Type 0} → Result A Refusal → Answer → Answer
checked_or (Ok x) a = a
checked_or (Err e) a = refused_by e

abbrev pub rows_for : Rows → ℕ → ℕ
rows_for All h = h + 1
rows_for Sixteenths h = small_rows h
rows_for Two h = forward_rows

pub record FitsFor (r : Rig) (states x rows h room : ℕ) : Type 0 where
  pub well_formed : WellFormed r
  pub joint : states ≡ (record_automaton r).states
  pub starts : x ≡ record_start r
  pub start_below : x < states
  pub horizon : h ≤ 1000
  pub enough : rows * states ≤ room

abbrev pub Fits : Rig → ℕ → ℕ → ℕ → ℕ → Type 0
Fits r states x h room = FitsFor r states x (h + 1) h room

pub record Ready (t : List ℕ) (rows h room : ℕ) (r : Rig) (states x : ℕ) : Type 0 where
  pub readable : Readable t
  pub automaton : record_automaton r ≡ rig_automaton t
  pub events : r.events ≡ events_of (decoded t)
  pub starts : x ≡ start t
  pub fits : FitsFor r states x rows h room

pub record ChecksSizes (r : Rig) (rows h room : ℕ) (o : Checked) : Type 0 where
  pub answer : (a : Answer) → size_rows rows (record_automaton r).states h room a ≡ checked_or o.checked a
  pub untouched : IfErr o.checked (λ e. fills (refused_by e) ≡ false)
  pub same : o.rig ≡ r
  pub passed : IfOk o.checked (λ s. FitsFor r s.count s.start rows h room)

pub record Loads (t : List ℕ) (rows h room : ℕ) (o : Checked) : Type 0 where
  pub answer : (cells : List ℕ) (a : Answer) → length cells ≡ room → sized_for t rows h cells a ≡ checked_or o.checked a
  pub untouched : IfErr o.checked (λ e. fills (refused_by e) ≡ false)
  pub is_record : o.rig ≡ record_of t
  pub ready : IfOk o.checked (λ s. Ready t rows h room o.rig s.count s.start)

pub record Opens (t : List ℕ) (rows h room : ℕ) (o : Result Loaded Refusal) : Type 0 where
  pub answer : (cells : List ℕ) (a : Answer) → length cells ≡ room → sized_for t rows h cells a ≡ checked_or o a
  pub untouched : IfErr o (λ e. fills (refused_by e) ≡ false)
  pub is_record : IfOk o (λ l. l.rig ≡ record_of t)
  pub ready : IfOk o (λ l. Ready t rows h room l.rig l.states l.start)
