-- Rows 1 to 10 as a whole call sees them: what a refusal up to 8 leaves, what the start's cell tells, and that what is counted of the record is
-- counted of the text. Assumes nothing.
use mathlib.Core.Path.{◌≡◌, refl, sym, ap, ◌∙◌}
use mathlib.Core.Bool.{true, false}
use mathlib.Core.List.{List, [], ◌∷◌}
use Prim.Native.Nat.{ℕ, ◌+◌, ◌*◌, ◌≤◌, ◌<◌, min}
use native.Mathlib.Omega.{arith}
use native.Mathlib.Nat.{suc-mul}
use native.Mathlib.Numerals.{add-one}
use lib.ListN.{length, get_or}
use lib.Dec.{leb, eqb}
use Rattle.std.specs.Prelude.{⊤, Result, Ok, Err, IsErrAnd}
use Rattle.std.proofs.lemmas.Result.{err_from_is_err_and}
use Rattle.lists.proofs.Tests.{case}
use Rattle.automaton.specs.Automaton.{Automaton}
use Rattle.automaton.specs.Pruning.{passes}
use Rattle.automaton.specs.Counting.{N, most, cell}
use Rattle.rig.specs.Record.{record_automaton}
use Rattle.promises.specs.Answer.{Answer, served}
use Rattle.promises.specs.Rig.{rig_automaton}
use Rattle.promises.specs.Calls.{count_rows, count_from, filled, fills, cells_after, Freed, CellsFreed, output_after, sized_for, total, counted, total_rows, count, count_cells}
use Rattle.promises.proofs.Buffers.{filled_at}
use Rattle.refusal.specs.declared.Refusal.{Refusal}
use Rattle.refusal.specs.Numbers.{refused_by, answered}
use Rattle.checks.specs.Loading.{Opens}
use Rattle.checks.specs.declared.loaded.Loaded.{Loaded}
use Rattle.counting.specs.Tabled.{Tabled}
use Rattle.filling.specs.Filling.{TellsRows, FilledBy, CountedBy}
use Rattle.filling.specs.declared.Counted.{Counted}
use Rattle.filling.specs.declared.Filled.{Filled}
use Rattle.filling.proofs.CountRows.{cell_refused, cell_passed, cell_exact, cell_few}

-- what a call answers that hands a refusal on
pub told_err : {A : Type 0} (told : A → List ℕ) (r : Result A Refusal) (e : Refusal) → IsErrAnd r (λ y. y ≡ e) → answered told r ≡ refused_by e
told_err told r e i = let p = err_from_is_err_and r i in ap (answered told) (p.1) ∙ ap refused_by p.2

-- ---- the cells

-- the start's cell
pub start_cell : (A : Automaton) (h x : ℕ) (cells after : List ℕ) (p : ℕ) → p ≡ A.states → x < p → after ≡ filled A h cells → get_or after (h * p + x) 0 ≡ min (N A h x) most
unfolding cell
start_cell A h x cells after p q lt e =
    ap (λ (l : List ℕ). get_or l (h * p + x) 0) e
    ∙ ap (λ (n : ℕ). get_or (filled A h cells) (h * n + x) 0) q
    ∙ filled_at A h cells h x (omega arith) (omega arith)

-- the cell tells rows 9 and 10, and else it is N
module _ (o : Loaded) (h : ℕ) (cells left table : List ℕ) where
  cut : left ≡ filled (record_automaton o.rig) h cells → get_or left (h * o.states + o.start) 0 ≡ min (N (record_automaton o.rig) h o.start) most
  cut e = start_cell (record_automaton o.rig) h o.start cells left o.states o.joint o.start_below e

  pub fills-told : (f : Filled) → f.count ≡ get_or left (h * o.states + o.start) 0 → f.passes ≡ passes (record_automaton o.rig) → left ≡ filled (record_automaton o.rig) h cells
      → Tabled (record_automaton o.rig) o.states table → TellsRows f.count f.checked → FilledBy (record_automaton o.rig) o.states o.start h f cells left table
  fills-told f n s q d t = record { rows = t; counted = n ∙ cut q; passed = s; cells_filled = q; tabled = d }

  -- the same for a call
  pub fills-refused : (e : Refusal) → left ≡ filled (record_automaton o.rig) h cells → Tabled (record_automaton o.rig) o.states table
      → TellsRows {K = ⊤} (get_or left (h * o.states + o.start) 0) (Err e) → CountedBy (record_automaton o.rig) o.states o.start h (Err e) cells left table
  fills-refused e q d t =
      let s = rw (cut q) at t in
      record { rows = record { answer = s.answer; some = tt; few = tt }; counted = tt; passed = tt; cells_filled = q; tabled = d }

  pub fills-counted : (s : ℕ) → s ≡ passes (record_automaton o.rig) → left ≡ filled (record_automaton o.rig) h cells → Tabled (record_automaton o.rig) o.states table
      → TellsRows {K = ⊤} (get_or left (h * o.states + o.start) 0) (Ok tt)
      → CountedBy (record_automaton o.rig) o.states o.start h (Ok (record { count = get_or left (h * o.states + o.start) 0; passes = s })) cells left table
  fills-counted s r q d t =
      let s = rw (cut q) at t in
      record { rows = record { answer = s.answer; some = s.some; few = s.few }; counted = cut q; passed = r; cells_filled = q; tabled = d }

pub cell_room : (h p x n : ℕ) → x < p → (h + 1) * p ≤ n → h * p + x < n
cell_room h p x n lt le = omega (arith, suc-mul h p, ap (λ (i : ℕ). i * p) (add-one h))

-- 9 and 10 fill the cells, and so does what fills them by itself
pub count_rows-fills : (n : ℕ) (a : Answer) → fills a ≡ true → fills (count_rows n a) ≡ true
unfolding fills
count_rows-fills n a f = case (eqb n 0) (λ q. rw q) (λ q. rw q (case (leb most n) (λ r. rw r) (λ r. rw r f)))

pub total-rows_fill : (t : List ℕ) (h : ℕ) → fills (total_rows t h) ≡ true
unfolding counted fills
total-rows_fill t h = count_rows-fills (total t h) (served (total t h ∷ passes (rig_automaton t) ∷ [])) refl

-- ---- what filling tells

module _ {A : Automaton} {p x h : ℕ} {cells left table : List ℕ} where
  pub told_refused : {e : Refusal} → CountedBy A p x h (Err e) cells left table → (a : Answer) → refused_by e ≡ count_rows (N A h x) a
  told_refused fs = cell_refused (N A h x) refl fs.rows

  module _ {f : Counted} (fs : CountedBy A p x h (Ok f) cells left table) where
    pub told_passed : (a : Answer) → a ≡ count_rows (N A h x) a
    told_passed = cell_passed (N A h x) refl fs.rows

    -- the count told is N
    pub told_exact : f.count ≡ N A h x
    told_exact = fs.counted ∙ cell_exact (N A h x) refl fs.rows

    pub told_few : N A h x < most
    told_few = cell_few (N A h x) refl fs.rows

    pub told_some : 1 ≤ N A h x
    told_some = omega (arith, fs.rows.some)

    -- N and the passes, told
    pub told_count : served (f.count ∷ f.passes ∷ []) ≡ count_rows (N A h x) (served (N A h x ∷ passes A ∷ []))
    told_count = rw (told_exact, fs.passed) (told_passed (served (N A h x ∷ passes A ∷ [])))

-- ---- rows 1 to 8 and 16 to 18, as the whole call sees them

-- one of them applied: its refusal is the answer, and the cells are as before
module _ {t : List ℕ} {rows h : ℕ} (cells : List ℕ) {e : Refusal} (op : Opens t rows h (length cells) (Err e)) where
  pub early_answer : (a : Answer) → refused_by e ≡ sized_for t rows h cells a
  early_answer a = sym (op.answer cells a refl)

  pub early_cells : (a : Answer) (A : Automaton) → cells ≡ cells_after (sized_for t rows h cells a) A h cells
  unfolding cells_after
  early_cells a A = rw (← early_answer a, op.untouched)

  pub early_output : (a : Answer) (fresh out : List ℕ) → out ≡ output_after (sized_for t rows h cells a) fresh out
  unfolding output_after
  early_output a fresh out = rw (← early_answer a)

  pub early_freed : (a : Answer) (need : ℕ) → CellsFreed (sized_for t rows h cells a) need cells cells
  unfolding CellsFreed
  early_freed a need = rw (← early_answer a, op.untouched)

-- they are passed: the record stands for the text
module _ {t : List ℕ} {rows h : ℕ} (cells : List ℕ) {o : Loaded} (op : Opens t rows h (length cells) (Ok o)) where
  pub passed_answer : (a : Answer) → sized_for t rows h cells a ≡ a
  passed_answer a = op.answer cells a refl

  -- rows 9 and 10 on the record's automaton are those on the text's
  pub counted_is : (a : Answer) → count_rows (N (record_automaton o.rig) h o.start) a ≡ counted t h a
  unfolding counted total
  counted_is a = rw (op.ready.automaton, op.ready.starts)

  pub total_is : N (record_automaton o.rig) h o.start ≡ total t h
  unfolding total
  total_is = rw (op.ready.automaton, op.ready.starts)

  -- and so is what a call that counts tells
  pub total_rows_are : count_from (record_automaton o.rig) h o.start ≡ sized_for t rows h cells (total_rows t h)
  total_rows_are = rw (passed_answer (total_rows t h), ← op.ready.automaton, ← total_is) (counted_is _)

  -- what fills the cells leaves them as promised
  pub passed_cells : (a : Answer) (after : List ℕ) → fills a ≡ true → after ≡ filled (record_automaton o.rig) h cells → after ≡ cells_after (sized_for t rows h cells a) (rig_automaton t) h cells
  unfolding cells_after
  passed_cells a after f q = rw (passed_answer a, f, ← op.ready.automaton) q

  -- and what leaves some free; a refusal that does not touches none
  pub passed_freed : (a : Answer) (need : ℕ) (after : List ℕ) → fills a ≡ true → Freed need cells after → CellsFreed (sized_for t rows h cells a) need cells after
  unfolding CellsFreed
  passed_freed a need after f w = rw (passed_answer a, f) w

  pub passed_untouched : (a : Answer) (need : ℕ) → fills a ≡ false → CellsFreed (sized_for t rows h cells a) need cells cells
  unfolding CellsFreed
  passed_untouched a need f = rw (passed_answer a, f)

-- Count, with room for all rows up to h
module _ {t : List ℕ} {h : ℕ} (cells : List ℕ) where
  module _ {e : Refusal} (op : Opens t (h + 1) h (length cells) (Err e)) where
    pub early_count : refused_by e ≡ count t h cells
    unfolding count
    early_count = early_answer cells op _

    pub early_count_cells : cells ≡ count_cells t h cells
    unfolding count_cells count
    early_count_cells = early_cells cells op _ _

  module _ {o : Loaded} (op : Opens t (h + 1) h (length cells) (Ok o)) where
    pub count_is : count_from (record_automaton o.rig) h o.start ≡ count t h cells
    unfolding count
    count_is = total_rows_are cells op

    pub count_cells_are : (after : List ℕ) → after ≡ filled (record_automaton o.rig) h cells → after ≡ count_cells t h cells
    unfolding count_cells count
    count_cells_are after q = passed_cells cells op (total_rows t h) after (total-rows_fill t h) q
