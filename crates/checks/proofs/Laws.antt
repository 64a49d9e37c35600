-- What the checks come to, case by case. Assumes nothing.
use mathlib.Core.Path.{◌≡◌, refl, sym, ap, ◌∙◌}
use mathlib.Core.Logic.{inl}
use mathlib.Core.List.{List, []}
use Prim.Native.Nat.{ℕ, ◌*◌, ◌≤◌, ◌<◌}
use native.Mathlib.Omega.{arith}
use native.Mathlib.Nat.{mul-le-mul}
use borrow.Author.Tests.{lt-ltb, le-ltb}
use Rattle.std.specs.Prelude.{Result, Ok, Err}
use Rattle.rig.specs.declared.Rig.{Rig}
use Rattle.rig.specs.Record.{record_automaton, record_start, WellFormed, empty_rig}
use Rattle.promises.specs.Answer.{served, Served}
use Rattle.promises.specs.Text.{Readable, joint_states}
use Rattle.promises.specs.Reading as promised
use Rattle.promises.specs.Rig.{rig_automaton}
use Rattle.promises.specs.Calls.{sized_for}
use Rattle.promises.specs.Small.{small_rows}
use Rattle.promises.specs.Forward.{forward_rows}
use Rattle.promises.proofs.Meaning.{rig-states}
use Rattle.promises.proofs.Reading.{reading-serves, reading_refuses}
use Rattle.promises.proofs.Buffers.{early_fills, fault_fills}
use Rattle.refusal.specs.declared.Refusal.{Refusal}
use Rattle.refusal.specs.declared.Refusal.TheVariants.{LongHorizon, FewCells}
use Rattle.refusal.specs.Numbers.{number_of, place_of, refused_by}
use Rattle.joint.proofs.Starts.{start_lt}
use Rattle.reader.specs.Reading.{record_of}
use Rattle.reader.specs.Record.{ReadFrom}
use Rattle.reader.proofs.Record.{read_from}
use Rattle.checks.specs.Loading.{rows_for, Loads, Opens, ChecksSizes}
use Rattle.checks.specs.declared.Rows.{Rows}
use Rattle.checks.specs.declared.Rows.TheVariants.{All, Sixteenths, Two}
use Rattle.checks.specs.declared.States.{States}
use Rattle.checks.specs.declared.Checked.{Checked}
use Rattle.checks.specs.declared.loaded.Loaded.{Loaded}

-- ---- the horizon and the room

-- at most all rows up to 1,000 are needed
rows_few : (k : Rows) (h : ℕ) → h ≤ 1000 → rows_for k h ≤ 1001
unfolding small_rows forward_rows
rows_few All h le = omega arith
rows_few Sixteenths h le = omega arith
rows_few Two h le = omega arith

pub cells_few : (k : Rows) (h p : ℕ) → h ≤ 1000 → p ≤ 1024 → rows_for k h * p ≤ 1001 * 1024
cells_few k h p a b = mul-le-mul {n₁ = rows_for k h} {m₁ = p} {n₂ = 1001} {m₂ = 1024} (rows_few k h a) b

pub sizes_7 : (r : Rig) (rows h room : ℕ) → 1000 < h → ChecksSizes r rows h room (record { rig = r; checked = Err LongHorizon })
sizes_7 r rows h room c = record {
  answer = λ a. rw (lt-ltb 1000 h c);
  untouched = early_fills 7 0 (inl (omega arith));
  same = refl;
  passed = tt;
}

pub sizes_8 : (r : Rig) (rows h room n states : ℕ) → h ≤ 1000 → n ≡ rows → states ≡ (record_automaton r).states → room < n * states → ChecksSizes r rows h room (record { rig = r; checked = Err FewCells })
sizes_8 r rows h room n states c m q lt = record {
  answer = λ a. rw (le-ltb 1000 h c, ← m, ← q, lt-ltb room (n * states) lt);
  untouched = early_fills 8 0 (inl (omega arith));
  same = refl;
  passed = tt;
}

pub sizes_on : (r : Rig) (rows h room n states start : ℕ) → WellFormed r → h ≤ 1000 → n ≡ rows → states ≡ (record_automaton r).states → n * states ≤ room → start ≡ record_start r
    → ChecksSizes r rows h room (record { rig = r; checked = Ok (record { count = states; start = start }) })
sizes_on r rows h room n states start w c m q le e = record {
  answer = λ a. rw (le-ltb 1000 h c, ← m, ← q, le-ltb room (n * states) le);
  untouched = tt;
  same = refl;
  passed = record { well_formed = w; joint = q; starts = e; start_below = rw (q, e) (start_lt r w); horizon = c; enough = rw (← m) le };
}

-- ---- the text

-- a refused text: the refusal is that of reading, whatever the rest says, and the record that of no line
pub loads-refused : (t : List ℕ) (rows h room : ℕ) (e : Refusal) → refused_by e ≡ promised.reading t → Loads t rows h room (record { rig = empty_rig; checked = Err e })
unfolding sized_for record_of
loads-refused t rows h room e q = record {
  answer = λ cells a l. rw (sym q);
  untouched = fault_fills t (number_of e) (place_of e) ((reading_refuses t (number_of e) (place_of e)).0 (sym q));
  is_record = rw (← q);
  ready = tt;
}

-- a readable text: rows 7 and 8 of its record
module _ (t : List ℕ) (r : Rig) (q : served [] ≡ promised.reading t) (e : r ≡ record_of t) where
  readable : Readable t
  unfolding Served
  readable = (reading-serves t).0 ([], sym q)

  from : ReadFrom t (record_of t)
  from = read_from t readable

  automaton : record_automaton r ≡ rig_automaton t
  automaton = ap record_automaton e ∙ from.automaton_is

  states : (record_automaton r).states ≡ joint_states t
  states = ap (λ A. A.states) automaton ∙ rig-states t

  pub read_well_formed : WellFormed r
  read_well_formed = rw e from.well_formed

  pub loads-readable : (rows h room : ℕ) (x : Rig) (o : Result States Refusal) → ChecksSizes r rows h room (record { rig = x; checked = o }) → Loads t rows h room (record { rig = x; checked = o })
  unfolding sized_for
  loads-readable rows h room x (Err y) w = record { answer = λ cells a l. rw (← q, l, ← states) (w.answer a); untouched = w.untouched; is_record = w.same ∙ e; ready = tt }
  loads-readable rows h room x (Ok o) w = record {
    answer = λ cells a l. rw (← q, l, ← states) (w.answer a);
    untouched = tt;
    is_record = w.same ∙ e;
    ready = rw w.same (record {
      readable = readable;
      automaton = automaton;
      events = rw e from.events_are;
      starts = w.passed.starts ∙ ap record_start e ∙ from.start_is;
      fits = w.passed;
    });
  }

-- ---- a call, which is told no record beside a refusal

-- what a call is told, with the record r where it is refused
abbrev pub told_with : Rig → Result Loaded Refusal → Checked
told_with r (Ok l) = record { rig = l.rig; checked = Ok (record { count = l.states; start = l.start }) }
told_with r (Err e) = record { rig = r; checked = Err e }

pub opens-told : (t : List ℕ) (rows h room : ℕ) (r : Rig) (o : Result Loaded Refusal) → Loads t rows h room (told_with r o) → Opens t rows h room o
opens-told t rows h room r (Ok l) w = record { answer = w.answer; untouched = tt; is_record = w.is_record; ready = w.ready }
opens-told t rows h room r (Err e) w = record { answer = w.answer; untouched = w.untouched; is_record = tt; ready = tt }

pub opens-refused : (t : List ℕ) (rows h room : ℕ) (e : Refusal) → refused_by e ≡ promised.reading t → Opens t rows h room (Err e)
opens-refused t rows h room e q = opens-told t rows h room empty_rig (Err e) (loads-refused t rows h room e q)

pub opens-readable : (t : List ℕ) (r : Rig) → served [] ≡ promised.reading t → r ≡ record_of t
    → (rows h room : ℕ) (o : Result Loaded Refusal) → ChecksSizes r rows h room (told_with r o) → Opens t rows h room o
opens-readable t r q e rows h room o w = opens-told t rows h room r o (loads-readable t r q e rows h room _ _ w)
