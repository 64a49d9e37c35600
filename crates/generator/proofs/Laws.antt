-- What the steps of a call come to, case by case. Assumes nothing.
use mathlib.Core.Path.{◌≡◌, refl, sym, ap, ◌∙◌}
use mathlib.Core.Bool.{Bool, true, false, not}
use mathlib.Core.List.{List, []}
use Prim.Native.Nat.{ℕ, ◌+◌, ◌*◌, ◌≤◌, ◌<◌}
use lib.ListN.{length}
use lib.Dec.{ltb}
use Rattle.std.specs.Prelude.{⊤, Some, None, Result, Ok, Err, is_ok, MatchResult, IsErrAnd}
use borrow.Author.Tests.{ltb-true, ltb-false, lt-ltb, le-ltb}
use Rattle.lists.specs.Lists.{pick, concat_map}
use Rattle.lists.proofs.Tests.{contra, case}
use Rattle.automaton.specs.Automaton.{Automaton}
use Rattle.automaton.specs.Counting.{N}
use Rattle.automaton.specs.Ranking.{unrank, rank, first_violation}
use Rattle.rig.specs.Record.{record_automaton}
use Rattle.promises.specs.Answer.{Answer, served, refused}
use Rattle.promises.specs.Text.{decoded, events_of}
use Rattle.promises.specs.Rig.{rig_automaton, start}
use Rattle.promises.specs.Calls.{not_below, count, indices_row, sequence_row, filled, fills, cells_after, output_after, unless_at, first_bad, sized_for, total, counted, list_rows, scenarios, scenarios_cells, written, index, index_cells}
use Rattle.ranking.specs.Ranks.{ranked_as, with_scenarios, all_or_place}
use Rattle.ranking.proofs.Premises.{served_fresh}
use Rattle.ranking.proofs.Walk.{good_all}
use Rattle.checks.specs.Loading.{Opens}
use Rattle.checks.specs.declared.loaded.Loaded.{Loaded}
use Rattle.filling.specs.declared.Counted.{Counted}
use Rattle.filling.specs.Filling.{CountedBy}
use Rattle.filling.proofs.Rows.{told_err, count_rows-fills, told_refused, told_count, early_answer, early_cells, early_output, passed_answer, counted_is, total_is, passed_cells, count_is}
use Rattle.refusal.specs.declared.Refusal.{Refusal}
use Rattle.refusal.specs.declared.Refusal.TheVariants.{NoSuchIndex, Violation}
use Rattle.refusal.specs.Numbers.{refused_by, answered}
use Rattle.refusal.specs.Places.{place_in}
use Rattle.refusal.proofs.Places.{place_found, place_missing}
use Rattle.generator.specs.Outcomes.{count_answer, list_answer, index_answer, list_from, output_from, index_from}

-- ---- Scenarios

-- a place that is handed on as a refusal there
abbrev pub Placed : {A : Type 0} → (ℕ → Refusal) → Result A ℕ → Result A Refusal → Type 0
Placed refusal k r = MatchResult k (λ x. r ≡ Ok x) (λ p. IsErrAnd r (λ e. e ≡ refusal p))

placed_err : {A : Type 0} (told : A → List ℕ) (refusal : ℕ → Refusal) (p : ℕ) (r : Result A Refusal) → Placed refusal (Err p) r → answered told r ≡ refused_by (refusal p)
placed_err told refusal p r m = told_err told r _ m

-- the list walker's place is that of refusal 11; where there is none, every scenario is written
module _ (A : Automaton) (h x n : ℕ) (is out after : List ℕ) (e : n ≡ N A h x) where
  abbrev place : ℕ
  place = first_bad (not_below n) is

  place_is : place ≡ first_bad (not_below (N A h x)) is
  place_is = ap (λ (m : ℕ). first_bad (not_below m) is) e

  bad : (r : Result ⊤ Refusal) → Placed NoSuchIndex (Err place) r → after ≡ out → place < length is
      → (list_answer r ≡ indices_row (N A h x) is) × (after ≡ output_after (list_answer r) (concat_map (unrank A h x) is) out)
  unfolding unless_at output_after
  bad r m w lt =
      let a : list_answer r ≡ refused 11 place = placed_err _ NoSuchIndex place r m in
      (a ∙ rw (← place_is, lt-ltb place (length is) lt), rw a w)

  good : (r : Result ⊤ Refusal) → r ≡ Ok tt → after ≡ with_scenarios A h x is out → length is ≤ place
      → (list_answer r ≡ indices_row (N A h x) is) × (after ≡ output_after (list_answer r) (concat_map (unrank A h x) is) out)
  unfolding unless_at output_after
  good r m w le = (
    rw (m, ← place_is, le-ltb place (length is) le),
    rw m (w ∙ served_fresh A h x is out (good_all (N A h x) is (rw place_is at le))),
  )

  pub listed : (k : Result ⊤ ℕ) (r : Result ⊤ Refusal) → Placed NoSuchIndex k r → k ≡ all_or_place (length is) place → after ≡ pick (is_ok k) (with_scenarios A h x is out) out
      → (list_answer r ≡ indices_row (N A h x) is) × (after ≡ output_after (list_answer r) (concat_map (unrank A h x) is) out)
  listed k r m q w = case (ltb place (length is))
      (λ b. let z : k ≡ Err place = q ∙ rw b in bad r (rw z at m) (rw z at w) (ltb-true place (length is) b))
      (λ b. let z : k ≡ Ok tt = q ∙ rw b in good r (rw z at m) (rw z at w) (ltb-false place (length is) b))

  -- where the indices are looked at before anything is written
  pub listed_some : (k : ℕ) → Some k ≡ place_in (length is) place → (refused 11 k ≡ indices_row (N A h x) is) × (out ≡ output_after (refused 11 k) (concat_map (unrank A h x) is) out)
  unfolding unless_at output_after
  listed_some k q = let t = place_found (length is) place k q in (rw (t.0, ← place_is, lt-ltb place (length is) t.1), refl)

  pub listed_none : None ≡ place_in (length is) place → after ≡ with_scenarios A h x is out
      → (served [] ≡ indices_row (N A h x) is) × (after ≡ output_after (served []) (concat_map (unrank A h x) is) out)
  listed_none q w = good (Ok tt) refl w (place_missing (length is) place q)

-- refusal 14, or the index, as ranking tells it
pub ranked : (A : Automaton) (x : ℕ) (s : List ℕ) (k : Result ℕ ℕ) (r : Result ℕ Refusal) → Placed Violation k r → k ≡ ranked_as A x s → index_answer r ≡ sequence_row A x s
unfolding ranked_as
ranked A x s k r m q = case (ltb (first_violation A x s) (length s))
    (λ b. let z : k ≡ Err (first_violation A x s) = q ∙ rw b in rw b (placed_err _ Violation _ r (rw z at m)))
    (λ b. let z : k ≡ Ok (rank A x s) = q ∙ rw b in rw b (rw (rw z at m)))

-- ---- Scenarios and Index as the text sees them

pub fits_true : (b : Bool) (o m : ℕ) → b ≡ not (ltb o m) → b ≡ true → m ≤ o
fits_true b o m q e = case (ltb o m) (λ p. let z : false ≡ true = rw p at (sym q ∙ e) in contra z refl) (λ p. ltb-false o m p)

pub fits_false : (b : Bool) (o m : ℕ) → b ≡ not (ltb o m) → b ≡ false → ltb o m ≡ true
fits_false b o m q e = case (ltb o m) (λ p. p) (λ p. let z : true ≡ false = rw p at (sym q ∙ e) in contra refl z)

at_11 : (n : ℕ) (is : List ℕ) → fills (indices_row n is) ≡ true
unfolding unless_at fills
at_11 n is = case (ltb (first_bad (not_below n) is) (length is)) (λ p. rw p) (λ p. rw p)

at_14 : (A : Automaton) (x : ℕ) (s : List ℕ) → fills (sequence_row A x s) ≡ true
unfolding fills
at_14 A x s = case (ltb (first_violation A x s) (length s)) (λ p. rw p) (λ p. rw p)

-- past 12, a call that lists scenarios fills the cells
pub list_fills : (t : List ℕ) (h : ℕ) (is out : List ℕ) → length is * h ≤ length out → fills (list_rows t h is out) ≡ true
unfolding counted
list_fills t h is out fit = rw (le-ltb (length out) (length is * h) fit) (count_rows-fills (total t h) _ (at_11 (total t h) is))

-- ---- a refusal up to row 8 is the answer itself

module _ {t : List ℕ} {h : ℕ} (cells : List ℕ) {e : Refusal} (op : Opens t (h + 1) h (length cells) (Err e)) (is out : List ℕ) where
  pub early_scenarios : refused_by e ≡ scenarios t h is cells out
  unfolding scenarios
  early_scenarios = early_answer cells op _

  pub early_scenarios_cells : cells ≡ scenarios_cells t h is cells out
  unfolding scenarios_cells scenarios
  early_scenarios_cells = early_cells cells op _ _

  pub early_written : out ≡ written t h is cells out
  unfolding written scenarios
  early_written = early_output cells op _ _ out

module _ {t : List ℕ} (s cells : List ℕ) {e : Refusal} (op : Opens t (length s + 1) (length s) (length cells) (Err e)) where
  pub early_index : refused_by e ≡ index t s cells
  unfolding index
  early_index = early_answer cells op _

  pub early_index_cells : cells ≡ index_cells t s cells
  unfolding index_cells index
  early_index_cells = early_cells cells op _ _

-- ---- once they are passed

-- Count tells what filling tells
pub count_told : {t : List ℕ} {h : ℕ} (cells : List ℕ) {o : Loaded} → Opens t (h + 1) h (length cells) (Ok o) → (r : Result Counted Refusal) {left table : List ℕ}
    → CountedBy (record_automaton o.rig) o.states o.start h r cells left table → count_answer r ≡ count t h cells
count_told cells op (Err e) fs = told_refused fs _ ∙ count_is cells op
count_told cells op (Ok f) fs = told_count fs ∙ count_is cells op

-- what a call that lists scenarios tells, with room for so many rows
module _ {t : List ℕ} {rows h : ℕ} (cells : List ℕ) {o : Loaded} (op : Opens t rows h (length cells) (Ok o)) (is out : List ℕ) where
  -- 12
  pub list_short : ltb (length out) (length is * h) ≡ true → refused 12 0 ≡ sized_for t rows h cells (list_rows t h is out)
  list_short q = rw (passed_answer cells op, q)

  pub list_are : length is * h ≤ length out → list_from (record_automaton o.rig) h o.start is ≡ sized_for t rows h cells (list_rows t h is out)
  list_are fit = rw (passed_answer cells op, le-ltb (length out) (length is * h) fit, total_is cells op) (rw (← total_is cells op) (counted_is cells op _))

module _ {t : List ℕ} {h : ℕ} (cells : List ℕ) {o : Loaded} (op : Opens t (h + 1) h (length cells) (Ok o)) (is out : List ℕ) where
  module _ (short : ltb (length out) (length is * h) ≡ true) where
    pub short_output : refused 12 0 ≡ scenarios t h is cells out
    unfolding scenarios
    short_output = list_short cells op is out short

    pub short_cells : cells ≡ scenarios_cells t h is cells out
    unfolding scenarios_cells cells_after fills
    short_cells = rw (← short_output)

    pub short_written : out ≡ written t h is cells out
    unfolding written output_after
    short_written = rw (← short_output)

  module _ (fit : length is * h ≤ length out) where
    pub scenarios_are : list_from (record_automaton o.rig) h o.start is ≡ scenarios t h is cells out
    unfolding scenarios
    scenarios_are = list_are cells op is out fit

    pub scenarios_cells_are : (after : List ℕ) → after ≡ filled (record_automaton o.rig) h cells → after ≡ scenarios_cells t h is cells out
    unfolding scenarios_cells scenarios
    scenarios_cells_are after q = passed_cells cells op _ after (list_fills t h is out fit) q

    pub written_are : (a : Answer) (after : List ℕ) → a ≡ scenarios t h is cells out → after ≡ output_from (record_automaton o.rig) h o.start a is out → after ≡ written t h is cells out
    unfolding written
    written_are a after f q = rw (← f, ← op.ready.automaton, ← op.ready.starts) q

    -- 9 and 10
    pub refused_written : (e : Refusal) → refused_by e ≡ scenarios t h is cells out → out ≡ written t h is cells out
    unfolding written output_after
    refused_written e q = rw (← q)

module _ {t : List ℕ} (s cells : List ℕ) {o : Loaded} (op : Opens t (length s + 1) (length s) (length cells) (Ok o)) where
  -- 13
  module _ (k : ℕ) (q : Some k ≡ place_in (length s) (first_bad (not_below o.rig.events) s)) where
    bad_event : (a : Answer) → refused 13 k ≡ unless_at 13 (not_below (events_of (decoded t))) s a
    unfolding unless_at
    bad_event a = let f = place_found (length s) (first_bad (not_below o.rig.events) s) k q in rw (← op.ready.events, lt-ltb _ (length s) f.1, f.0)

    pub bad_index : refused 13 k ≡ index t s cells
    unfolding index
    bad_index = bad_event _ ∙ sym (passed_answer cells op _)

    pub bad_index_cells : cells ≡ index_cells t s cells
    unfolding index_cells cells_after fills
    bad_index_cells = rw (← bad_index)

  module _ (q : None ≡ place_in (length s) (first_bad (not_below o.rig.events) s)) where
    good_events : (a : Answer) → unless_at 13 (not_below (events_of (decoded t))) s a ≡ a
    unfolding unless_at
    good_events a = rw (← op.ready.events, le-ltb (first_bad (not_below o.rig.events) s) (length s) (place_missing (length s) (first_bad (not_below o.rig.events) s) q))

    pub index_is : index_from (record_automaton o.rig) o.start s ≡ index t s cells
    unfolding index
    index_is =
        counted_is cells op (sequence_row (record_automaton o.rig) o.start s)
        ∙ rw (op.ready.automaton, op.ready.starts) (sym (passed_answer cells op _ ∙ good_events _))

    pub index_cells_are : (after : List ℕ) → after ≡ filled (record_automaton o.rig) (length s) cells → after ≡ index_cells t s cells
    unfolding index_cells index counted
    index_cells_are after f =
        passed_cells cells op _ after (rw (good_events) (count_rows-fills (total t (length s)) _ (at_14 (rig_automaton t) (start t) s))) f
