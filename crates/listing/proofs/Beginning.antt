-- What a listing begins with: the answer of the whole input from what each step tells. Assumes nothing.
use mathlib.Core.Path.{◌≡◌, refl, sym, ap, ◌∙◌}
use mathlib.Core.List.{List, ◌++◌}
use mathlib.Core.Option.{none, some}
use Prim.Native.Nat.{ℕ, ◌+◌, ◌*◌, ◌≤◌, ◌<◌, min}
use native.Mathlib.Omega.{arith}
use native.Mathlib.Nat.{suc-mul}
use native.Mathlib.Numerals.{add-one}
use lib.ListN.{length, take, drop, length-replicate}
use lib.Seq.{take_at}
use Rattle.std.specs.Prelude.{Result, Ok, IsErrAnd, MatchResult}
use Rattle.std.proofs.lemmas.Result.{err_from_is_err_and}
use Rattle.automaton.specs.Automaton.{Automaton}
use Rattle.automaton.specs.Counting.{N}
use Rattle.automaton.specs.Ranking.{unrank}
use Rattle.promises.specs.Answer.{Answer, refused}
use Rattle.promises.specs.Text.{bytes}
use Rattle.promises.specs.Rig.{rig_automaton, start}
use Rattle.promises.specs.Calls.{count_from, fills, cells_after, sized_for, count, count_cells}
use Rattle.ranking.proofs.Premises.{filled_exact}
use Rattle.ranking.proofs.Walk.{length-unrank}
use Rattle.rig.specs.Record.{record_automaton}
use Rattle.refusal.specs.declared.Refusal.{Refusal}
use Rattle.joint.proofs.Digits.{states_few}
use Rattle.checks.specs.Loading.{Fits}
use Rattle.checks.specs.declared.loaded.Loaded.{Loaded}
use Rattle.filling.specs.declared.Counted.{Counted}
use Rattle.filling.specs.Filling.{CountedBy}
use Rattle.filling.proofs.Rows.{told_count, told_exact, told_few, told_some}
use Rattle.line.specs.Line.{line_of, numbers_of}
use Rattle.listing.specs.Listing.{asked, text, owned, answer, head_line, cells_left, horizon, scenario_line}
use Rattle.listing.specs.Printing.{Leads, EventsBy, Begins, Serves}
use Rattle.listing.specs.declared.Cursor.{Cursor}

-- ---- the first line

-- what is told of one answer and automaton is told of equal ones
pub begins_as : (a a' : Answer) (A A' : Automaton) (x x' h h' : ℕ) (c : Cursor) (d l cells table : List ℕ) → a ≡ a' → A ≡ A' → x ≡ x' → h ≡ h'
    → Begins a A x h c d l cells table → Begins a' A' x' h' c d l cells table
begins_as a a' A A' x x' h h' c d l cells table p q r s w = rw (← p, ← q, ← r, ← s) w

pub begins-refused : (n p : ℕ) (A : Automaton) (x h m : ℕ) (d l cells table : List ℕ) → Leads (head_line (refused n p)) m d l
    → Begins (refused n p) A x h (record { length = m; index = 0; lines = 0; horizon = 0; states = 1; start = 0 }) d l cells table
begins-refused n p A x h m d l cells table w = record {
  limits = record { short = omega arith; start_below = omega arith; few_states = omega arith; enough = omega arith; few_lines = omega arith };
  first = w;
  none_yet = refl;
  follows = refl;
  idle = λ e. (refl, refl, refl);
  serves = λ lt. absurd (omega arith);
}

-- what a call tells that hands a refusal on
pub refused_so : {A : Type 0} (P : A → Type 0) (Q : Refusal → Type 0) (r : Result A Refusal) (e : Refusal) → IsErrAnd r (λ y. y ≡ e) → Q e → MatchResult r P Q
refused_so P Q r e i q = let p = err_from_is_err_and r i in rw (p.1, p.2) q

-- ---- the cells

rows-room : (h p n : ℕ) → (h + 1) * p ≤ n → h * p ≤ n
rows-room h p n le = omega (arith, suc-mul h p, ap (λ (i : ℕ). i * p) (add-one h))

-- cells that are filled, and a count that is exact, serve the lines
pub begins-counted : (o : Loaded) (h m n : ℕ) (f : Counted) (old d l cells table : List ℕ) → Fits o.rig o.states o.start h (length old) → length old ≡ 8192
    → CountedBy (record_automaton o.rig) o.states o.start h (Ok f) old cells table → n ≡ min f.count 1000
    → Leads (numbers_of (bytes "count") f.count f.passes) m d l
    → Begins (count_from (record_automaton o.rig) h o.start) (record_automaton o.rig) o.start h (record { length = m; index = 0; lines = n; horizon = h; states = o.states; start = o.start }) d l cells table
begins-counted o h m n f old d l cells table z long fs q w = rw (← told_count fs) (record {
  limits = record {
    short = z.horizon;
    start_below = z.start_below;
    few_states = omega (arith, states_few o.rig z.well_formed, z.joint);
    enough = omega (arith, rows-room h o.states (length old) z.enough);
    few_lines = omega arith;
  };
  first = w;
  none_yet = refl;
  follows = q;
  idle = λ i. absurd (omega (arith, some_count));
  serves = λ lt. (
    refl,
    record {
      starts = refl;
      exact = filled_exact (record_automaton o.rig) o.states h o.start table cells old fs.tabled fs.cells_filled (told_few fs);
      below = omega (arith, told_exact fs);
    },
  );
})
  where
    some_count : 1 ≤ f.count
    some_count = rw (told_exact fs) (told_some fs)

-- ---- the input

-- Count reads of its cells only how many they are
pub count_room : (t : List ℕ) (h : ℕ) (c d : List ℕ) → length c ≡ length d → count t h c ≡ count t h d
unfolding count sized_for
count_room t h c d q = rw q

owned_long : length owned ≡ 8192
unfolding owned
owned_long = length-replicate {A = ℕ} 8192 0

module _ (input cells : List ℕ) where
  pub answer_bad : asked input ≡ none → refused 2 0 ≡ answer input
  unfolding answer
  answer_bad e = rw e

  pub cells_bad : asked input ≡ none → cells ≡ cells_left input cells
  unfolding cells_left cells_after fills
  cells_bad e = rw (← answer_bad e)

  module _ (h : ℕ) (e : asked input ≡ some h) where
    pub horizon_is : h ≡ horizon input
    unfolding horizon
    horizon_is = rw e

    pub answer_good : length cells ≡ 8192 → count (text input) h cells ≡ answer input
    unfolding answer
    answer_good l = rw e (count_room (text input) h cells owned (l ∙ sym owned_long))

    pub cells_good : (left : List ℕ) → length cells ≡ 8192 → left ≡ count_cells (text input) h cells → left ≡ cells_left input cells
    unfolding cells_left count_cells
    cells_good left l q = q ∙ rw (answer_good l, horizon_is)

-- ---- the line of an index

pub leads-next : (t : List ℕ) (c : Cursor) (cells table es d line l : List ℕ) (r : ℕ) → Serves t c cells table → c.index < c.lines
    → EventsBy table cells c.states c.start c.horizon c.index d es
    → r ≡ length (line_of c.index (take c.horizon es)) → l ≡ line_of c.index (take c.horizon es) ++ drop (length (line_of c.index (take c.horizon es))) line
    → Leads (scenario_line t c.horizon c.index) r line l
unfolding scenario_line
leads-next t c cells table es d line l r ls lt u e w = rw (← events_are) (record { told = e; written = w })
  where
    A : Automaton
    A = rig_automaton t

    h : ℕ
    h = c.horizon

    x : ℕ
    x = start t

    is_below : c.index < N A h x
    is_below = omega (arith, ls.below)

    written : EventsBy table cells c.states x h c.index d es
    written = rw ls.starts at u

    events_are : take c.horizon es ≡ unrank (rig_automaton t) c.horizon (start t) c.index
    events_are =
        ap (take h) (written A ls.exact is_below)
        ∙ take_at (unrank A h x c.index) (drop h d) h (length-unrank A h x c.index is_below)
