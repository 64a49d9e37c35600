-- The reader on its way through a text: what it has passed, and what is left to read. Assumes nothing.
--   whole_reading t         == what reading the lines of t gives
--   Passed r t z n s mv sp gv ct st os == the lines of t before s, which is left of it, are read into r with no refusal; the next one is line n
use mathlib.Core.Path.{◌≡◌, refl, sym, ap, ◌∙◌}
use mathlib.Core.Bool.{true, false}
use mathlib.Core.List.{List, [], ◌∷◌, ◌++◌, append_assoc, append-nil}
use Prim.Native.Nat.{ℕ, suc, ◌+◌, ◌≤◌, ◌<◌}
use native.Mathlib.Omega.{arith}
use lib.ListN.{length, get_or, take, drop, length-append, length-drop}
use lib.Dec.{eqb}
use borrow.Author.Tests.{eq-eqb, ne_eqb, le-ltb, lt-ltb}
use Rattle.std.specs.Prelude.{Option, None, Result, Ok, Err, is_ok, IsErrAnd}
use Rattle.lists.specs.Lists.{index_of}
use Rattle.lists.proofs.Tests.{contra}
use Rattle.promises.specs.Answer.{Answer, served, refused}
use Rattle.promises.specs.Text.{Line, monitors, decode, decoded, unended}
use Rattle.promises.specs.Reading.{empty, line_case, reading_from, reading}
use Rattle.refusal.specs.Numbers.{fault_number, number_of, place_of}
use Rattle.refusal.specs.declared.Fault.{Fault}
use Rattle.refusal.specs.declared.Fault.TheVariants.{NoForm, OutOfRange, GivenTwice, Misplaced, TooManyStates, ListedTwice, AnswersItself, EmptyHours}
use Rattle.refusal.specs.declared.Refusal.{Refusal}
use Rattle.rig.specs.declared.Rig.{Rig}
use Rattle.rig.specs.Record.{lower_first, empty_rig}
use Rattle.decoding.specs.declared.Form.{Form}
use Rattle.decoding.specs.Forms.{over, listed_in, form_of}
use Rattle.decoding.proofs.Listed.{Leaves, leaves}
use Rattle.taking.specs.declared.Sizes.{Sizes}
use Rattle.reader.specs.Reading.{answer_of, record_from, where_served, record_of}
use Rattle.taking.specs.Taking.{only_if, case_in, case_of, sizes_after, moves_after, stops_after, given_after, counts_after, starts_after}
use Rattle.reader.proofs.Lines.{decoded_first, unended_first, decoded_none, unended_all}
use Rattle.reader.proofs.Monitors.{empty-length}
use Rattle.reader.proofs.Held.{Holds, holds-none, case_is, holds_more}

abbrev pub whole_reading : List ℕ → Answer
whole_reading t = reading_from [] (decoded t) (unended t)

pub record Passed (r : Rig) (t : List ℕ) (z : Sizes) (line : ℕ) (rest : List ℕ) (mv sp gv ct st os : List ℕ) : Type 0 where
  pub front : List Line
  pub holds : Holds r front z mv sp gv ct st os
  pub counted : suc (length front) ≡ line
  pub early : line + length rest ≤ length t + 1
  pub left : whole_reading t ≡ reading_from front (decoded rest) (unended rest)
  pub split : decoded t ≡ front ++ decoded rest

pub passed_none : (t mv sp gv ct st : List ℕ) → ((i : ℕ) → i < 2048 → get_or mv i 0 ≡ 255) → ((i : ℕ) → i < 128 → get_or sp i 0 ≡ 0) → ((i : ℕ) → i < 64 → get_or gv i 0 ≡ 0)
    → length mv ≡ 2048 → length sp ≡ 128 → length gv ≡ 64 → length ct ≡ 4 → length st ≡ 4
    → Passed (record { moves = mv; stops = sp; counts = ct; starts = st; order = lower_first; monitors = 0; events = 0 }) t (record { events = 0; monitors = 0; latest = None; joint = 1 }) 1 t mv sp gv ct st lower_first
passed_none t mv sp gv ct st blank unmarked none-given long wide_stops wide_given wide wide_starts = record { front = []; holds = holds-none mv sp gv ct st blank unmarked none-given long wide_stops wide_given wide wide_starts; counted = refl; early = omega arith; left = refl; split = refl }

-- ---- the next line

-- the number of what is wrong is none of no fault
fault_some : (f : Fault) → 2 ≤ fault_number f
fault_some NoForm = omega arith
fault_some OutOfRange = omega arith
fault_some GivenTwice = omega arith
fault_some Misplaced = omega arith
fault_some TooManyStates = omega arith
fault_some ListedTwice = omega arith
fault_some AnswersItself = omega arith
fault_some EmptyHours = omega arith

module _ (r : Rig) (t : List ℕ) (z : Sizes) (line : ℕ) (rest mv sp gv ct st os : List ℕ) (P : Passed r t z line rest mv sp gv ct st os) where
  -- the last line is not ended
  pub stops_unended : (length rest ≡ 0 → ⊥) → length rest ≤ index_of rest 10 → whole_reading t ≡ refused 2 line
  unfolding reading_from
  stops_unended h none = P.left ∙ rw (decoded_none rest none, unended_all rest none, filled, P.counted)
    where
      filled : empty rest ≡ false
      filled = empty-length rest ∙ ne_eqb (length rest) 0 h

  module _ (ended : index_of rest 10 < length rest) where
    -- the line, and what is left after it
    abbrev end : ℕ
    end = index_of rest 10

    abbrev pub next : Line
    next = decode (take end rest)

    abbrev later : List ℕ
    later = drop (end + 1) rest

    lines_left : decoded rest ≡ next ∷ decoded later
    lines_left = decoded_first rest end refl ended

    unended_left : unended rest ≡ unended later
    unended_left = unended_first rest end refl ended

    -- its form f, and what decoding it leaves of the list os
    module _ (f : Option Form) (d : f ≡ form_of next) (left : List ℕ) (wr : left ≡ over (listed_in (take end rest)) os) where
      lv : Leaves next os left
      lv = rw wr (leaves (take end rest) os)

      case_of_lem : case_of mv sp gv left z line f ≡ line_case P.front next
      case_of_lem = rw d (case_is r P.front z mv sp gv ct st os P.holds next line left P.counted lv)

      -- a case holds of it
      pub stops_bad : (fault : Fault) → fault_number fault ≡ case_of mv sp gv left z line f → whole_reading t ≡ refused (fault_number fault) line
      unfolding reading_from
      stops_bad fault m =
          let c : line_case P.front next ≡ fault_number fault = sym case_of_lem ∙ sym m in
          let p : eqb (fault_number fault) 0 ≡ false = ne_eqb (fault_number fault) 0 (λ q. omega (arith, fault_some fault)) in
          P.left ∙ rw (lines_left, c, p, P.counted)

      reads_on : line_case P.front next ≡ 0 → reading_from P.front (decoded rest) (unended rest) ≡ reading_from (P.front ++ (next ∷ [])) (decoded later) (unended later)
      unfolding reading_from
      reads_on c = rw (lines_left, unended_left, c)

      -- no case holds of it
      pub goes_on : (y : Sizes) (nv np ng nt ns : List ℕ) → case_of mv sp gv left z line f ≡ 0 → y ≡ only_if (case_of mv sp gv left z line f) (sizes_after z f) z → nv ≡ only_if (case_of mv sp gv left z line f) (moves_after mv gv z f) mv
          → np ≡ only_if (case_of mv sp gv left z line f) (stops_after sp z f) sp → ng ≡ only_if (case_of mv sp gv left z line f) (given_after gv z f) gv → nt ≡ only_if (case_of mv sp gv left z line f) (counts_after ct z f) ct → ns ≡ only_if (case_of mv sp gv left z line f) (starts_after st z f) st → Passed r t y (line + 1) later nv np ng nt ns left
      goes_on y nv np ng nt ns p s mq pq gq cq sq =
          let m' : nv ≡ moves_after mv gv z (form_of next) = rw (p, d) at mq in
          let p' : np ≡ stops_after sp z (form_of next) = rw (p, d) at pq in
          let g' : ng ≡ given_after gv z (form_of next) = rw (p, d) at gq in
          let c' : nt ≡ counts_after ct z (form_of next) = rw (p, d) at cq in
          let s' : ns ≡ starts_after st z (form_of next) = rw (p, d) at sq in
          let z' : y ≡ sizes_after z (form_of next) = rw (p, d) at s in
          record {
            front = P.front ++ (next ∷ []);
            holds = rw (z', m', p', g', c', s') (holds_more r P.front z mv sp gv ct st os P.holds next line left P.counted lv (rw d at p));
            counted = rw length-append (omega (arith, P.counted));
            early = omega (arith, P.early, ended, length-drop (end + 1) rest);
            left = P.left ∙ reads_on (sym case_of_lem ∙ p);
            split = P.split ∙ ap (λ l. P.front ++ l) lines_left ∙ sym (append_assoc P.front (next ∷ []) (decoded later));
          }

  -- ---- the end

  module _ (over : length rest ≡ 0) where
    no_lines : decoded rest ≡ []
    no_lines = decoded_none rest (omega arith)

    no_tail : unended rest ≡ []
    no_tail = unended_all rest (omega arith) ∙ nothing rest over
      where
        nothing : (l : List ℕ) → length l ≡ 0 → l ≡ []
        nothing [] e = refl
        nothing (x ∷ l) e = absurd (omega arith)

    pub ends_none : z.monitors ≡ 0 → whole_reading t ≡ refused 5 line
    unfolding reading_from
    ends_none q = P.left ∙ rw (no_lines, no_tail, empty-length (monitors P.front), P.holds.monitors_are, eq-eqb z.monitors 0 q, P.counted)

    pub ends_served : (z.monitors ≡ 0 → ⊥) → whole_reading t ≡ served []
    unfolding reading_from
    ends_served q = P.left ∙ rw (no_lines, no_tail, empty-length (monitors P.front), P.holds.monitors_are, ne_eqb z.monitors 0 q)

    pub ends_record : record_from r [] (decoded t) ≡ record { moves = mv; stops = sp; counts = ct; starts = st; order = os; monitors = z.monitors; events = z.events }
    ends_record = ap (record_from r []) (P.split ∙ ap (λ l. P.front ++ l) no_lines ∙ append-nil P.front) ∙ P.holds.recorded

-- ---- the answer

-- nothing is wrong, or a fault is
pub no_fault : {U : Type 0} (r : Result U Fault) → is_ok r ≡ true → case_in r ≡ 0
no_fault (Ok u) q = refl
no_fault (Err f) q = contra q refl

pub some_fault : {U A : Type 0} (r : Result U Fault) → is_ok r ≡ false → ((f : Fault) → r ≡ Err f → A) → A
some_fault (Ok u) q go = contra refl q
some_fault (Err f) q go = go f refl

-- what `?` hands on
pub handed : (r : Result Rig Refusal) (x : Refusal) → IsErrAnd r (λ y. y ≡ x) → answer_of r ≡ refused (number_of x) (place_of x)
handed (Ok r) x h = absurd h
handed (Err y) x h = rw h

module _ (t : List ℕ) where
  pub reading_long : 65535 < length t → reading t ≡ refused 1 0
  unfolding reading
  reading_long h = rw (lt-ltb _ _ h)

  pub reading_whole : length t ≤ 65535 → (a : Answer) → whole_reading t ≡ a → reading t ≡ a
  unfolding reading
  reading_whole h a q = rw (le-ltb _ _ h) q

  pub answers_record : (x : Rig) → reading t ≡ served [] → record_from empty_rig [] (decoded t) ≡ x → x ≡ record_of t
  unfolding record_of
  answers_record x a q = sym q ∙ sym (ap (λ b. where_served b (record_from empty_rig [] (decoded t)) empty_rig) a)
