-- What the reader's state says of the lines that it has read, none of them bad: every test that the reader makes is the paper's, and a line more keeps it so.
--   Tabled ms E mv sp ct st == the tables are those of the monitors ms over E events; past the last they are blank
--   names e p          == the line p gives event e a step, or hours
--   Given ms gv        == the list gv has which events the lines of the monitors ms name so
--   Holds r ls z mv sp gv ct st os == the sizes z, the tables mv, sp, gv, ct and st and the list os are those of the lines ls, read into the record r
-- Assumes nothing.
use mathlib.Core.Path.{◌≡◌, refl, sym, ap, ap₂, ◌∙◌, subst}
use mathlib.Core.Logic.{◌≢◌, ⊎_elim}
use mathlib.Core.Bool.{Bool, true, false, not, ◌&&◌, ◌||◌, or-false, and-true}
use mathlib.Core.List.{List, [], ◌∷◌, ◌++◌, append-nil, append_assoc, Memᴰ as In}
use mathlib.Core.Option.{Option, none, some}
use Prim.Native.Nat.{ℕ, suc, ◌+◌, ◌-◌, ◌*◌, ◌≤◌, ◌<◌}
use native.Mathlib.Nat.{eq-or-lt_of_le}
use native.Mathlib.Omega.{arith}
use lib.IntN.{ℤ, pos, neg_ℤ}
use lib.Signed.{clash_ℤ}
use lib.ListN.{length, get_or, take, drop, set, length-set, length-append}
use lib.Seq.{get_or-set_same, get_or-set_other, take_at}
use lib.Dec.{eqb, leb, ltb}
use borrow.Author.Tests.{eq-eqb, ne_eqb, eqb-true, eqb-false, leb-false, not-false}
use Rattle.std.specs.Prelude.{Some, None}
use Rattle.std.specs.Prelude as std
use Rattle.lists.specs.Lists.{pick, any, is_some}
use Rattle.lists.proofs.Tables.{length-range, take_range}
use Rattle.lists.proofs.Tests.{contra, case, and_left, and_right, or_left, or_right, or-rest}
use Rattle.lists.proofs.Tells.{tells_false}
use Rattle.lists.proofs.Firsts.{first_any}
use Rattle.lists.proofs.Members.{any_snoc, any_alike, get_or-in}
use Rattle.promises.specs.Text.{Kind, mon, gap, reply, bal, day, Part, go, stop, amp, opens, Line, rig, ord, begins, continues, other, Monitor, add_part, extended, monitors_from, monitors, states_of, start_of, latest, product, events_of, reordered, order_from, order_of, OutOfRange, beginning, IsMon, IsBal, IsDay, cases, Case5}
use Rattle.promises.specs.Meaning.{step_in, step_by}
use Rattle.promises.specs.Reading.{empty, move_by, marked_by, opens_by, has_hours, outsideℤ, is_mon, is_bal, is_day, is_out_of_range, test_beginning, of_latest, test_continuing, tests, line_case}
use Rattle.promises.proofs.Lines.{monitors-more, order_more, length-add_part, product-add_part, product-append, Ranged, PartRanged, Kept, Headed, Formed, few_states, begun, sound-formed, nothing-formed}
use Rattle.promises.proofs.KindTests.{tells_out}
use Rattle.promises.proofs.Reading.{moved, case_sound}
use Rattle.rig.specs.declared.Rig.{Rig}
use Rattle.rig.specs.Record.{move_index, move_at, stop_index, stop_at, lower_first}
use Rattle.decoding.specs.Forms.{over, kind_of, form_of}
use Rattle.decoding.proofs.Listed.{length_over, Leaves}
use Rattle.kinds.specs.Kinds.{as_kind, with_step, kind_moves, kind_stops}
use Rattle.kinds.proofs.Tables.{Blank, OfKind, length_column, length_moves, length_stops, moves_beside, stops_beside, fills}
use Rattle.taking.specs.declared.Sizes.{Sizes}
use Rattle.reader.specs.Reading.{nobody, with_part, with_line, record_from}
use Rattle.taking.specs.Taking.{Allowed, rig_case, rig_sizes, ord_case, kind_case, go_case, go_moves, stop_case, stop_stops, latest_passes, latest_kind, latest_states, given_index, given_at, with_given, amp_case, amp_moves, open_case, open_moves, case_of, sizes_after, moves_after, stops_after, given_after, counts_after, starts_after}
use Rattle.reader.proofs.Monitors.{monitor_at, events_snoc, empty_nil, empty_snoc, empty-length, add_part_at, add_part_beside, latest_at, new_before, new_at, new_parts}
use Rattle.reader.proofs.Listed.{over_events, front_any, ord_case_lem}
use Rattle.reader.proofs.Tables.{Same, same_blank, same_kind, go_beside, stop_beside, amp_beside, open_beside, seen, seen_mark, with_go, with_stop, with_amp, with_open}

pub record Tabled (ms : List Monitor) (E : ℕ) (mv sp ct st : List ℕ) : Type 0 where
  pub tables : (k : ℕ) → k < length ms → OfKind mv sp k E (monitor_at ms k).kind (monitor_at ms k).parts
  pub blank : (k : ℕ) → length ms ≤ k → k < 4 → Blank mv sp k
  pub counts : (k : ℕ) → k < length ms → get_or ct k 0 ≡ states_of (monitor_at ms k).kind
  pub starts : (k : ℕ) → k < length ms → get_or st k 0 ≡ start_of (monitor_at ms k).kind

abbrev names : ℕ → Part → Bool
names e (go a b c) = false
names e (stop a) = false
names e (amp f d) = eqb f e
names e (opens f a b) = eqb f e

unfoldable pub Given : List Monitor → List ℕ → Type 0
Given ms gv = (k e : ℕ) → k < 4 → e < 16 → given_at gv k e ≡ pick (any (names e) (monitor_at ms k).parts) 1 0

pub record Holds (r : Rig) (ls : List Line) (z : Sizes) (mv sp gv ct st os : List ℕ) : Type 0 where
  pub formed : Formed ls
  pub events_are : events_of ls ≡ z.events
  pub monitors_are : length (monitors ls) ≡ z.monitors
  pub joint_is : product (monitors ls) ≡ z.joint
  pub latest_is : 1 ≤ z.monitors → z.latest ≡ Some (kind_of (monitor_at (monitors ls) (z.monitors - 1)).kind)
  pub none_latest : z.monitors ≡ 0 → z.latest ≡ None
  pub tabled : Tabled (monitors ls) z.events mv sp ct st
  pub given_are : Given (monitors ls) gv
  pub ordered : take z.events os ≡ order_of ls
  pub unordered : z.events ≡ 0 → os ≡ lower_first
  pub recorded : record_from r [] ls ≡ record { moves = mv; stops = sp; counts = ct; starts = st; order = os; monitors = z.monitors; events = z.events }
  pub long : length mv ≡ 2048
  pub wide_stops : length sp ≡ 128
  pub wide_given : length gv ≡ 64
  pub wide : length ct ≡ 4
  pub wide_starts : length st ≡ 4
  pub wide_order : length os ≡ 16

record_from_snoc : (r : Rig) (front ls : List Line) (l : Line) → record_from r front (ls ++ (l ∷ [])) ≡ with_line (record_from r front ls) (front ++ ls) l
unfolding record_from
record_from_snoc r front [] l = ap (λ f. with_line r f l) (sym (append-nil front))
record_from_snoc r front (k ∷ ls) l =
    record_from_snoc (with_line r front k) (front ++ (k ∷ [])) ls l ∙ ap (λ f. with_line (record_from (with_line r front k) (front ++ (k ∷ [])) ls) f l) (append_assoc front (k ∷ []) ls)

-- ---- no line yet

pub holds-none : (mv sp gv ct st : List ℕ) → ((i : ℕ) → i < 2048 → get_or mv i 0 ≡ 255) → ((i : ℕ) → i < 128 → get_or sp i 0 ≡ 0) → ((i : ℕ) → i < 64 → get_or gv i 0 ≡ 0)
    → length mv ≡ 2048 → length sp ≡ 128 → length gv ≡ 64 → length ct ≡ 4 → length st ≡ 4
    → Holds (record { moves = mv; stops = sp; counts = ct; starts = st; order = lower_first; monitors = 0; events = 0 }) [] (record { events = 0; monitors = 0; latest = None; joint = 1 }) mv sp gv ct st lower_first
unfolding events_of order_of order_from monitors monitors_from product record_from Given
holds-none mv sp gv ct st blank unmarked none-given long wide_stops wide_given wide wide_starts = record {
  formed = nothing-formed;
  events_are = refl;
  monitors_are = refl;
  joint_is = refl;
  latest_is = λ h. absurd (omega arith);
  none_latest = λ q. refl;
  given_are = λ k e hk he. none-given (given_index k e) (omega arith);
  tabled = record {
    tables = λ k h. absurd (omega arith);
    blank = λ k h l. record { no_move = λ s e hs he. blank (move_index k s e) (omega arith); no_mark = λ s hs. unmarked (stop_index k s) (omega arith) };
    counts = λ k h. absurd (omega arith);
    starts = λ k h. absurd (omega arith);
  };
  ordered = refl;
  unordered = λ q. refl;
  recorded = refl;
  long = long;
  wide_stops = wide_stops;
  wide_given = wide_given;
  wide = wide;
  wide_starts = wide_starts;
  wide_order = length-range 16;
}

-- ---- tests

same_picks : (n : ℕ) (a a' b b' c c' : Bool) → a ≡ a' → (a' ≡ false → b ≡ b') → (a' ≡ false → b' ≡ false → c ≡ c')
    → pick a 5 (pick b 3 (pick c n 0)) ≡ pick a' 5 (pick b' 3 (pick c' n 0))
same_picks n a true b b' c c' p q r = rw p
same_picks n a false b true c c' p q r = rw (p, q refl)
same_picks n a false b false c c' p q r = rw (p, q refl, r refl refl)

-- a case that does not hold
pick_zero : (b : Bool) (n m : ℕ) → 0 < n → pick b n m ≡ 0 → (b ≡ false) × (m ≡ 0)
pick_zero true n m h q = absurd (omega arith)
pick_zero false n m h q = (refl, q)

-- ---- formed lines

-- E, of no line and of some
pub few_events : (ls : List Line) → Formed ls → events_of ls ≤ 16
unfolding Headed events_of
few_events ls f = ⊎_elim (λ q. rw q (omega arith)) (λ (E, rest, q, low, high). rw q high) f.headed

some_event : (ls : List Line) → Formed ls → empty ls ≡ eqb (events_of ls) 0
unfolding Headed events_of
some_event ls f = ⊎_elim (λ q. rw q) (λ (E, rest, q, low, high). rw q (sym (ne_eqb E 0 (λ e. omega arith)))) f.headed

-- and no monitor if there is none
no_monitor : (ls : List Line) → empty ls ≡ true → length (monitors ls) ≡ 0
unfolding monitors monitors_from
no_monitor [] e = refl
no_monitor (l ∷ ls) e = contra e refl

-- ---- kinds

as_kind_lem : (k : Kind) → as_kind (kind_of k) ≡ k
as_kind_lem (mon S a) = refl
as_kind_lem (gap e n) = refl
as_kind_lem (reply a b lo hi) = refl
as_kind_lem (bal lo hi) = refl
as_kind_lem (day T) = refl

-- what passes the tests of kinds
mon_is : (k : Kind) → is_mon k ≡ true → (S : ℕ) × (a : ℕ) × (k ≡ mon S a)
mon_is (mon S a) p = (S, a, refl)
mon_is (gap e n) p = contra p refl
mon_is (reply a b lo hi) p = contra p refl
mon_is (bal lo hi) p = contra p refl
mon_is (day T) p = contra p refl

bal_is : (k : Kind) → is_bal k ≡ true → (lo : ℤ) × (hi : ℤ) × (k ≡ bal lo hi)
bal_is (mon S a) p = contra p refl
bal_is (gap e n) p = contra p refl
bal_is (reply a b lo hi) p = contra p refl
bal_is (bal lo hi) p = (lo, hi, refl)
bal_is (day T) p = contra p refl

day_is : (k : Kind) → is_day k ≡ true → (T : ℕ) × (k ≡ day T)
day_is (mon S a) p = contra p refl
day_is (gap e n) p = contra p refl
day_is (reply a b lo hi) p = contra p refl
day_is (bal lo hi) p = contra p refl
day_is (day T) p = (T, refl)

-- a band is in its range
bal_in_range : (E : ℕ) (k : Kind) → is_bal k ≡ true → Ranged E k → is_out_of_range E k ≡ false
unfolding Ranged OutOfRange
bal_in_range E (mon S a) p r = contra p refl
bal_in_range E (gap e n) p r = contra p refl
bal_in_range E (reply a b lo hi) p r = contra p refl
bal_in_range E (bal lo hi) p r = let (l, low, high, h) = r in tells_false (tells_out E (bal lo hi)) (λ o. ⊎_elim (⊎_elim (λ x. clash_ℤ x l) (λ x. clash_ℤ x low)) (⊎_elim (λ x. clash_ℤ x high) (λ x. clash_ℤ x h)) o)
bal_in_range E (day T) p r = contra p refl

-- the lines of a `bal` name an event where they give it a step, those of a `day` where they give it hours
bal_names : (E : ℕ) (lo hi : ℤ) (e : ℕ) (p : Part) → PartRanged E (bal lo hi) p → is_some (step_in e p) ≡ names e p
unfolding PartRanged IsMon IsDay step_in
bal_names E lo hi e (go a b c) r = let (S, x, q) = r.0 in let z : ◌≡◌ {A = ℕ} 0 1 = cc in absurd (omega arith)
bal_names E lo hi e (stop a) r = let (S, x, q) = r.0 in let z : ◌≡◌ {A = ℕ} 0 1 = cc in absurd (omega arith)
bal_names E lo hi e (amp f d) r = case (eqb f e) (λ q. rw q) (λ q. rw q)
bal_names E lo hi e (opens f a b) r = let (T, q) = r.0 in let z : ◌≡◌ {A = ℕ} 0 1 = cc in absurd (omega arith)

day_names : (E T e : ℕ) (p : Part) → PartRanged E (day T) p → opens_by (λ a b. true) e p ≡ names e p
unfolding PartRanged IsMon IsBal opens_by
day_names E T e (go a b c) r = let (S, x, q) = r.0 in let z : ◌≡◌ {A = ℕ} 0 1 = cc in absurd (omega arith)
day_names E T e (stop a) r = let (S, x, q) = r.0 in let z : ◌≡◌ {A = ℕ} 0 1 = cc in absurd (omega arith)
day_names E T e (amp f d) r = let (lo, hi, q) = r.0 in let z : ◌≡◌ {A = ℕ} 0 1 = cc in absurd (omega arith)
day_names E T e (opens f a b) r = and-true (eqb f e)

module _ (E : ℕ) (m : Monitor) (K : Kept E m) (e : ℕ) where
  steps_named : (lo hi : ℤ) → m.kind ≡ bal lo hi → is_some (step_by m.parts e) ≡ any (names e) m.parts
  steps_named lo hi q = first_any (step_in e) m.parts ∙ any_alike (λ p. is_some (step_in e p)) (names e) m.parts (λ p i. bal_names E lo hi e p (subst (λ k. PartRanged E k p) q (K.parts_ranged p i)))

  hours_named : (T : ℕ) → m.kind ≡ day T → has_hours m.parts e ≡ any (names e) m.parts
  hours_named T q = any_alike (opens_by (λ a b. true) e) (names e) m.parts (λ p i. day_names E T e p (subst (λ k. PartRanged E k p) q (K.parts_ranged p i)))

-- ---- the tables with one line more

-- the first line: no monitor is there yet
more-events : (ms : List Monitor) (E F : ℕ) (mv sp ct st : List ℕ) → length ms ≡ 0 → Tabled ms E mv sp ct st → Tabled ms F mv sp ct st
more-events ms E F mv sp ct st q T = record { tables = λ k h. absurd (omega arith); blank = T.blank; counts = T.counts; starts = T.starts }

-- a monitor more, of the kind k
abbrev fresh : Kind → Monitor
fresh k = record { kind = k; parts = [] }

module _ (ms : List Monitor) (E : ℕ) (k : Kind) (mv sp mv' sp' ct st : List ℕ) (wide : length ct ≡ 4) (wide_starts : length st ≡ 4) (few_e : E ≤ 16) (few : length ms < 4)
    (ranged : (m : Monitor) → In m ms → states_of m.kind ≤ 32) (beside : (i : ℕ) → i ≢ length ms → Same mv sp mv' sp' i)
    (filled : Blank mv sp (length ms) → OfKind mv' sp' (length ms) E k []) (T : Tabled ms E mv sp ct st) where
  abbrev more : List Monitor
  more = ms ++ (fresh k ∷ [])

  one_more : Tabled more E mv' sp' (set ct (length ms) (states_of k)) (set st (length ms) (start_of k))
  one_more = record {
    tables = λ i h. ⊎_elim (λ q. table_at i q) (table_before i) (eq-or-lt_of_le (within i h));
    blank = λ i h l. same_blank mv sp mv' sp' i (beside i (λ q. omega (arith, longer))) (T.blank i (omega (arith, longer)) l);
    counts = λ i h. ⊎_elim (λ q. ap (λ j. get_or (set ct (length ms) (states_of k)) j 0) q ∙ get_or-set_same ct (length ms) (states_of k) 0 (omega arith) ∙ ap (λ m. states_of m.kind) (sym (new_at ms (fresh k) i q)))
        (λ l. rw (new_before ms (fresh k) i l) (get_or-set_other ct (length ms) i (states_of k) 0 (λ q. omega arith) ∙ T.counts i l)) (eq-or-lt_of_le (within i h));
    starts = λ i h. ⊎_elim (λ q. ap (λ j. get_or (set st (length ms) (start_of k)) j 0) q ∙ get_or-set_same st (length ms) (start_of k) 0 (omega arith) ∙ ap (λ m. start_of m.kind) (sym (new_at ms (fresh k) i q)))
        (λ l. rw (new_before ms (fresh k) i l) (get_or-set_other st (length ms) i (start_of k) 0 (λ q. omega arith) ∙ T.starts i l)) (eq-or-lt_of_le (within i h));
  }
    where
      longer : length more ≡ length ms + 1
      longer = length-append ms (fresh k ∷ [])

      within : (i : ℕ) → i < length more → i ≤ length ms
      within i h = omega (arith, longer)

      table_at : (i : ℕ) → i ≡ length ms → OfKind mv' sp' i E (monitor_at more i).kind (monitor_at more i).parts
      table_at i q = rw (q, new_at ms (fresh k) (length ms) refl) (filled (T.blank (length ms) (omega arith) few))

      table_before : (i : ℕ) → i < length ms → OfKind mv' sp' i E (monitor_at more i).kind (monitor_at more i).parts
      table_before i l = rw (new_before ms (fresh k) i l) (same_kind mv sp mv' sp' i (beside i (λ q. omega arith)) E (monitor_at ms i).kind (monitor_at ms i).parts few_e (ranged (monitor_at ms i) (get_or-in ms i nobody l)) (T.tables i l))

kind-add_part : (p : Part) (ms : List Monitor) (i : ℕ) → (monitor_at (add_part p ms) i).kind ≡ (monitor_at ms i).kind
kind-add_part p ms i = case (eqb (suc i) (length ms)) (λ q. ap (λ m. m.kind) (add_part_at p ms i (eqb-true (suc i) (length ms) q))) (λ q. ap (λ m. m.kind) (add_part_beside p ms i (eqb-false (suc i) (length ms) q)))

-- a line p more of the monitor m, which is the last: what it makes of that monitor's part of the tables, and that it leaves the others' parts
module _ (p : Part) (ms : List Monitor) (E m : ℕ) (mv sp mv' sp' ct st : List ℕ) (last : suc m ≡ length ms) (few_e : E ≤ 16) (ranged : (m : Monitor) → In m ms → states_of m.kind ≤ 32)
    (at : OfKind mv sp m E (monitor_at ms m).kind (monitor_at ms m).parts → OfKind mv' sp' m E (monitor_at ms m).kind ((monitor_at ms m).parts ++ (p ∷ [])))
    (beside : (i : ℕ) → i ≢ m → Same mv sp mv' sp' i) where
  one_part : Tabled ms E mv sp ct st → Tabled (add_part p ms) E mv' sp' ct st
  one_part T = record {
    tables = λ k h. case (eqb k m) (λ q. here k (eqb-true k m q)) (λ q. there k (omega (arith, length-add_part p ms)) (eqb-false k m q));
    blank = λ k h l. same_blank mv sp mv' sp' k (beside k (λ q. omega (arith, length-add_part p ms))) (T.blank k (omega (arith, length-add_part p ms)) l);
    counts = λ k h. rw (kind-add_part p ms k) (T.counts k (omega (arith, length-add_part p ms)));
    starts = λ k h. rw (kind-add_part p ms k) (T.starts k (omega (arith, length-add_part p ms)));
  }
    where
      here : (k : ℕ) → k ≡ m → OfKind mv' sp' k E (monitor_at (add_part p ms) k).kind (monitor_at (add_part p ms) k).parts
      here k q = rw (q, add_part_at p ms m last) (at (T.tables m (omega arith)))

      there : (k : ℕ) → k < length ms → (k ≡ m → ⊥) → OfKind mv' sp' k E (monitor_at (add_part p ms) k).kind (monitor_at (add_part p ms) k).parts
      there k h ne = rw (add_part_beside p ms k (λ q. ne (omega arith))) (same_kind mv sp mv' sp' k (beside k ne) E (monitor_at ms k).kind (monitor_at ms k).parts few_e (ranged (monitor_at ms k) (get_or-in ms k nobody h)) (T.tables k h))

-- ---- what is given with one line more

-- a line that names no event
given-kept : (p : Part) (ms : List Monitor) (gv : List ℕ) → ((e : ℕ) → names e p ≡ false) → Given ms gv → Given (add_part p ms) gv
unfolding Given
given-kept p ms gv none_named G k e hk he = G k e hk he ∙ ap (λ b. pick b 1 0) (sym same)
  where
    same : any (names e) (monitor_at (add_part p ms) k).parts ≡ any (names e) (monitor_at ms k).parts
    same = case (eqb (suc k) (length ms))
        (λ q. rw (add_part_at p ms k (eqb-true (suc k) (length ms) q), any_snoc (names e) (monitor_at ms k).parts p, none_named e) (or-false (any (names e) (monitor_at ms k).parts)))
        (λ q. rw (add_part_beside p ms k (eqb-false (suc k) (length ms) q)))

-- a line that names the event e
given-more : (p : Part) (e : ℕ) (ms : List Monitor) (m : ℕ) (gv : List ℕ) → ((u : ℕ) → names u p ≡ eqb e u) → suc m ≡ length ms → m < 4 → e < 16 → length gv ≡ 64 → Given ms gv
    → Given (add_part p ms) (set gv (given_index m e) 1)
unfolding Given
given-more p e ms m gv named last hm he wide G k u hk hu = case (eqb k m && eqb e u) (λ q. here (eqb-true k m (and_left (eqb k m) (eqb e u) q)) (eqb-true e u (and_right (eqb k m) (eqb e u) q))) (λ q. elsewhere q)
  where
    found : any (names e) (monitor_at (add_part p ms) m).parts ≡ true
    found = rw (add_part_at p ms m last, any_snoc (names e) (monitor_at ms m).parts p, named e, eq-eqb e e refl) (or_right (any (names e) (monitor_at ms m).parts) refl)

    here : k ≡ m → e ≡ u → given_at (set gv (given_index m e) 1) k u ≡ pick (any (names u) (monitor_at (add_part p ms) k).parts) 1 0
    here r q = rw (r, ← q, found) (get_or-set_same gv (given_index m e) 1 0 (omega arith))

    elsewhere : (eqb k m && eqb e u) ≡ false → given_at (set gv (given_index m e) 1) k u ≡ pick (any (names u) (monitor_at (add_part p ms) k).parts) 1 0
    elsewhere q =
        get_or-set_other gv (given_index m e) (given_index k u) 1 0 (λ r. contra (ap₂ ◌&&◌ (eq-eqb k m (omega arith)) (eq-eqb e u (omega arith))) q)
        ∙ G k u hk hu ∙ ap (λ b. pick b 1 0) (sym (same (eqb k m) refl))
      where
        same : (b : Bool) → eqb k m ≡ b → any (names u) (monitor_at (add_part p ms) k).parts ≡ any (names u) (monitor_at ms k).parts
        same false r = rw (add_part_beside p ms k (λ w. eqb-false k m r (omega arith)))
        same true r =
            let other : eqb e u ≡ false = ap (λ b. b && eqb e u) (sym r) ∙ q in
            rw (add_part_at p ms k (omega (arith, eqb-true k m r)), any_snoc (names u) (monitor_at ms k).parts p, named u, other) (or-false (any (names u) (monitor_at ms k).parts))

module _ (r : Rig) (ls : List Line) (z : Sizes) (mv sp gv ct st os : List ℕ) (H : Holds r ls z mv sp gv ct st os) where
  kept : (m : Monitor) → In m (monitors ls) → Kept (events_of ls) m
  kept = H.formed.monitored.each

  ranged : (m : Monitor) → In m (monitors ls) → states_of m.kind ≤ 32
  ranged m i = few_states (events_of ls) m.kind (kept m i).ranged

  few_z : z.events ≤ 16
  few_z = rw (← H.events_are) (few_events ls H.formed)

  pub begun_z : empty ls ≡ eqb z.events 0
  begun_z = some_event ls H.formed ∙ ap (λ n. eqb n 0) H.events_are

  -- how many states the latest monitor has
  abbrev named : ℕ
  named = latest_states z.latest

  -- the latest monitor, where there is one
  abbrev last : Monitor
  last = monitor_at (monitors ls) (z.monitors - 1)

  last_kept : 1 ≤ z.monitors → Kept (events_of ls) last
  last_kept h = kept last (get_or-in (monitors ls) (z.monitors - 1) nobody (omega (arith, H.monitors_are)))

  -- its kind passes the test f
  module _ (f : Kind → Bool) where
    latest_test : not (of_latest (λ m. f m.kind) (latest (monitors ls))) ≡ not (latest_passes f z.latest)
    unfolding of_latest
    latest_test = case (eqb z.monitors 0)
        (λ q. let n = eqb-true z.monitors 0 q in rw (H.none_latest n) (nothing (monitors ls) (H.monitors_are ∙ n)))
        (λ q. let n = eqb-false z.monitors 0 q in rw (H.latest_is (omega arith), latest_at (monitors ls) (z.monitors - 1) (omega (arith, H.monitors_are)), as_kind_lem last.kind))
      where
        nothing : (ms : List Monitor) → length ms ≡ 0 → not (of_latest (λ m. f m.kind) (latest ms)) ≡ true
        nothing [] e = unfold latest of_latest in refl
        nothing (m ∷ ms) e = absurd (omega arith)

    -- there is one
    there : not (latest_passes f z.latest) ≡ false → 1 ≤ z.monitors
    there p = case (eqb z.monitors 0) (λ q. contra (ap (λ o. not (latest_passes f o)) (H.none_latest (eqb-true z.monitors 0 q))) p) (λ q. omega (arith, eqb-false z.monitors 0 q))

  latest_kind_is : 1 ≤ z.monitors → latest_kind z.latest ≡ last.kind
  latest_kind_is h = ap latest_kind (H.latest_is h) ∙ as_kind_lem last.kind

  passes : (f : Kind → Bool) → not (latest_passes f z.latest) ≡ false → f last.kind ≡ true
  passes f p = sym (ap f (as_kind_lem last.kind)) ∙ ap (latest_passes f) (sym (H.latest_is (there f p))) ∙ not-false (latest_passes f z.latest) p

  few_named : latest_states z.latest ≤ 32
  few_named = case (eqb z.monitors 0)
      (λ q. rw (H.none_latest (eqb-true z.monitors 0 q)) (unfold states_of in omega arith))
      (λ q. let h : 1 ≤ z.monitors = omega (arith, eqb-false z.monitors 0 q) in rw (latest_kind_is h) (few_states (events_of ls) last.kind (last_kept h).ranged))

  pub room : Allowed z
  room = record {
    few_events = few_z;
    few_monitors = rw (← H.monitors_are) H.formed.monitored.few;
    few_latest = few_named;
    none_latest = λ q. ap std.is_some (H.none_latest q);
    in_band = λ b. let p = ap not b in rw (latest_kind_is (there is_bal p), ← H.events_are) (bal_in_range (events_of ls) last.kind (passes is_bal p) (last_kept (there is_bal p)).ranged);
    few_joint = rw (← H.joint_is) H.formed.monitored.small;
  }

  -- ---- the reader's tests are the paper's

  rig_case_lem : (e : ℕ) → rig_case z e ≡ line_case ls (rig e)
  unfolding rig_case line_case tests
  rig_case_lem e = rw begun_z

  kind_case_lem : (k : Kind) → kind_case z (kind_of k) ≡ line_case ls (begins k)
  unfolding kind_case line_case tests test_beginning
  kind_case_lem k = rw (as_kind_lem k, begun_z, H.events_are, H.monitors_are, H.joint_is)

  -- the latest monitor, where there is one
  module _ (there : 1 ≤ z.monitors) where
    last_at : suc (z.monitors - 1) ≡ length (monitors ls)
    last_at = omega (arith, there, H.monitors_are)

    latest_is_last : latest (monitors ls) ≡ some last
    latest_is_last = latest_at (monitors ls) (z.monitors - 1) last_at

    last_table : OfKind mv sp (z.monitors - 1) z.events last.kind last.parts
    last_table = H.tabled.tables (z.monitors - 1) (omega (arith, last_at))

  -- which is a `mon`
  module _ (placed : not (latest_passes is_mon z.latest) ≡ false) where
    some_monitor : 1 ≤ z.monitors
    some_monitor = there is_mon placed

    last_states : states_of last.kind ≡ latest_states z.latest
    last_states = ap states_of (sym (latest_kind_is some_monitor))

    last_mon : (S : ℕ) × (a : ℕ) × (last.kind ≡ mon S a) × (latest_states z.latest ≡ S)
    unfolding states_of
    last_mon = let (S, a, q) = mon_is last.kind (passes is_mon placed) in (S, a, q, sym last_states ∙ ap states_of q)

    -- its lines move to its states
    moves_within : (s e u : ℕ) → move_by last.parts s e ≡ some u → u < named
    unfolding PartRanged
    moves_within s e u q = rw (← last_states) ((last_kept some_monitor).parts_ranged (go s e u) (moved last.parts s e u q)).3

    out_of_range : (s e t : ℕ)
        → of_latest (λ m. leb (states_of m.kind) s || (leb (events_of ls) e || leb (states_of m.kind) t)) (latest (monitors ls))
        ≡ (leb named s || (leb z.events e || leb named t))
    unfolding of_latest
    out_of_range s e t = rw (latest_is_last some_monitor, last_states, H.events_are)

    again : (s e t : ℕ) → (leb named s || (leb z.events e || leb named t)) ≡ false
        → of_latest (λ m. is_some (move_by m.parts s e)) (latest (monitors ls)) ≡ not (eqb (move_at mv (z.monitors - 1) s e) 255)
    unfolding of_latest
    again s e t p =
        let (S, a, q, n) = last_mon in
        let hs = leb-false named s (or_left (leb named s) _ p) in
        let he = leb-false z.events e (or_left (leb z.events e) _ (or-rest (leb named s) _ p)) in
        rw (latest_is_last some_monitor) (seen mv sp (z.monitors - 1) z.events S a last.parts (subst (λ k. OfKind mv sp (z.monitors - 1) z.events k last.parts) q (last_table some_monitor))
        (rw (← n) room.few_latest) (λ s e u m. rw (← n) (moves_within s e u m)) s e (rw (← n) hs) he)

    state_out_of_range : (s : ℕ) → of_latest (λ m. leb (states_of m.kind) s) (latest (monitors ls)) ≡ leb named s
    unfolding of_latest
    state_out_of_range s = rw (latest_is_last some_monitor, last_states)

    marked_again : (s : ℕ) → leb named s ≡ false → of_latest (λ m. marked_by m.parts s) (latest (monitors ls)) ≡ not (eqb (stop_at sp (z.monitors - 1) s) 0)
    unfolding of_latest
    marked_again s p =
        let (S, a, q, n) = last_mon in
        rw (latest_is_last some_monitor) (seen_mark mv sp (z.monitors - 1) z.events S a last.parts (subst (λ k. OfKind mv sp (z.monitors - 1) z.events k last.parts) q (last_table some_monitor))
        (rw (← n) room.few_latest) s (rw (← n) (leb-false named s p)))

  go_case_lem : (s e t : ℕ) → go_case mv z s e t ≡ line_case ls (continues (go s e t))
  unfolding go_case line_case tests test_continuing
  go_case_lem s e t = sym (same_picks 4 _ _ _ _ _ _ (latest_test is_mon) (λ p. out_of_range p s e t) (λ p. again p s e t))

  stop_case_lem : (s : ℕ) → stop_case sp z s ≡ line_case ls (continues (stop s))
  unfolding stop_case line_case tests test_continuing
  stop_case_lem s = sym (same_picks 4 _ _ _ _ _ _ (latest_test is_mon) (λ p. state_out_of_range p s) (λ p. marked_again p s))

  -- what has been given is seen in the list
  told : (b : Bool) → b ≡ not (eqb (pick b 1 0) 0)
  told true = refl
  told false = refl

  module _ (placed : not (latest_passes is_bal z.latest) ≡ false) (e : ℕ) (d : ℤ) where
    amp_there : 1 ≤ z.monitors
    amp_there = there is_bal placed

    amp_out : of_latest (λ m. leb (events_of ls) e || outsideℤ (neg_ℤ (pos 15)) (pos 15) d) (latest (monitors ls)) ≡ (leb z.events e || outsideℤ (neg_ℤ (pos 15)) (pos 15) d)
    unfolding of_latest
    amp_out = rw (latest_is_last amp_there, H.events_are)

    given_again : (leb z.events e || outsideℤ (neg_ℤ (pos 15)) (pos 15) d) ≡ false
        → of_latest (λ m. is_some (step_by m.parts e)) (latest (monitors ls)) ≡ not (eqb (given_at gv (z.monitors - 1) e) 0)
    unfolding of_latest Given
    given_again p =
        let he = leb-false z.events e (or_left (leb z.events e) _ p) in
        rw (latest_is_last amp_there, H.given_are (z.monitors - 1) e (omega (arith, room.few_monitors, amp_there)) (omega (arith, few_z)), (let (lo, hi, k) = bal_is last.kind (passes is_bal placed) in steps_named (events_of ls) last (last_kept amp_there) e lo hi k))
        (told (any (names e) last.parts))

  amp_case_lem : (e : ℕ) (d : ℤ) → amp_case gv z e d ≡ line_case ls (continues (amp e d))
  unfolding amp_case line_case tests test_continuing
  amp_case_lem e d = sym (same_picks 4 _ _ _ _ _ _ (latest_test is_bal) (λ p. amp_out p e d) (λ p. given_again p e d))

  -- the latest monitor is a `day`
  module _ (placed : not (latest_passes is_day z.latest) ≡ false) where
    open_there : 1 ≤ z.monitors
    open_there = there is_day placed

    last_steps : states_of last.kind ≡ latest_states z.latest
    last_steps = ap states_of (sym (latest_kind_is open_there))

    last_day : last.kind ≡ day (latest_states z.latest)
    unfolding states_of
    last_day = let (T, q) = day_is last.kind (passes is_day placed) in q ∙ ap day (sym (sym last_steps ∙ ap states_of q))

    open_out : (e b : ℕ) → of_latest (λ m. leb (events_of ls) e || ltb (states_of m.kind) b) (latest (monitors ls)) ≡ (leb z.events e || ltb (latest_states z.latest) b)
    unfolding of_latest
    open_out e b = rw (latest_is_last open_there, last_steps, H.events_are)

    -- the first `open` line of an event is seen in the list
    first_hours : (e : ℕ) → e < z.events → eqb (given_at gv (z.monitors - 1) e) 0 ≡ not (has_hours last.parts e)
    unfolding Given
    first_hours e he =
        rw (H.given_are (z.monitors - 1) e (omega (arith, room.few_monitors, open_there)) (omega (arith, few_z)), hours_named (events_of ls) last (last_kept open_there) e (latest_states z.latest) last_day)
        (seen_none (any (names e) last.parts))
      where
        seen_none : (b : Bool) → eqb (pick b 1 0) 0 ≡ not b
        seen_none true = refl
        seen_none false = refl

  open_case_lem : (e a b : ℕ) → open_case z e a b ≡ line_case ls (continues (opens e a b))
  unfolding open_case line_case tests test_continuing
  open_case_lem e a b = rw (never_again (latest (monitors ls))) (sym (same_picks 18 _ _ _ _ (leb b a) (leb b a) (latest_test is_day) (λ p. open_out p e b) (λ p o. refl)))
    where
      never_again : (o : Option Monitor) → of_latest (λ m. false) o ≡ false
      never_again none = unfold of_latest in refl
      never_again (some m) = unfold of_latest in refl

  -- `left` is what decoding the line leaves of the list os
  pub case_is : (l : Line) (line : ℕ) (left : List ℕ) → suc (length ls) ≡ line → Leaves l os left → case_of mv sp gv left z line (form_of l) ≡ line_case ls l
  unfolding line_case tests
  case_is (rig e) line left n q = rig_case_lem e
  case_is (ord es) line left n q = rw q (ord_case_lem ls z line es os H.events_are few_z n H.wide_order)
  case_is (begins k) line left n q = kind_case_lem k
  case_is (continues (go s e t)) line left n q = go_case_lem s e t
  case_is (continues (stop s)) line left n q = stop_case_lem s
  case_is (continues (amp e d)) line left n q = amp_case_lem e d
  case_is (continues (opens e a b)) line left n q = open_case_lem e a b
  case_is other line left n q = refl

  -- ---- one line more

  recorded_more : (l : Line) → record_from r [] (ls ++ (l ∷ [])) ≡ with_line (record { moves = mv; stops = sp; counts = ct; starts = st; order = os; monitors = z.monitors; events = z.events }) ls l
  recorded_more l = record_from_snoc r [] ls l ∙ ap (λ q. with_line q ls l) H.recorded

  formed_more : (l : Line) → line_case ls l ≡ 0 → Formed (ls ++ (l ∷ []))
  formed_more l q = sound-formed ls l H.formed (case_sound ls l q)

  holds_rig : (e : ℕ) → rig_case z e ≡ 0 → Holds r (ls ++ (rig e ∷ [])) (rig_sizes z e) mv sp gv ct st os
  unfolding rig_case with_line extended events_of reordered
  holds_rig e q =
      let (p, q₁) = pick_zero (not (eqb z.events 0)) 5 _ (omega arith) q in
      let first : eqb z.events 0 ≡ true = not-false _ p in
      let none : ls ≡ [] = empty_nil ls (begun_z ∙ first) in
      let ms : monitors (ls ++ (rig e ∷ [])) ≡ monitors ls = monitors-more ls (rig e) in
      let formed : Formed (ls ++ (rig e ∷ [])) = formed_more (rig e) (sym (rig_case_lem e) ∙ q) in
      let events : events_of (ls ++ (rig e ∷ [])) ≡ e = rw none in
      record {
        formed = formed;
        events_are = events;
        monitors_are = rw ms H.monitors_are;
        joint_is = rw ms H.joint_is;
        latest_is = rw ms H.latest_is;
        none_latest = H.none_latest;
        given_are = rw ms H.given_are;
        tabled = rw ms (more-events (monitors ls) z.events e mv sp ct st (no_monitor ls (begun_z ∙ first)) H.tabled);
        ordered = ap (take e) (H.unordered (eqb-true z.events 0 first)) ∙ take_range e 16 (rw (← events) (few_events _ formed)) ∙ sym (order_more ls (rig e));
        unordered = λ n. contra (eq-eqb e 0 n) (ap (λ n. eqb n 0) (sym events) ∙ sym (some_event _ formed) ∙ empty_snoc ls (rig e));
        recorded = recorded_more (rig e);
        long = H.long;
        wide_stops = H.wide_stops;
        wide_given = H.wide_given;
        wide = H.wide;
        wide_starts = H.wide_starts;
        wide_order = H.wide_order;
      }

  given_fresh : (k : Kind) → Given (monitors ls ++ (fresh k ∷ [])) gv
  unfolding Given
  given_fresh k i e hi he = H.given_are i e hi he ∙ ap (λ ps. pick (any (names e) ps) 1 0) (sym (new_parts (monitors ls) (fresh k) refl i))

  -- a line that begins a monitor of the kind k
  holds_begins : (k : Kind) → kind_case z (kind_of k) ≡ 0
      → Holds r (ls ++ (begins k ∷ [])) (record { events = z.events; monitors = z.monitors + 1; latest = Some (kind_of k); joint = z.joint * states_of k })
      (kind_moves mv z.monitors k) (kind_stops sp z.monitors k) gv (set ct z.monitors (states_of k)) (set st z.monitors (start_of k)) os
  unfolding with_line extended reordered
  holds_begins k q =
      let sound = case_sound ls (begins k) (sym (kind_case_lem k) ∙ q) in
      let (range, few, small) = begun ls k sound in
      let few_s : states_of k ≤ 32 = few_states (events_of ls) k range in
      let few-m : z.monitors < 4 = rw (← H.monitors_are) few in
      let ms : monitors (ls ++ (begins k ∷ [])) ≡ monitors ls ++ (fresh k ∷ []) = monitors-more ls (begins k) in
      let not_empty : empty ls ≡ false = case (empty ls) (λ e. absurd (sound.placed (unfold Case5 cases beginning in empty_nil ls e))) (λ e. e) in
      record {
        formed = sound-formed ls (begins k) H.formed sound;
        events_are = events_snoc ls (begins k) not_empty ∙ H.events_are;
        monitors_are = rw (ms, length-append, H.monitors_are);
        joint_is = rw (ms, product-append, H.joint_is);
        latest_is = λ h. rw ms (ap (λ m. Some (kind_of m.kind)) (sym (new_at (monitors ls) (fresh k) (z.monitors + 1 - 1) (omega (arith, H.monitors_are)))));
        none_latest = λ n. absurd (omega arith);
        given_are = rw ms (given_fresh k);
        tabled = rw (ms, ← H.monitors_are) (one_more (monitors ls) z.events k mv sp (kind_moves mv (length (monitors ls)) k) (kind_stops sp (length (monitors ls)) k) ct st H.wide H.wide_starts few_z few ranged
            (λ i ne. record {
              moves = λ x y hx hy. moves_beside mv sp (length (monitors ls)) k few few_s H.long H.wide_stops i x y ne hx hy;
              stops = λ x hx. stops_beside mv sp (length (monitors ls)) k few few_s H.long H.wide_stops i x ne hx;
            })
            (fills mv sp (length (monitors ls)) k few few_s H.long H.wide_stops z.events few_z) H.tabled);
        ordered = H.ordered ∙ sym (order_more ls (begins k));
        unordered = H.unordered;
        recorded = recorded_more (begins k);
        long = length_moves mv sp z.monitors k few-m few_s H.long H.wide_stops;
        wide_stops = length_stops mv sp z.monitors k few-m few_s H.long H.wide_stops;
        wide_given = H.wide_given;
        wide = length-set ct z.monitors (states_of k) ∙ H.wide;
        wide_starts = length-set st z.monitors (start_of k) ∙ H.wide_starts;
        wide_order = H.wide_order;
      }

  -- a line p of the latest monitor, with what it makes of the tables
  holds_continues : (p : Part) (mv' sp' gv' : List ℕ) → 1 ≤ z.monitors → line_case ls (continues p) ≡ 0 → length mv' ≡ 2048 → length sp' ≡ 128 → length gv' ≡ 64
      → with_part (record { moves = mv; stops = sp; counts = ct; starts = st; order = os; monitors = z.monitors; events = z.events }) last p
      ≡ record { moves = mv'; stops = sp'; counts = ct; starts = st; order = os; monitors = z.monitors; events = z.events }
      → Tabled (add_part p (monitors ls)) z.events mv' sp' ct st → Given (add_part p (monitors ls)) gv'
      → Holds r (ls ++ (continues p ∷ [])) z mv' sp' gv' ct st os
  unfolding with_line extended reordered
  holds_continues p mv' sp' gv' some_monitor sound long wide_stops wide_given made tabled given =
      let ms : monitors (ls ++ (continues p ∷ [])) ≡ add_part p (monitors ls) = monitors-more ls (continues p) in
      record {
        formed = formed_more (continues p) sound;
        events_are = events_snoc ls (continues p) not_empty ∙ H.events_are;
        monitors_are = rw (ms, length-add_part) H.monitors_are;
        joint_is = rw (ms, product-add_part) H.joint_is;
        latest_is = λ h. rw ms (H.latest_is h ∙ ap (λ k. Some (kind_of k)) (sym (kind-add_part p (monitors ls) (z.monitors - 1))));
        none_latest = H.none_latest;
        given_are = rw ms given;
        tabled = rw ms tabled;
        ordered = H.ordered ∙ sym (order_more ls (continues p));
        unordered = H.unordered;
        recorded = recorded_more (continues p) ∙ made;
        long = long;
        wide_stops = wide_stops;
        wide_given = wide_given;
        wide = H.wide;
        wide_starts = H.wide_starts;
        wide_order = H.wide_order;
      }
    where
      not_empty : empty ls ≡ false
      not_empty = case (empty ls) (λ e. absurd (omega (arith, no_monitor ls e, H.monitors_are))) (λ e. e)

  holds_go : (s e t : ℕ) → go_case mv z s e t ≡ 0 → Holds r (ls ++ (continues (go s e t) ∷ [])) z (go_moves mv z s e t) sp gv ct st os
  unfolding go_case with_part
  holds_go s e t q =
      let (p, q₁) = pick_zero (not (latest_passes is_mon z.latest)) 5 _ (omega arith) q in
      let (o, q₂) = pick_zero (leb named s || (leb z.events e || leb named t)) 3 _ (omega arith) q₁ in
      let (f, q₃) = pick_zero (not (eqb (move_at mv (z.monitors - 1) s e) 255)) 4 0 (omega arith) q₂ in
      let rest = or-rest (leb named s) _ o in
      let hs : s < named = leb-false named s (or_left (leb named s) _ o) in
      let he : e < z.events = leb-false z.events e (or_left (leb z.events e) _ rest) in
      let ht : t < named = leb-false named t (or-rest (leb z.events e) _ rest) in
      let few : named ≤ 32 = room.few_latest in
      let hm : z.monitors - 1 < 4 = omega (arith, room.few_monitors, some_monitor p) in
      let (S, a, k, n) = last_mon p in
      holds_continues (go s e t) (go_moves mv z s e t) sp gv (some_monitor p) (sym (go_case_lem s e t) ∙ q) (length-set mv (move_index (z.monitors - 1) s e) t ∙ H.long) H.wide_stops H.wide_given refl
      (one_part (go s e t) (monitors ls) z.events (z.monitors - 1) mv sp (go_moves mv z s e t) sp ct st (last_at (some_monitor p)) few_z ranged
      (λ T. subst (λ k. OfKind (go_moves mv z s e t) sp (z.monitors - 1) z.events k (last.parts ++ (go s e t ∷ []))) (sym k)
      (with_go mv sp (z.monitors - 1) z.events S a last.parts (subst (λ k. OfKind mv sp (z.monitors - 1) z.events k last.parts) k T) (rw (← n) few) s e t hm H.long few_z (rw (← n) hs) he (rw (← n) ht)
      (λ s e u m. rw (← n) (moves_within p s e u m)) (eqb-true _ 255 (not-false _ f))))
      (λ i ne. go_beside mv sp i (z.monitors - 1) s e t ne (omega arith) (omega (arith, few_z)))
      H.tabled)
      (given-kept (go s e t) (monitors ls) gv (λ e. refl) H.given_are)

  holds_stop : (s : ℕ) → stop_case sp z s ≡ 0 → Holds r (ls ++ (continues (stop s) ∷ [])) z mv (stop_stops sp z s) gv ct st os
  unfolding stop_case with_part
  holds_stop s q =
      let (p, q₁) = pick_zero (not (latest_passes is_mon z.latest)) 5 _ (omega arith) q in
      let (o, q₂) = pick_zero (leb named s) 3 _ (omega arith) q₁ in
      let hs : s < named = leb-false named s o in
      let few : named ≤ 32 = room.few_latest in
      let hm : z.monitors - 1 < 4 = omega (arith, room.few_monitors, some_monitor p) in
      let (S, a, k, n) = last_mon p in
      holds_continues (stop s) mv (stop_stops sp z s) gv (some_monitor p) (sym (stop_case_lem s) ∙ q) H.long (length-set sp (stop_index (z.monitors - 1) s) 1 ∙ H.wide_stops) H.wide_given refl
      (one_part (stop s) (monitors ls) z.events (z.monitors - 1) mv sp mv (stop_stops sp z s) ct st (last_at (some_monitor p)) few_z ranged
      (λ T. subst (λ k. OfKind mv (stop_stops sp z s) (z.monitors - 1) z.events k (last.parts ++ (stop s ∷ []))) (sym k)
      (with_stop mv sp (z.monitors - 1) z.events S a last.parts (subst (λ k. OfKind mv sp (z.monitors - 1) z.events k last.parts) k T) (rw (← n) few) s hm H.wide_stops (rw (← n) hs)))
      (λ i ne. stop_beside mv sp i (z.monitors - 1) s ne (omega arith))
      H.tabled)
      (given-kept (stop s) (monitors ls) gv (λ e. refl) H.given_are)

  holds_amp : (lo hi : ℤ) → last.kind ≡ bal lo hi → (e : ℕ) (d : ℤ) → amp_case gv z e d ≡ 0 → Holds r (ls ++ (continues (amp e d) ∷ [])) z (amp_moves mv z e d) sp (with_given gv z e) ct st os
  unfolding amp_case with_part of_latest
  holds_amp lo hi k e d q =
      let (p, q₁) = pick_zero (not (latest_passes is_bal z.latest)) 5 _ (omega arith) q in
      let (o, q₂) = pick_zero (leb z.events e || outsideℤ (neg_ℤ (pos 15)) (pos 15) d) 3 _ (omega arith) q₁ in
      let (f, q₃) = pick_zero (not (eqb (given_at gv (z.monitors - 1) e) 0)) 4 0 (omega arith) q₂ in
      let he : e < z.events = leb-false z.events e (or_left (leb z.events e) _ o) in
      let there : 1 ≤ z.monitors = amp_there p e d in
      let hm : z.monitors - 1 < 4 = omega (arith, room.few_monitors) in
      let kind : latest_kind z.latest ≡ bal lo hi = latest_kind_is there ∙ k in
      let few : states_of (bal lo hi) ≤ 32 = few_states (events_of ls) (bal lo hi) (subst (Ranged (events_of ls)) k (last_kept there).ranged) in
      let new : step_by last.parts e ≡ none = not_some (step_by last.parts e) (rw (latest_is_last there) at (given_again p e d o ∙ f)) in
      rw kind (holds_continues (amp e d) (with_step mv (z.monitors - 1) (bal lo hi) e d) sp (with_given gv z e) there (sym (amp_case_lem e d) ∙ q) (length_column mv (z.monitors - 1) e _ (states_of (bal lo hi)) ∙ H.long) H.wide_stops
      (length-set gv (given_index (z.monitors - 1) e) 1 ∙ H.wide_given)
      (rw k)
      (one_part (amp e d) (monitors ls) z.events (z.monitors - 1) mv sp (with_step mv (z.monitors - 1) (bal lo hi) e d) sp ct st (last_at there) few_z ranged
      (λ T. subst (λ k. OfKind (with_step mv (z.monitors - 1) (bal lo hi) e d) sp (z.monitors - 1) z.events k (last.parts ++ (amp e d ∷ []))) (sym k)
      (with_amp mv sp (z.monitors - 1) z.events lo hi last.parts (subst (λ k. OfKind mv sp (z.monitors - 1) z.events k last.parts) k T) few e d hm H.long few_z he new))
      (λ i ne. amp_beside mv sp i (z.monitors - 1) e (bal lo hi) d ne few (omega (arith, few_z)))
      H.tabled)
      (given-more (amp e d) e (monitors ls) (z.monitors - 1) gv (λ u. refl) (last_at there) hm (omega (arith, few_z)) H.wide_given H.given_are))
    where
      not_some : (o : Option ℤ) → is_some o ≡ false → o ≡ none
      not_some none q = refl
      not_some (some c) q = contra refl q

  some_band : (e : ℕ) (d : ℤ) → amp_case gv z e d ≡ 0 → (lo : ℤ) × (hi : ℤ) × (last.kind ≡ bal lo hi)
  unfolding amp_case
  some_band e d q = bal_is last.kind (passes is_bal (pick_zero (not (latest_passes is_bal z.latest)) 5 _ (omega arith) q).0)

  holds_open : (e a b : ℕ) → open_case z e a b ≡ 0 → Holds r (ls ++ (continues (opens e a b) ∷ [])) z (open_moves mv gv z e a b) sp (with_given gv z e) ct st os
  unfolding open_case with_part
  holds_open e a b q =
      let (p, q₁) = pick_zero (not (latest_passes is_day z.latest)) 5 _ (omega arith) q in
      let (o, q₂) = pick_zero (leb z.events e || ltb (latest_states z.latest) b) 3 _ (omega arith) q₁ in
      let he : e < z.events = leb-false z.events e (or_left (leb z.events e) _ o) in
      let there : 1 ≤ z.monitors = open_there p in
      let hm : z.monitors - 1 < 4 = omega (arith, room.few_monitors) in
      let first = first_hours p e he in
      let k = last_day p in
      holds_continues (opens e a b) (open_moves mv gv z e a b) sp (with_given gv z e) there (sym (open_case_lem e a b) ∙ q)
      (length_column mv (z.monitors - 1) e _ (latest_states z.latest) ∙ H.long) H.wide_stops
      (length-set gv (given_index (z.monitors - 1) e) 1 ∙ H.wide_given)
      (rw (last_steps p, first))
      (one_part (opens e a b) (monitors ls) z.events (z.monitors - 1) mv sp (open_moves mv gv z e a b) sp ct st (last_at there) few_z ranged
      (λ T. subst (λ k. OfKind (open_moves mv gv z e a b) sp (z.monitors - 1) z.events k (last.parts ++ (opens e a b ∷ []))) (sym k)
      (rw first (with_open mv sp (z.monitors - 1) z.events (latest_states z.latest) last.parts (subst (λ k. OfKind mv sp (z.monitors - 1) z.events k last.parts) k T) e a b hm H.long few_z few_named he)))
      (λ i ne. open_beside mv sp i (z.monitors - 1) (latest_states z.latest) e a b (eqb (given_at gv (z.monitors - 1) e) 0) ne few_named (omega (arith, few_z)))
      H.tabled)
      (given-more (opens e a b) e (monitors ls) (z.monitors - 1) gv (λ u. refl) (last_at there) hm (omega (arith, few_z)) H.wide_given H.given_are)

  holds_ord : (es : List ℕ) (line : ℕ) → suc (length ls) ≡ line → ord_case (over es os) z line (length es) ≡ 0 → Holds r (ls ++ (ord es ∷ [])) z mv sp gv ct st (over es os)
  unfolding ord_case with_line extended reordered
  holds_ord es line n q =
      let (p, q₁) = pick_zero (not (eqb line 2)) 5 _ (omega arith) q in
      let (w, q₂) = pick_zero (not (eqb (length es) z.events)) 2 _ (omega arith) q₁ in
      let (o, q₃) = pick_zero (any (leb z.events) (take (length es) (over es os))) 3 _ (omega arith) q₂ in
      let full : length es ≡ z.events = eqb-true (length es) z.events (not-false _ w) in
      let enough : length es ≤ length os = omega (arith, few_z, H.wide_order) in
      let left : over es os ≡ es ++ drop (length es) os = over_events z.events few_z es os enough (sym (front_any z.events few_z es os enough) ∙ o) in
      let not_empty : empty ls ≡ false = empty-length ls ∙ ne_eqb (length ls) 0 (λ e. omega (arith, eqb-true line 2 (not-false _ p))) in
      let ms : monitors (ls ++ (ord es ∷ [])) ≡ monitors ls = monitors-more ls (ord es) in
      record {
        formed = formed_more (ord es) (sym (ord_case_lem ls z line es os H.events_are few_z n H.wide_order) ∙ (unfold ord_case in q));
        events_are = events_snoc ls (ord es) not_empty ∙ H.events_are;
        monitors_are = rw ms H.monitors_are;
        joint_is = rw ms H.joint_is;
        latest_is = rw ms H.latest_is;
        none_latest = H.none_latest;
        given_are = rw ms H.given_are;
        tabled = rw ms H.tabled;
        ordered = ap₂ take (sym full) left ∙ take_at es (drop (length es) os) (length es) refl ∙ sym (order_more ls (ord es));
        unordered = λ e. contra (eq-eqb z.events 0 e) (sym begun_z ∙ not_empty);
        recorded = recorded_more (ord es) ∙ rw left;
        long = H.long;
        wide_stops = H.wide_stops;
        wide_given = H.wide_given;
        wide = H.wide;
        wide_starts = H.wide_starts;
        wide_order = length_over es os ∙ H.wide_order;
      }

  pub holds_more : (l : Line) (line : ℕ) (left : List ℕ) → suc (length ls) ≡ line → Leaves l os left → case_of mv sp gv left z line (form_of l) ≡ 0
      → Holds r (ls ++ (l ∷ [])) (sizes_after z (form_of l)) (moves_after mv gv z (form_of l)) (stops_after sp z (form_of l)) (given_after gv z (form_of l)) (counts_after ct z (form_of l)) (starts_after st z (form_of l)) left
  holds_more (rig e) line left n k q = rw k (holds_rig e q)
  holds_more (ord es) line left n k q = rw k (holds_ord es line n (rw k at q))
  holds_more (begins kind) line left n k q = rw (k, as_kind_lem kind) (holds_begins kind q)
  holds_more (continues (go s e t)) line left n k q = rw k (holds_go s e t q)
  holds_more (continues (stop s)) line left n k q = rw k (holds_stop s q)
  holds_more (continues (amp e d)) line left n k q = let (lo, hi, b) = some_band e d q in rw k (holds_amp lo hi b e d q)
  holds_more (continues (opens e a b)) line left n k q = rw k (holds_open e a b q)
  holds_more other line left n k q = absurd (omega arith)
