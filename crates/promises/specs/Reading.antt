-- Reading a text: the first bad line, and the first case on it. What the reader's contract cites; that it agrees with the words of Text is a theorem.
--   leads_to s e p      == where the line p moves from s on e, if it does
--   move_by ps s e      == where the first of the lines ps that does so moves
--   marks s p          == the line p marks the state s
--   marked_by ps s      == one of the lines ps marks s
--   opens_by f e p      == the line p gives event e hours, from a up to b, that pass the test f a b
--   has_hours, in_hours  == HasHours and InHours of Meaning, as tests
--   is_mon k, is_bal k, is_day k == k is a `mon`, a `bal`, a `day`
--   is_out_of_range, equal  == OutOfRange and Equal of Text, as tests
--   repeats es         == some number stands twice in es
--   tests ls l         == the cases 2, 5, 3, 16 to 18, 4 and 6 of the line l after the lines ls, as tests
--   line_case ls l      == the number of the first case that holds of l, 0 where none does
--   reading t          == served where t is readable, else refused by a number from 1 to 6 or 16 to 18, and its place
-- A new Kind is one clause each of `is_mon`, `is_bal`, `is_day`, `is_out_of_range` and `equal`; a new Part one each of `tests`, `leads_to`, `marks` and `opens_by`. Assumes
-- nothing.
use Rattle.std.specs.Prelude.{Bool, true, false, not, ◌&&◌, ◌||◌, List, [], ◌∷◌, ◌++◌, ℕ, suc, ◌*◌, ℤ, pos, neg_ℤ, length, ltb, leb, eqb}
use Rattle.std.proofs.Math.Option.{Option, none, some}
use Rattle.std.specs.Int.Signed.{lt_z}
use Rattle.lists.specs.Lists.{pick, any, first_of, is_some}
use Rattle.promises.specs.Answer.{Answer, served, unless}
use Rattle.promises.specs.Text.{Kind, mon, gap, reply, bal, day, Part, go, stop, amp, opens, Line, rig, ord, begins, continues, other, Monitor, monitors, latest, states_of, events_of, product, decoded, unended}
use Rattle.promises.specs.Meaning.{step_by}

abbrev pub empty : {A : Type 0} → List A → Bool
empty [] = true
empty (x ∷ l) = false

-- '`go`, s, e, t: the latest monitor moves from s to t on event e'
unfoldable pub leads_to : ℕ → ℕ → Part → Option ℕ
leads_to s e (go a b c) = pick (eqb a s && eqb b e) (some c) none
leads_to s e (stop a) = none
leads_to s e (amp a d) = none
leads_to s e (opens a b c) = none

abbrev pub move_by : List Part → ℕ → ℕ → Option ℕ
move_by ps s e = first_of (leads_to s e) ps

-- '`stop`, s marks a state of the latest monitor' (02 no. 4)
unfoldable pub marks : ℕ → Part → Bool
marks s (go a b c) = false
marks s (stop a) = eqb a s
marks s (amp a d) = false
marks s (opens a b c) = false

abbrev pub marked_by : List Part → ℕ → Bool
marked_by ps s = any (marks s) ps

-- '`open`, e, a, b' (02 no. 7)
unfoldable pub opens_by : (ℕ → ℕ → Bool) → ℕ → Part → Bool
opens_by f e (go a b c) = false
opens_by f e (stop a) = false
opens_by f e (amp a d) = false
opens_by f e (opens u a b) = eqb u e && f a b

abbrev pub has_hours : List Part → ℕ → Bool
has_hours ps e = any (opens_by (λ a b. true) e) ps

abbrev pub in_hours : List Part → ℕ → ℕ → Bool
in_hours ps e s = any (opens_by (λ a b. leb a s && ltb s b) e) ps

pub record Tests : Type 0 where
  pub misformed : Bool
  pub misplaced : Bool
  pub out_of_range : Bool
  pub clash : ℕ → Bool
  pub again : Bool
  pub too_many : Bool

abbrev pub outside : ℕ → ℕ → ℕ → Bool
outside lo hi n = ltb n lo || ltb hi n

abbrev pub outsideℤ : ℤ → ℤ → ℤ → Bool
outsideℤ lo hi x = lt_z x lo || lt_z hi x

abbrev pub no_clash : ℕ → Bool
no_clash n = false

abbrev pub is_mon : Kind → Bool
is_mon (mon S a) = true
is_mon (gap e n) = false
is_mon (reply a b lo hi) = false
is_mon (bal lo hi) = false
is_mon (day T) = false

abbrev pub is_bal : Kind → Bool
is_bal (mon S a) = false
is_bal (gap e n) = false
is_bal (reply a b lo hi) = false
is_bal (bal lo hi) = true
is_bal (day T) = false

abbrev pub is_day : Kind → Bool
is_day (mon S a) = false
is_day (gap e n) = false
is_day (reply a b lo hi) = false
is_day (bal lo hi) = false
is_day (day T) = true

abbrev pub is_out_of_range : ℕ → Kind → Bool
is_out_of_range E (mon S a) = outside 1 32 S || leb S a
is_out_of_range E (gap e n) = leb E e || outside 2 32 n
is_out_of_range E (reply a b lo hi) = leb E a || (leb E b || (ltb lo 1 || (ltb hi lo || ltb 31 hi)))
is_out_of_range E (bal lo hi) = outsideℤ (neg_ℤ (pos 15)) (pos 0) lo || outsideℤ (pos 0) (pos 15) hi
is_out_of_range E (day T) = outside 2 32 T

abbrev pub equal : Kind → Bool
equal (mon S a) = false
equal (gap e n) = false
equal (reply a b lo hi) = eqb a b
equal (bal lo hi) = false
equal (day T) = false

-- a line that begins a monitor of the kind k
unfoldable pub test_beginning : List Line → Kind → Tests
test_beginning ls k = record {
  misformed = false;
  misplaced = empty ls;
  out_of_range = is_out_of_range (events_of ls) k || leb 4 (length (monitors ls));
  clash = λ n. eqb n 17 && equal k;
  again = false;
  too_many = ltb 1024 (product (monitors ls) * states_of k);
}

-- there is a latest monitor, and it passes the test f
unfoldable pub of_latest : (Monitor → Bool) → Option Monitor → Bool
of_latest f none = false
of_latest f (some m) = f m

-- a line of the latest monitor
unfoldable pub test_continuing : List Line → (Kind → Bool) → (Monitor → Bool) → (ℕ → Bool) → (Monitor → Bool) → Tests
test_continuing ls right out clash again = record {
  misformed = false;
  misplaced = not (of_latest (λ m. right m.kind) (latest (monitors ls)));
  out_of_range = of_latest out (latest (monitors ls));
  clash = clash;
  again = of_latest again (latest (monitors ls));
  too_many = false;
}

abbrev pub repeats : List ℕ → Bool
repeats [] = false
repeats (e ∷ es) = any (eqb e) es || repeats es

unfoldable pub tests : List Line → Line → Tests
tests ls (rig E) = record { misformed = false; misplaced = not (empty ls); out_of_range = outside 1 16 E; clash = no_clash; again = false; too_many = false }
tests ls (ord es) = record {
  misformed = eqb (length ls) 1 && not (eqb (length es) (events_of ls));
  misplaced = not (eqb (length ls) 1);
  out_of_range = any (leb (events_of ls)) es;
  clash = λ n. eqb n 16 && repeats es;
  again = false;
  too_many = false;
}
tests ls (begins k) = test_beginning ls k
tests ls (continues (go s e t)) =
    test_continuing ls is_mon
    (λ m. leb (states_of m.kind) s || (leb (events_of ls) e || leb (states_of m.kind) t))
    no_clash
    (λ m. is_some (move_by m.parts s e))
tests ls (continues (stop s)) = test_continuing ls is_mon (λ m. leb (states_of m.kind) s) no_clash (λ m. marked_by m.parts s)
tests ls (continues (amp e d)) = test_continuing ls is_bal (λ m. leb (events_of ls) e || outsideℤ (neg_ℤ (pos 15)) (pos 15) d) no_clash (λ m. is_some (step_by m.parts e))
tests ls (continues (opens e a b)) = test_continuing ls is_day (λ m. leb (events_of ls) e || ltb (states_of m.kind) b) (λ n. eqb n 18 && leb b a) (λ m. false)
tests ls other = record { misformed = true; misplaced = empty ls; out_of_range = false; clash = no_clash; again = false; too_many = false }

-- 'on one line 2, 5, 3, 4, 6'; 16 'tested after 3' (02 no. 2), 17 'after 3' (02 no. 5), 18 'after 3' (02 no. 7)
unfoldable pub line_case : List Line → Line → ℕ
line_case ls l =
    pick (tests ls l).misformed 2
    (pick (tests ls l).misplaced 5
    (pick (tests ls l).out_of_range 3
    (pick ((tests ls l).clash 16) 16
    (pick ((tests ls l).clash 17) 17
    (pick ((tests ls l).clash 18) 18
    (pick (tests ls l).again 4
    (pick (tests ls l).too_many 6
    0)))))))

-- after the lines `front`, none of them bad: the first bad line of `back`; then whether what stands after the last line is empty, and a monitor is there
unfoldable pub reading_from : List Line → List Line → List ℕ → Answer
reading_from front [] tail =
    unless 2 (suc (length front)) (not (empty tail))
    (unless 5 (suc (length front)) (empty (monitors front))
    (served []))
reading_from front (l ∷ back) tail =
    unless (line_case front l) (suc (length front)) (not (eqb (line_case front l) 0))
    (reading_from (front ++ (l ∷ [])) back tail)

-- rows 1 to 6 of the table and 16 to 18
unfoldable pub reading : List ℕ → Answer
reading t = unless 1 0 (ltb 65535 (length t)) (reading_from [] (decoded t) (unended t))
