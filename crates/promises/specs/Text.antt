-- A rig's text as its lines, and the cases of refusal as papers 01 and 02 write them. Nothing here is a result of a call.
--   lines t            == the lines of t that end, without their line ends
--   unended t          == what stands after the last line end
--   number f           == the number that the field f is, if it is one
--   numbers fs         == the numbers that the fields fs are, if each is one
--   signed f           == the signed number that the field f is, if it is one
--   Kind               == a line that begins a monitor, with its numbers
--   Part               == a line of the latest monitor, with its numbers
--   decode l           == the line form that l is, with its numbers, or `other` where it is none
--   decoded t          == the forms of t's lines
--   monitors ls        == the monitors of the lines ls, first to last, each the line that begins it and its further lines
--   states_of k         == how many states a monitor of the kind k has
--   start_of k          == the state in which it starts
--   events_of ls        == E
--   order_of ls         == the events, in the order in which they are compared
--   OutOfRange E k     == a number of a line that begins a monitor of the kind k is out of its range, in a rig with E events
--   Equal k            == the a and the b of such a line are equal
--   cases ls l         == what each of the cases 2, 5, 3, 16 to 18, 4 and 6 says of the line l after the lines ls
--   Readable t         == no case of a check on the text holds of it
--   Fault t n p        == the checks on the text, in their order, refuse t with number n and place p
--   Case7 .. Case13    == the case holds of a horizon, of lent buffers, of a sequence
-- A new line form is one constructor of Kind, Part or Line and its word in `form`; a new Kind has one clause each of `states_of`, `start_of`, `OutOfRange` and
-- `Equal`, a new Part one of `cases`, a new Line also what it does to the monitors (`extended`) and to the order of events (`reordered`).
-- How each form is written is fixed by the theorem of Spelling. Assumes nothing.
use Rattle.std.specs.Prelude.{◌≡◌, ◌⊎◌, ◌≢◌, Bool, true, false, ◌&&◌, ℕ, zero, suc, ◌+◌, ◌-◌, ◌*◌, ◌≤◌, ◌<◌, ℤ, pos, negsuc, neg_ℤ, nat_abs, ◌-ℤ◌, ◌<ℤ◌, length, get_or, eqb, leb}
use mathlib.Core.List.{List, [], ◌∷◌, ◌++◌, map, Memᴰ as In}
use Rattle.std.proofs.Math.Option.{Option, none, some}
use Prim.Native.Char.{code}
use Prim.Native.String.{String, [] as no-character, ◌∷◌ as ◌before◌}
use Rattle.lists.specs.Lists.{pick, range}

-- ---- lines, fields, numbers

-- x put before the first piece
unfoldable pub onto : ℕ → List (List ℕ) → List (List ℕ)
onto x [] = (x ∷ []) ∷ []
onto x (p ∷ ps) = (x ∷ p) ∷ ps

-- the pieces that byte b parts: one more than there are bytes b
unfoldable pub split_on : ℕ → List ℕ → List (List ℕ)
split_on b [] = [] ∷ []
split_on b (x ∷ xs) = pick (eqb x b) ([] ∷ split_on b xs) (onto x (split_on b xs))

unfoldable pub init : List (List ℕ) → List (List ℕ)
init [] = []
init (p ∷ []) = []
init (p ∷ (q ∷ ps)) = p ∷ init (q ∷ ps)

unfoldable pub last_of : List (List ℕ) → List ℕ
last_of [] = []
last_of (p ∷ []) = p
last_of (p ∷ (q ∷ ps)) = last_of (q ∷ ps)

-- 'A line ends with byte 10'
unfoldable pub lines : List ℕ → List (List ℕ)
lines t = init (split_on 10 t)

unfoldable pub unended : List ℕ → List ℕ
unended t = last_of (split_on 10 t)

-- 'fields are parted by one byte 9'
unfoldable pub fields : List ℕ → List (List ℕ)
fields l = split_on 9 l

unfoldable pub digits_value : ℕ → List ℕ → Option ℕ
digits_value n [] = some n
digits_value n (b ∷ bs) = pick (leb 48 b && leb b 57) (digits_value (10 * n + (b - 48)) bs) none

-- 'A number is one to five digits, no leading zero except 0 itself'
unfoldable pub number : List ℕ → Option ℕ
number [] = none
number (b ∷ []) = digits_value 0 (b ∷ [])
number (b ∷ (c ∷ bs)) = pick (eqb b 48) none (pick (leb (length bs) 3) (digits_value 0 (b ∷ (c ∷ bs))) none)

-- x before the elements of a list, where there are both
unfoldable pub ahead : Option ℕ → Option (List ℕ) → Option (List ℕ)
ahead none l = none
ahead (some x) none = none
ahead (some x) (some l) = some (x ∷ l)

unfoldable pub numbers : List (List ℕ) → Option (List ℕ)
numbers [] = some []
numbers (f ∷ fs) = ahead (number f) (numbers fs)

-- −n, of a nonzero number n
unfoldable pub minus : Option ℕ → Option ℤ
minus none = none
minus (some zero) = none
minus (some (suc n)) = some (negsuc n)

unfoldable pub plus : Option ℕ → Option ℤ
plus none = none
plus (some n) = some (pos n)

-- 'In lo, hi and d a minus sign, byte 45, may come before a nonzero number; any other is 2.' (02 no. 6)
unfoldable pub signed : List ℕ → Option ℤ
signed [] = none
signed (b ∷ f) = pick (eqb b 45) (minus (number f)) (plus (number (b ∷ f)))

unfoldable pub same : List ℕ → List ℕ → Bool
same [] [] = true
same [] (b ∷ bs) = false
same (a ∷ as') [] = false
same (a ∷ as') (b ∷ bs) = eqb a b && same as' bs

-- ---- line forms

-- a line that begins a monitor
pub data Kind : Type 0 where
  mon : ℕ → ℕ → Kind  -- `mon`, S, and 'the monitor's start state'
  gap : ℕ → ℕ → Kind  -- `gap`, e, n (02 no. 5)
  reply : ℕ → ℕ → ℕ → ℕ → Kind  -- `reply`, a, b, lo, hi (02 no. 5)
  bal : ℤ → ℤ → Kind  -- `bal`, lo, hi (02 no. 6)
  day : ℕ → Kind  -- `day`, T (02 no. 7)

-- a line of 'the latest monitor'
pub data Part : Type 0 where
  go : ℕ → ℕ → ℕ → Part  -- `go`, s, e, t
  stop : ℕ → Part  -- `stop`, s, which 'marks a state' (02 no. 4)
  amp : ℕ → ℤ → Part  -- `amp`, e, d, which 'gives event e a signed step d' (02 no. 6)
  opens : ℕ → ℕ → ℕ → Part  -- `open`, e, a, b, which admits e 'at steps a up to but not including b' (02 no. 7)

pub data Line : Type 0 where
  rig : ℕ → Line  -- `rig`, E
  ord : List ℕ → Line  -- `ord`, which 'lists all E events, first to last' (02 no. 2)
  begins : Kind → Line
  continues : Part → Line
  other : Line  -- 'no such line form; a field that isn't a number as above'

-- the first of the fields, as `read` reads it, then what `rest` makes of it and of the other fields
unfoldable pub field : {A : Type 0} → (List ℕ → Option A) → (A → List (List ℕ) → Line) → List (List ℕ) → Line
field read rest [] = other
field {A} read rest (f ∷ fs) = onward (read f)
  where
    onward : Option A → Line
    onward none = other
    onward (some a) = rest a fs

-- the line l where no field is left, else what `more` makes of those that are
unfoldable pub end_or : Line → (List (List ℕ) → Line) → List (List ℕ) → Line
end_or l more [] = l
end_or l more (f ∷ fs) = more (f ∷ fs)

unfoldable pub end : Line → List (List ℕ) → Line
end l = end_or l (λ fs. other)

-- one number, two, three and four
unfoldable pub one : (ℕ → Line) → List (List ℕ) → Line
one f = field number (λ a. end (f a))

unfoldable pub two : (ℕ → ℕ → Line) → List (List ℕ) → Line
two f = field number (λ a. one (f a))

unfoldable pub three : (ℕ → ℕ → ℕ → Line) → List (List ℕ) → Line
three f = field number (λ a. two (f a))

unfoldable pub four : (ℕ → ℕ → ℕ → ℕ → Line) → List (List ℕ) → Line
four f = field number (λ a. three (f a))

-- one signed number, two, and a number before one
unfoldable pub one_signed : (ℤ → Line) → List (List ℕ) → Line
one_signed f = field signed (λ a. end (f a))

unfoldable pub two_signed : (ℤ → ℤ → Line) → List (List ℕ) → Line
two_signed f = field signed (λ a. one_signed (f a))

unfoldable pub then_signed : (ℕ → ℤ → Line) → List (List ℕ) → Line
then_signed f = field number (λ a. one_signed (f a))

-- one number, or two
unfoldable pub one_or_two : (ℕ → Line) → (ℕ → ℕ → Line) → List (List ℕ) → Line
one_or_two f g = field number (λ a. end_or (f a) (one (g a)))

-- any number of numbers, none included
unfoldable pub any_number : (List ℕ → Line) → List (List ℕ) → Line
any_number f fs = whole (numbers fs)
  where
    whole : Option (List ℕ) → Line
    whole none = other
    whole (some ns) = f ns

-- the bytes of a word's characters
abbrev pub bytes : String → List ℕ
bytes no-character = []
bytes (c before s) = code c ∷ bytes s

-- the words, each with the fields that its form has. 'A `mon` line may carry a third field, the monitor's start state. A line without it starts in 0.' (02 no. 1)
unfoldable pub form : List (List ℕ) → Line
form [] = other
form (w ∷ fs) =
    pick (same w (bytes "rig")) (one (λ E. rig E) fs)
    (pick (same w (bytes "mon")) (one_or_two (λ S. begins (mon S 0)) (λ S a. begins (mon S a)) fs)
    (pick (same w (bytes "go")) (three (λ s e t. continues (go s e t)) fs)
    (pick (same w (bytes "ord")) (any_number (λ es. ord es) fs)
    (pick (same w (bytes "stop")) (one (λ s. continues (stop s)) fs)
    (pick (same w (bytes "gap")) (two (λ e n. begins (gap e n)) fs)
    (pick (same w (bytes "reply")) (four (λ a b lo hi. begins (reply a b lo hi)) fs)
    (pick (same w (bytes "bal")) (two_signed (λ lo hi. begins (bal lo hi)) fs)
    (pick (same w (bytes "amp")) (then_signed (λ e d. continues (amp e d)) fs)
    (pick (same w (bytes "day")) (one (λ T. begins (day T)) fs)
    (pick (same w (bytes "open")) (three (λ e a b. continues (opens e a b)) fs)
    other))))))))))

unfoldable pub decode : List ℕ → Line
decode l = form (fields l)

unfoldable pub decoded : List ℕ → List Line
decoded t = map decode (lines t)

-- ---- monitors

-- A monitor as its lines: the line that begins it, and the lines of it that follow.
pub record Monitor : Type 0 where
  pub kind : Kind
  pub parts : List Part

-- the latest monitor has one line more
unfoldable pub add_part : Part → List Monitor → List Monitor
add_part p [] = []
add_part p (m ∷ []) = record { kind = m.kind; parts = m.parts ++ (p ∷ []) } ∷ []
add_part p (m ∷ (n ∷ ms)) = m ∷ add_part p (n ∷ ms)

unfoldable pub extended : List Monitor → Line → List Monitor
extended ms (rig E) = ms
extended ms (ord es) = ms
extended ms (begins k) = ms ++ (record { kind = k; parts = [] } ∷ [])
extended ms (continues p) = add_part p ms
extended ms other = ms

unfoldable pub monitors_from : List Monitor → List Line → List Monitor
monitors_from ms [] = ms
monitors_from ms (l ∷ ls) = monitors_from (extended ms l) ls

unfoldable pub monitors : List Line → List Monitor
monitors ls = monitors_from [] ls

-- '`mon`, S: a new monitor with states 0 to S−1'; `gap` and `reply`: 'a monitor, with n or hi+1 states' (02 no. 5); `bal`: 'It has hi−lo+1 states' (02 no. 6);
-- `day`: 'a monitor whose T states are the steps of the day' (02 no. 7)
unfoldable pub states_of : Kind → ℕ
states_of (mon S a) = S
states_of (gap e n) = n
states_of (reply a b lo hi) = hi + 1
states_of (bal lo hi) = nat_abs (hi -ℤ lo) + 1
states_of (day T) = T

-- 'the monitor's start state' (02 no. 1); `gap`: no coming step bars e; `reply`: '0 with nothing due' (02 no. 5); `bal`: 'beginning at 0', and 'state j is the
-- difference lo+j', so −lo (02 no. 6); `day`: 'step 0 begins the scenario' (02 no. 7)
unfoldable pub start_of : Kind → ℕ
start_of (mon S a) = a
start_of (gap e n) = 0
start_of (reply a b lo hi) = 0
start_of (bal lo hi) = nat_abs lo
start_of (day T) = 0

-- 'the latest monitor'
unfoldable pub latest : List Monitor → Option Monitor
latest [] = none
latest (m ∷ []) = some m
latest (m ∷ (n ∷ ms)) = latest (n ∷ ms)

-- 'The joint states number P, the product of all S'
unfoldable pub product : List Monitor → ℕ
product [] = 1
product (m ∷ ms) = states_of m.kind * product ms

-- E, of the first line
unfoldable pub events_of : List Line → ℕ
events_of [] = 0
events_of (rig E ∷ ls) = E
events_of (ord es ∷ ls) = 0
events_of (begins k ∷ ls) = 0
events_of (continues p ∷ ls) = 0
events_of (other ∷ ls) = 0

-- ---- the order of events

-- the events es with one line more: 'lower first' with `rig`, E; an `ord` line 'replaces 'lower first' in comparing two events' (02 no. 2)
unfoldable pub reordered : List ℕ → Line → List ℕ
reordered es (rig E) = range E
reordered es (ord ds) = ds
reordered es (begins k) = es
reordered es (continues p) = es
reordered es other = es

unfoldable pub order_from : List ℕ → List Line → List ℕ
order_from es [] = es
order_from es (l ∷ ls) = order_from (reordered es l) ls

unfoldable pub order_of : List Line → List ℕ
order_of ls = order_from [] ls

-- ---- the cases of a line l after the lines ls, as the tables of 01 and 02 write them

pub record Cases : Type 1 where
  pub misformed : Type 0  -- 2, 'no such line form; a field that isn't a number as above'; `ord`, 'the wrong number of fields'
  pub misplaced : Type 0  -- 5, 'first line not `rig`; `rig` later'; `ord` 'elsewhere'; `go` or `stop` 'if the latest monitor isn't a `mon`', `amp` .. a `bal`, `open` .. a `day`
  pub out_of_range : Type 0  -- 3, 'a number out of its range, or a fifth `mon`'
  pub clash : ℕ → Type 0  -- by its number: 16, 'an event named twice in `ord`'; 17, 'a equals b'; 18, 'a .. not below b'
  pub again : Type 0  -- 4, 's and e again in one monitor'; 'A state marked twice'; 'An event given twice'
  pub too_many : Type 0  -- 6, 'P over 1,024'

abbrev pub never : ℕ → Type 0
never n = ⊥

-- n is not 'from lo to hi'
abbrev pub Outside : ℕ → ℕ → ℕ → Type 0
Outside lo hi n = (n < lo) ⊎ (hi < n)

abbrev pub Outsideℤ : ℤ → ℤ → ℤ → Type 0
Outsideℤ lo hi x = (x <ℤ lo) ⊎ (hi <ℤ x)

unfoldable pub OutOfRange : ℕ → Kind → Type 0
-- 'S from 1 to 32'; 'A start not below S is refused 3.' (02 no. 1)
OutOfRange E (mon S a) = Outside 1 32 S ⊎ (S ≤ a)
-- 'n from 2 to 32' (02 no. 5)
OutOfRange E (gap e n) = (E ≤ e) ⊎ Outside 2 32 n
-- '1 ≤ lo ≤ hi ≤ 31' (02 no. 5)
OutOfRange E (reply a b lo hi) = (E ≤ a) ⊎ ((E ≤ b) ⊎ ((lo < 1) ⊎ ((hi < lo) ⊎ (31 < hi))))
-- 'lo from −15 to 0 and hi from 0 to 15' (02 no. 6)
OutOfRange E (bal lo hi) = Outsideℤ (neg_ℤ (pos 15)) (pos 0) lo ⊎ Outsideℤ (pos 0) (pos 15) hi
-- 'T from 2 to 32' (02 no. 7)
OutOfRange E (day T) = Outside 2 32 T

-- '17, a equals b' (02 no. 5)
unfoldable pub Equal : Kind → Type 0
Equal (mon S a) = ⊥
Equal (gap e n) = ⊥
Equal (reply a b lo hi) = a ≡ b
Equal (bal lo hi) = ⊥
Equal (day T) = ⊥

-- a line that begins a monitor of the kind k: it 'counts as a `mon` in 3, 5 and 6, as do all later kinds' (02 no. 5)
unfoldable pub beginning : List Line → Kind → Cases
beginning ls k = record {
  misformed = ⊥;
  misplaced = ls ≡ [];
  out_of_range = OutOfRange (events_of ls) k ⊎ (4 ≤ length (monitors ls));
  clash = λ n. (n ≡ 17) × Equal k;
  again = ⊥;
  too_many = 1024 < product (monitors ls) * states_of k;
}

-- there is a latest monitor, and P holds of it
unfoldable pub OfLatest : (Monitor → Type 0) → Option Monitor → Type 0
OfLatest P none = ⊥
OfLatest P (some m) = P m

-- a line of the latest monitor, which must be there and of the right kind; whether its numbers are out of range, or were given before, is said of that monitor
unfoldable pub continuing : List Line → (Kind → Type 0) → (Monitor → Type 0) → (ℕ → Type 0) → (Monitor → Type 0) → Cases
continuing ls right out clash again = record {
  misformed = ⊥;
  misplaced = OfLatest (λ m. right m.kind) (latest (monitors ls)) → ⊥;
  out_of_range = OfLatest out (latest (monitors ls));
  clash = clash;
  again = OfLatest again (latest (monitors ls));
  too_many = ⊥;
}

unfoldable pub IsMon : Kind → Type 0
IsMon k = (S : ℕ) × (a : ℕ) × (k ≡ mon S a)

unfoldable pub IsBal : Kind → Type 0
IsBal k = (lo : ℤ) × (hi : ℤ) × (k ≡ bal lo hi)

unfoldable pub IsDay : Kind → Type 0
IsDay k = (T : ℕ) × (k ≡ day T)

-- 'an event named twice in `ord`'
unfoldable pub Twice : List ℕ → Type 0
Twice es = (i : ℕ) × (j : ℕ) × (i < j) × (j < length es) × (get_or es i 0 ≡ get_or es j 0)

unfoldable pub cases : List Line → Line → Cases
-- 'the first line and only there'; 'E from 1 to 16'
cases ls (rig E) = record { misformed = ⊥; misplaced = ls ≢ []; out_of_range = Outside 1 16 E; clash = never; again = ⊥; too_many = ⊥ }
-- 'at most one and only second'; 'On line 2 the wrong number of fields is 2, an event not below E is 3; an `ord` elsewhere is 5 with any number of number
-- fields, none included.' (02 no. 2)
cases ls (ord es) = record {
  misformed = (length ls ≡ 1) × (length es ≢ events_of ls);
  misplaced = length ls ≢ 1;
  out_of_range = (e : ℕ) × In e es × (events_of ls ≤ e);
  clash = λ n. (n ≡ 16) × Twice es;
  again = ⊥;
  too_many = ⊥;
}
cases ls (begins k) = beginning ls k
-- 'moves from s to t on event e': s and t below S, e below E; 'A `go` or `stop` is 5 if the latest monitor isn't a `mon`.' (02 no. 5)
cases ls (continues (go s e t)) =
    continuing ls IsMon
    (λ m. (states_of m.kind ≤ s) ⊎ ((events_of ls ≤ e) ⊎ (states_of m.kind ≤ t)))
    never
    (λ m. (u : ℕ) × In (go s e u) m.parts)
-- 'A state marked twice is 4, a state not below S is 3, a `stop` before any `mon` is 5.' (02 no. 4)
cases ls (continues (stop s)) = continuing ls IsMon (λ m. states_of m.kind ≤ s) never (λ m. In (stop s) m.parts)
-- 'a signed step d, −15 to 15'; 'An event given twice is 4; an `amp` is 5 if the latest monitor isn't a `bal`.' (02 no. 6)
cases ls (continues (amp e d)) = continuing ls IsBal (λ m. (events_of ls ≤ e) ⊎ Outsideℤ (neg_ℤ (pos 15)) (pos 15) d) never (λ m. (c : ℤ) × In (amp e c) m.parts)
-- 'b at most T'; 'an `open` is 5 if the latest monitor isn't a `day`'; '18, a, which has no other range, not below b'; 'Several lines add up' (02 no. 7)
cases ls (continues (opens e a b)) = continuing ls IsDay (λ m. (events_of ls ≤ e) ⊎ (states_of m.kind < b)) (λ n. (n ≡ 18) × (b ≤ a)) (λ m. ⊥)
cases ls other = record { misformed = Unit {0}; misplaced = ls ≡ []; out_of_range = ⊥; clash = never; again = ⊥; too_many = ⊥ }

unfoldable pub Case2 : List Line → Line → Type 0
Case2 ls l = (cases ls l).misformed

unfoldable pub Case5 : List Line → Line → Type 0
Case5 ls l = (cases ls l).misplaced

unfoldable pub Case3 : List Line → Line → Type 0
Case3 ls l = (cases ls l).out_of_range

unfoldable pub Case16 : List Line → Line → Type 0
Case16 ls l = (cases ls l).clash 16

unfoldable pub Case17 : List Line → Line → Type 0
Case17 ls l = (cases ls l).clash 17

unfoldable pub Case18 : List Line → Line → Type 0
Case18 ls l = (cases ls l).clash 18

unfoldable pub Case4 : List Line → Line → Type 0
Case4 ls l = (cases ls l).again

unfoldable pub Case6 : List Line → Line → Type 0
Case6 ls l = (cases ls l).too_many

-- ---- the text

-- 'text over 65,535 bytes'
unfoldable pub Case1 : List ℕ → Type 0
Case1 t = 65535 < length t

-- no case of 2 to 6, nor of 16 to 18, holds of the line
pub record Sound (ls : List Line) (l : Line) : Type 0 where
  pub formed : Case2 ls l → ⊥
  pub placed : Case5 ls l → ⊥
  pub ranged : Case3 ls l → ⊥
  pub named_once : Case16 ls l → ⊥
  pub unequal : Case17 ls l → ⊥
  pub nonempty : Case18 ls l → ⊥
  pub new : Case4 ls l → ⊥
  pub fits : Case6 ls l → ⊥

-- of the lines of `back`, each after those before it
unfoldable pub AllSound : List Line → List Line → Type 0
AllSound front [] = Unit {0}
AllSound front (l ∷ back) = Sound front l × AllSound (front ++ (l ∷ [])) back

-- 'A rig is readable if no case of a check on its text, here 1 to 6, holds of it, whatever a call answers.' 16 (02 no. 2), 17 (02 no. 5) and 18 (02 no. 7) are three more
pub record Readable (t : List ℕ) : Type 0 where
  pub short : Case1 t → ⊥
  pub sound : AllSound [] (decoded t)
  -- 'last line unended'
  pub ended : unended t ≡ []
  -- 'no `mon` by the end'
  pub monitored : monitors (decoded t) ≢ []

-- where the case holds, what it says; else what the later ones say
abbrev pub first : Type 0 → Type 0 → Type 0 → Type 0
first case says later = (case × says) ⊎ ((case → ⊥) × later)

-- 'on one line 2, 5, 3, 4, 6'; 16 'tested after 3' (02 no. 2), 17 'after 3' (02 no. 5), 18 'after 3' (02 no. 7): no line has two of these
unfoldable pub LineFault : List Line → Line → ℕ → Type 0
LineFault ls l n =
    first (Case2 ls l) (n ≡ 2)
    (first (Case5 ls l) (n ≡ 5)
    (first (Case3 ls l) (n ≡ 3)
    (first (Case16 ls l) (n ≡ 16)
    (first (Case17 ls l) (n ≡ 17)
    (first (Case18 ls l) (n ≡ 18)
    (first (Case4 ls l) (n ≡ 4)
    (first (Case6 ls l) (n ≡ 6)
    ⊥)))))))

-- 'Checks go in the table's order, but 2 to 6 are made line by line and the first bad line counts'; 'line, from 1'; 'at the end, lines + 1'
unfoldable pub Fault : List ℕ → ℕ → ℕ → Type 0
Fault t n p =
    (Case1 t × (n ≡ 1) × (p ≡ 0))
    ⊎ (((Case1 t → ⊥) × ((front : List Line) × (l : Line) × (back : List Line) × (decoded t ≡ front ++ (l ∷ back)) × AllSound [] front × LineFault front l n × (p ≡ suc (length front))))
    ⊎ (((Case1 t → ⊥) × AllSound [] (decoded t) × (unended t ≢ []) × (n ≡ 2) × (p ≡ suc (length (decoded t))))
    ⊎ ((Case1 t → ⊥) × AllSound [] (decoded t) × (unended t ≡ []) × (monitors (decoded t) ≡ []) × (n ≡ 5) × (p ≡ suc (length (decoded t))))))

-- ---- the cases of the other things that a call is given

-- P
unfoldable pub joint_states : List ℕ → ℕ
joint_states t = product (monitors (decoded t))

-- 'h over 1,000'
unfoldable pub Case7 : ℕ → Type 0
Case7 h = 1000 < h

-- 'cells below (h+1) × P; scratch below 2 × z'
unfoldable pub Case8 : List ℕ → ℕ → List ℕ → Type 0
Case8 t h cells = length cells < (h + 1) * joint_states t

unfoldable pub Case8Scratch : List ℕ → List ℕ → Type 0
Case8Scratch draws scratch = length scratch < 2 * length draws

-- 'output shorter than list length × h, or z'
unfoldable pub Case12 : ℕ → List ℕ → List ℕ → Type 0
Case12 h list out = length out < length list * h

unfoldable pub Case12Draws : List ℕ → List ℕ → Type 0
Case12Draws draws out = length out < length draws

-- 'event byte E or more', at position p
unfoldable pub Case13 : List ℕ → List ℕ → ℕ → Type 0
Case13 t s p = (p < length s) × (events_of (decoded t) ≤ get_or s p 0)
