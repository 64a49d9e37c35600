-- How lines and numbers are written: what fixes the bytes that `lines`, `number` and `decode` take apart.
--   preceded b ps      == the pieces ps, each with byte b before it
--   written w fs       == the word w and the fields fs
--   spelled w ns       == the word w and the numbers ns, written out
--   Small ns           == each of the numbers ns has at most five digits
--   signed_decimal x    == the signed number x, written out: a minus sign before a negative one
--   Spelled k l        == l is the line form k, written out
--   joined ps          == the lines ps, each with its line end
--   Spelling           == a line is read as the form k exactly if it is k written out; likewise numbers and lines
-- A new line form is one clause of Spelled. Assumes nothing.
use Rattle.std.specs.Prelude.{◌≡◌, ◌⊎◌, ◌↔◌, ◌≢◌, ℕ, suc, ◌<◌, ℤ, pos, negsuc, nat_abs}
use mathlib.Core.List.{List, [], ◌∷◌, ◌++◌, map, Memᴰ as In}
use Rattle.std.proofs.Math.Option.{some}
use Prim.Native.String.{String}
use Rattle.lists.specs.Decimal.{decimal}
use Rattle.promises.specs.Text.{lines, unended, number, signed, mon, gap, reply, bal, day, go, stop, amp, opens, Line, rig, ord, begins, continues, other, bytes, decode}

-- 'fields are parted by one byte 9'
abbrev pub preceded : ℕ → List (List ℕ) → List ℕ
preceded b [] = []
preceded b (p ∷ ps) = b ∷ (p ++ preceded b ps)

abbrev pub written : String → List (List ℕ) → List ℕ
written w fs = bytes w ++ preceded 9 fs

unfoldable pub spelled : String → List ℕ → List ℕ
spelled w ns = written w (map decimal ns)

-- 'A number is one to five digits'
unfoldable pub Small : List ℕ → Type 0
Small ns = (n : ℕ) → In n ns → n < 100000

abbrev pub SpelledAs : String → List ℕ → List ℕ → Type 0
SpelledAs w ns l = (l ≡ spelled w ns) × Small ns

-- 'a minus sign, byte 45, may come before a nonzero number' (02 no. 6)
abbrev pub signed_decimal : ℤ → List ℕ
signed_decimal (pos n) = decimal n
signed_decimal (negsuc n) = 45 ∷ decimal (suc n)

-- '`rig`, E'; `ord` and its events (02 no. 2); '`mon`, S', and the start, which may be left out where it is 0 (02 no. 1); '`go`, s, e, t'; `stop`, s
-- (02 no. 4); `gap`, e, n; `reply`, a, b, lo, hi (02 no. 5); `bal`, lo, hi; `amp`, e, d (02 no. 6); `day`, T; `open`, e, a, b (02 no. 7)
unfoldable pub Spelled : Line → List ℕ → Type 0
Spelled (rig E) l = SpelledAs "rig" (E ∷ []) l
Spelled (ord es) l = SpelledAs "ord" es l
Spelled (begins (mon S a)) l = SpelledAs "mon" (S ∷ a ∷ []) l ⊎ ((a ≡ 0) × SpelledAs "mon" (S ∷ []) l)
Spelled (begins (gap e n)) l = SpelledAs "gap" (e ∷ n ∷ []) l
Spelled (begins (reply a b lo hi)) l = SpelledAs "reply" (a ∷ b ∷ lo ∷ hi ∷ []) l
Spelled (begins (bal lo hi)) l = (l ≡ written "bal" (signed_decimal lo ∷ signed_decimal hi ∷ [])) × (nat_abs lo < 100000) × (nat_abs hi < 100000)
Spelled (begins (day T)) l = SpelledAs "day" (T ∷ []) l
Spelled (continues (go s e t)) l = SpelledAs "go" (s ∷ e ∷ t ∷ []) l
Spelled (continues (stop s)) l = SpelledAs "stop" (s ∷ []) l
Spelled (continues (amp e d)) l = (l ≡ written "amp" (decimal e ∷ signed_decimal d ∷ [])) × (e < 100000) × (nat_abs d < 100000)
Spelled (continues (opens e a b)) l = SpelledAs "open" (e ∷ a ∷ b ∷ []) l
Spelled other l = ⊥

-- 'A line ends with byte 10'
unfoldable pub joined : List (List ℕ) → List ℕ
joined [] = []
joined (p ∷ ps) = p ++ 10 ∷ joined ps

pub record Spelling : Type 0 where
  pub forms : (k : Line) → k ≢ other → (l : List ℕ) → (decode l ≡ k) ↔ Spelled k l
  -- 'A number is one to five digits, no leading zero except 0 itself.'
  pub numbers : (f : List ℕ) (n : ℕ) → (number f ≡ some n) ↔ ((f ≡ decimal n) × (n < 100000))
  -- 'a minus sign .. may come before a nonzero number; any other is 2': nothing else is a signed number (02 no. 6)
  pub signed_numbers : (f : List ℕ) (x : ℤ) → (signed f ≡ some x) ↔ ((f ≡ signed_decimal x) × (nat_abs x < 100000))
  -- the lines and what stands after the last are the text, and no line end is inside of one
  pub whole : (t : List ℕ) → joined (lines t) ++ unended t ≡ t
  pub inside_line : (t l : List ℕ) → In l (lines t) → In 10 l → ⊥
  pub inside_rest : (t : List ℕ) → In 10 (unended t) → ⊥
