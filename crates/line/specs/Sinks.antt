-- Where bytes are put, one piece after the other.
--   SinkLaws fits puts == pieces put one after the other are one piece, and take up as much room as they have bytes
--   Counts a s b       == b counts the bytes s after those of a
--   Fronts a s b       == s stands in b after what stands in a, and the rest is kept
-- Assumes nothing.
use Rattle.std.specs.Prelude.{◌≡◌, List, [], ◌++◌, ℕ, ◌+◌, ◌≤◌, ◌<◌, ◌^◌, length}
use Rattle.line.specs.Line.{placed}
use Rattle.line.specs.declared.Count.{Count}
use Rattle.line.specs.declared.Front.{Front}

-- `fits a n`: n bytes more fit in a. `puts a s b`: b is a after the bytes s were put into it
pub record SinkLaws {S : Type 0} (fits : S → ℕ → Type 0) (puts : S → List ℕ → S → Type 0) : Type 0 where
  pub none : (a : S) → fits a 0 → puts a [] a
  pub more : (a b c : S) (s t : List ℕ) → puts a s b → puts b t c → puts a (s ++ t) c
  pub room : (a b : S) (s : List ℕ) (n : ℕ) → puts a s b → fits a (length s + n) → fits b n
  pub fewer : (a : S) (m n : ℕ) → m ≤ n → fits a n → fits a m

abbrev pub count_fits : Count → ℕ → Type 0
count_fits c n = c.bytes + n < 2 ^ 64

abbrev pub Counts : Count → List ℕ → Count → Type 0
Counts a s b = b.bytes ≡ a.bytes + length s

abbrev pub front_fits : Front → ℕ → Type 0
front_fits f n = f.at + n ≤ length f.out.now

pub record Fronts (a : Front) (s : List ℕ) (b : Front) : Type 0 where
  pub same : b.out.ghost_name ≡ a.out.ghost_name
  pub within : a.at + length s ≤ length a.out.now
  pub at : b.at ≡ a.at + length s
  pub out : b.out.now ≡ placed s a.at a.out.now
