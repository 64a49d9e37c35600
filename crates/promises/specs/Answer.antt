-- An answer in the paper's numbers. 'A refusal is its number and a place, 0 where none is named.'
--   served vs         == served, with the values that are told
--   refused n p       == refusal n at place p
--   Served a          == served, whatever is told
--   Refuses a         == refused, by whatever number
--   SaysNone a        == 'None' is refusal 9
--   after a b         == a where it refuses, else b
--   unless n p bad a  == refusal n at p where the test `bad` holds, else a
-- Assumes nothing.
use Rattle.std.specs.Prelude.{◌≡◌, Bool, List, ℕ}
use Rattle.lists.specs.Lists.{pick}

pub data Answer : Type 0 where
  served : List ℕ → Answer
  refused : ℕ → ℕ → Answer

unfoldable pub Served : Answer → Type 0
Served a = (vs : List ℕ) × (a ≡ served vs)

unfoldable pub Refuses : Answer → Type 0
Refuses a = (n : ℕ) × (p : ℕ) × (a ≡ refused n p)

unfoldable pub SaysNone : Answer → Type 0
SaysNone a = (p : ℕ) × (a ≡ refused 9 p)

abbrev pub after : Answer → Answer → Answer
after (served vs) a = a
after (refused n p) a = refused n p

abbrev pub unless : ℕ → ℕ → Bool → Answer → Answer
unless n p bad a = pick bad (refused n p) a
