-- What the scratch holds while valid draws are served. ds are the draws; the scratch s holds the places below m by themselves.
--   arranged ds i     == the arrangement after the first i draws: from a place to its number
--   drawn ds i        == the number at draw i when step i comes: output i
--   latest_step f ds i == one more than the last of the first i steps whose draw passes the test f, or 0
--   in_bucket m b      == the test for a draw from m on that falls into bucket b
--   chained z i d s   == s after step i, with draw d, became the head of its bucket's chain
--   moved m i d s     == s after the number at i was moved to d, if d is below m
--   Linked m ds s     == for each draw from m on, s has at m + its step the last step before it in the same bucket
--   Walkable m ds i s == draw i is from m on, and s has the links of its chain
--   Held m ds i s     == s has at k the number at k when step k came, and where it has not come yet, the number now
--   Prepared m ds s   == the draws are linked, and both kinds of place have room in the first 2 × z numbers
--   Kept ds s t       == t is s, but for the first 2 × z numbers
-- Assumes nothing.
use Rattle.std.specs.Prelude.{◌≡◌, ℕ, zero, suc, ◌+◌, ◌*◌, ◌<◌, ◌≤◌, min, Bool, ◌&&◌, List, length, drop, ◌==◌, nat_le, nat_lt, slice_index, slice_set}
use Rattle.lists.specs.Lists.{pick}
use Rattle.automaton.specs.Shuffle.{swap}
use Rattle.shuffle.specs.Buckets.{bucket_of}

-- 'Begin with 0 to n−1 in order. For i from 0, swap the numbers at i and at draw i'
unfoldable pub arranged : List ℕ → ℕ → ℕ → ℕ
arranged ds zero = λ k. k
arranged ds (suc i) = swap (arranged ds i) i (slice_index ds i)

-- 'output i is then the number at i'
unfoldable pub drawn : List ℕ → ℕ → ℕ
drawn ds i = arranged ds i (slice_index ds i)

unfoldable pub latest_step : (ℕ → Bool) → List ℕ → ℕ → ℕ
latest_step f ds zero = 0
latest_step f ds (suc i) = pick (f (slice_index ds i)) (suc i) (latest_step f ds i)

unfoldable pub in_bucket : ℕ → ℕ → ℕ → Bool
in_bucket m b d = nat_le m d && bucket_of m d == b

unfoldable pub chained : ℕ → ℕ → ℕ → List ℕ → List ℕ
chained z i d s = pick (nat_le z d) (slice_set (slice_set s (z + i) (slice_index s (bucket_of z d))) (bucket_of z d) (i + 1)) s

unfoldable pub moved : ℕ → ℕ → ℕ → List ℕ → List ℕ
moved m i d s = pick (nat_lt d m) (slice_set s d (slice_index s i)) s

pub record Linked (m : ℕ) (ds s : List ℕ) : Type 0 where
  pub room : (i : ℕ) → i < length ds → m ≤ slice_index ds i → m + length ds ≤ length s
  pub link : (i : ℕ) → i < length ds → m ≤ slice_index ds i → slice_index s (m + i) ≡ latest_step (in_bucket m (bucket_of m (slice_index ds i))) ds i

abbrev pub Walkable : ℕ → List ℕ → ℕ → List ℕ → Type 0
Walkable m ds i s = (i < length ds) × (m ≤ slice_index ds i) × (m + length ds ≤ length s) × Linked m ds s

abbrev pub Held : ℕ → List ℕ → ℕ → List ℕ → Type 0
Held m ds i s = (k : ℕ) → k < m → slice_index s k ≡ arranged ds (min i k) k

pub record Prepared (m : ℕ) (ds s : List ℕ) : Type 0 where
  pub near : length ds ≤ m
  pub small : m ≤ 2 * length ds
  pub wide : 2 * length ds ≤ length s
  pub linked : Linked m ds s

-- 'The first 2 × z scratch numbers after a shuffle are left free; the rest keep theirs.'
pub record Kept (ds s t : List ℕ) : Type 0 where
  pub long : length t ≡ length s
  pub rest : drop (2 * length ds) t ≡ drop (2 * length ds) s
