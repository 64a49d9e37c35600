-- A place that may not be there.
--   place_in n p == the place p of n places, or none where p is none of them
-- Assumes nothing.
use Rattle.std.specs.Prelude.{ℕ, Option, Some, None, cond, ltb}

abbrev pub place_in : ℕ → ℕ → Option ℕ
place_in n p = cond (ltb p n) (Some p) None
