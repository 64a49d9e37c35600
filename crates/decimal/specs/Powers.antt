-- The powers of ten that 64 bits hold.
--   powers == ten to the power 0, 1, … 19
-- Assumes nothing.
use Rattle.std.specs.Prelude.{List, ℕ, ◌^◌}
use Rattle.lists.specs.Lists.{tabulate}

-- 'the twenty powers from 1 to 10,000,000,000,000,000,000': 'entry k, from 0, is … ten to the power k'
unfoldable pub powers : List ℕ
powers = tabulate (λ k. 10 ^ k) 20
