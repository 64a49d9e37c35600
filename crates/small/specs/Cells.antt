-- What is in the cells before the scenarios are written.
--   CellsBy A p x h n cells left t == n is N from x, cut off; every sixteenth row is kept, the cells past the need are as before, and t is the table of A with p states
-- Assumes nothing.
use Rattle.std.specs.Prelude.{◌≡◌, List, ℕ, ◌*◌, ◌/◌, min}
use Rattle.automaton.specs.Automaton.{Automaton}
use Rattle.automaton.specs.Counting.{N, most}
use Rattle.promises.specs.Small.{small_rows}
use Rattle.counting.specs.Tabled.{Tabled}
use Rattle.keeping.specs.Keeping.{Sixteenths, Past}

pub record CellsBy (A : Automaton) (p x h n : ℕ) (cells left table : List ℕ) : Type 0 where
  pub counted : n ≡ min (N A h x) most
  pub kept : Sixteenths A p (h / 16) left
  pub past : Past (small_rows h * p) cells left
  pub tabled : Tabled A p table
