-- `decimal::powers_of_ten`: the checker computes the twenty powers and compares the whole table with them.
-- Assumes nothing.
use mathlib.Core.Path.{refl}
use Rattle.lists.specs.Lists.{tabulate}
use Rattle.decimal.specs.Powers.{powers}
use Rattle.decimal.proofs.powers_of_ten.Goals as goal

pub returns : goal.returns
unfolding powers tabulate
returns c = refl
