-- The results of the functions that make draws, in the terms of promises.
--   taken_of t       == the raw number that is taken and the state after it, if the draw is made
--   first_failed z o == the place of the first draw that is not made, or z
--   AllMade o       == all draws are made
-- Assumes nothing.
use Rattle.std.specs.Prelude.{◌≡◌, List, ℕ, Some, None}
use Rattle.std.specs.Prelude.{Option as Choice}
use Rattle.std.proofs.Math.Option.{Option, none, some}
use Rattle.promises.specs.Draws.{Outcome, drawn, failed}
use Rattle.draws.specs.declared.Draw.{Draw}

abbrev pub taken_of : Choice Draw → Option (ℕ × ℕ)
taken_of (Some t) = some (t.raw, t.state)
taken_of None = none

abbrev pub first_failed : ℕ → Outcome → ℕ
first_failed z (drawn ds) = z
first_failed z (failed i) = i

abbrev pub AllMade : Outcome → Type 0
AllMade o = (ds : List ℕ) × (o ≡ drawn ds)
