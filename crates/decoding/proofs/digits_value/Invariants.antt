-- The invariant: the digits that are left, after the number n, make the number that all digits make; n has at most as many digits as were read.
-- Assumes nothing.
use mathlib.Core.Path.{◌≡◌}
use Prim.Native.Nat.{◌^◌, ◌<◌}
use lib.ListN.{drop}
use Rattle.promises.specs.Text.{digits_value}
use Rattle.decoding.proofs.digits_value.Given as goal

abbrev pub invariant-loop-b : goal.invariant-loop-b
invariant-loop-b l = (l.n < 10 ^ l.b-index) × (digits_value 0 l.field ≡ digits_value l.n (drop l.b-index l.field))
