-- `sheets::alike`: of the first i events all i are alike only if they are the same, and if all are the same. Assumes nothing.
use mathlib.Core.Path.{◌≡◌}
use Prim.Native.Nat.{◌≤◌}
use lib.ListN.{take}
use Rattle.sheets.proofs.alike.Given as goal

abbrev pub invariant-loop-i : goal.invariant-loop-i
invariant-loop-i l = (l.i ≤ 16) × (l.same ≤ l.i) × (l.same ≡ l.i → take l.i l.a ≡ take l.i l.b) × (l.a ≡ l.b → l.same ≡ l.i)
