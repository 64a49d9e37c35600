-- The raw numbers so far are thrown away, so what is taken is what the others give.
use mathlib.Core.Path.{◌≡◌}
use Prim.Native.Nat.{◌-◌}
use Rattle.promises.specs.Draws.{taken}
use Rattle.draws.proofs.take.Given as goal

abbrev pub invariant-loop : goal.invariant-loop
invariant-loop l = taken l.limit l.w l.s ≡ taken (l.limit - l.counter) l.w l.state
