use native.Mathlib.Omega.{arith}
use Rattle.batches.specs.Batches.{Copied}
use Rattle.batches.proofs.begin.Goals as goal

pub returns : goal.returns
unfolding Copied
returns c = λ k lt. c.loop-k.invariant.1 k (omega arith)
