-- Where n is at most 2 × z every place is held, so no draw needs a link; else the draws are linked.
use Rattle.shuffle.proofs.Chains.{ready-all}
use Rattle.shuffle.proofs.prepare.Goals as goal

pub returns-then-n-z-clause-prepared : goal.returns-then-n-z-clause-prepared
returns-then-n-z-clause-prepared c = ready-all c.args.n c.args.draws.now c.args.scratch.now c.if-n-z.true c.requires.0 c.requires.1
