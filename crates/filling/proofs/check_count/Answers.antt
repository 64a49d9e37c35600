-- Each return is a case of rows 9 and 10. Assumes nothing.
use native.Mathlib.Omega.{arith}
use Rattle.filling.proofs.CountRows.{tells_9, tells_10, tells_on}
use Rattle.filling.proofs.check_count.Goals as goal

pub returns-then-n-eq0 : goal.returns-then-n-eq0
returns-then-n-eq0 c = tells_9 c.args.n c.if-n-eq0.true

pub returns-then-n-eq18446744073709551615 : goal.returns-then-n-eq18446744073709551615
returns-then-n-eq18446744073709551615 c = tells_10 c.args.n c.if-n-eq18446744073709551615.true

pub returns : goal.returns
returns c = tells_on c.args.n (omega arith) c.if-n-eq0.false c.if-n-eq18446744073709551615.false
