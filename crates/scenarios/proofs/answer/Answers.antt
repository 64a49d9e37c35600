-- What was read decides the listing of all, and the listing of what was read is written.
use Rattle.std.proofs.Common.{arith, take, length-take-le}
use Rattle.std.specs.Io.KnownBytes.{Appends}
use Rattle.std.proofs.lemmas.Result.{on_ok_weaker, on_err_weaker}
use Rattle.printing.specs.Part.{AppendsFront}
use Rattle.scenarios.proofs.Enough.{decided}
use Rattle.scenarios.proofs.answer.Goals as goal

pub returns-clause-ok : goal.returns-clause-ok
returns-clause-ok g c =
    let n = c.in_ok-n.n in
    let buf = c.read_full.new.buf in
    let read = c.in_ok-n.ensures in
    on_ok_weaker c.print.result
    (decided _ _ (take n buf) (Appends _ _) read.bytes
    (λ short. read.end (omega (arith, short, c.read_full.auto.buf, length-take-le n buf read.within))))
    c.print.ensures.ok

pub returns-clause-err : goal.returns-clause-err
returns-clause-err g c =
    let n = c.in_ok-n.n in
    let buf = c.read_full.new.buf in
    let read = c.in_ok-n.ensures in
    on_err_weaker c.print.result
    (decided _ _ (take n buf) (AppendsFront _ _) read.bytes
    (λ short. read.end (omega (arith, short, c.read_full.auto.buf, length-take-le n buf read.within))))
    c.print.ensures.err
