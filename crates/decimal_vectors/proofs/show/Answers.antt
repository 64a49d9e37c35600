-- A number has at most twenty digits, so that they and the line end have room in the line.
use Rattle.std.proofs.Common.{arith, length-set, length-take}
use Rattle.decimal.proofs.Digits.{decimal-fits}
use Rattle.decimal_vectors.proofs.show.Goals as goal

pub write-at-requires : goal.write-at-requires
write-at-requires g c = omega (arith, decimal-fits c.args.n (omega arith))

pub bounds-line-at : goal.bounds-line-at
bounds-line-at g c = omega (arith, decimal-fits c.args.n (omega arith))

pub slice_bounds-line-end : goal.slice_bounds-line-end
slice_bounds-line-end g c = rw length-set (omega (arith, decimal-fits c.args.n (omega arith)))

pub slice_bounds-write_all-end : goal.slice_bounds-write_all-end
slice_bounds-write_all-end g c = rw (length-take, length-set) (omega (arith, decimal-fits c.args.n (omega arith)))
