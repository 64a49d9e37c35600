-- `line::write_numbers`: two fields have 21 bytes each at most. Assumes nothing.
use mathlib.Core.Path.{refl}
use native.Mathlib.Omega.{arith}
use borrow.Author.Rules.{rules}
use Rattle.decimal.proofs.Digits.{decimal-fits}
use Rattle.line.proofs.Pieces.{numbers-long, written}
use Rattle.line.proofs.write_numbers.Goals as goal

pub put_numbers-requires : goal.put_numbers-requires
put_numbers-requires c =
    let a = c.args.a in
    let b = c.args.b in
    omega (arith, numbers-long c.args.word.now a b, decimal-fits a (omega arith), decimal-fits b (omega arith))

pub returns : goal.returns
returns c = record { value = search rules; out_after = search (rules, written _ _ _ refl c.put_numbers.ensures) }
