-- `line::write_line`: twenty digits, four bytes an event and the line end are enough. Assumes nothing.
use mathlib.Core.Path.{refl}
use mathlib.Core.List.{[], ◌∷◌, ◌++◌}
use native.Mathlib.Omega.{arith}
use borrow.Author.Rules.{rules}
use lib.ListN.{length-append}
use Rattle.lists.specs.Lists.{concat_map}
use Rattle.lists.specs.Decimal.{decimal}
use Rattle.decimal.proofs.Digits.{decimal-fits}
use Rattle.line.specs.Line.{field_bytes, line_of}
use Rattle.line.proofs.Pieces.{fields-short, written}
use Rattle.line.proofs.write_line.Goals as goal

pub put_line-requires : goal.put_line-requires
unfolding line_of
put_line-requires c =
    let i = c.args.index in
    let fields = concat_map field_bytes c.args.events.now in
    omega (arith, decimal-fits i (omega arith), fields-short c.args.events.now (λ k. omega (arith, c.type_inv.events k)), length-append (decimal i) fields, length-append (decimal i ++ fields) (10 ∷ []))

pub returns : goal.returns
returns c = record { value = search rules; out_after = search (rules, written _ _ _ refl c.put_line.ensures) }
