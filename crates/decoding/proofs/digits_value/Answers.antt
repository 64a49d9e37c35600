use mathlib.Core.Path.{sym, ◌∙◌}
use native.Mathlib.Numerals.{add-one}
use native.Mathlib.Nat.{pow-suc}
use native.Mathlib.Omega.{arith}
use Rattle.decoding.proofs.Numbers.{digits_more, digits_none, digits_end}
use Rattle.decoding.proofs.digits_value.Goals as goal

pub returns-then-not-is_ascii_digit : goal.returns-then-not-is_ascii_digit
returns-then-not-is_ascii_digit c =
    let lp = c.loop-b in
    sym (lp.invariant.1 ∙ digits_none c.args.field.now lp.n lp.b-index c.loop-b-test.true c.if-not-is_ascii_digit.ensures.value)

pub loop-b-preserved : goal.loop-b-preserved
loop-b-preserved c =
    let lp = c.loop-b in
    let digit = c.if-not-is_ascii_digit.ensures in (
      rw (add-one lp.b-index, pow-suc) (omega (arith, lp.invariant.0, digit.cases, c.from.ensures)),
      lp.invariant.1 ∙ rw c.from.ensures (digits_more c.args.field.now lp.n lp.b-index c.loop-b-test.true digit.value),
    )

pub returns : goal.returns
returns c = let lp = c.loop-b in sym (lp.invariant.1 ∙ digits_end c.args.field.now lp.n lp.b-index c.loop-b-test.false)
