use mathlib.Core.Path.{◌≡◌, refl, ◌∙◌}
use Prim.Native.Nat.{suc, ◌-◌}
use native.Mathlib.Omega.{arith}
use lib.ListN.{length, length-set}
use Rattle.lists.specs.Decimal.{decimal}
use Rattle.lists.proofs.Decimal.{decimal-some}
use Rattle.decimal.proofs.Digits.{only_put, last_later, last_put}
use Rattle.decimal.proofs.Powers.{power_at}
use borrow.Author.Rules.{rules}
use Rattle.decimal.proofs.write.Goals as goal

pub overflow_sub-at : goal.overflow_sub-at
overflow_sub-at c = omega (arith, decimal-some c.args.n)

pub loop-left-init : goal.loop-left-init
loop-left-init c =
    let n = c.args.n in
    let last : suc (c.count_digits-digits.result - 1) ≡ length (decimal n) = omega (arith, decimal-some n) in
    (power_at _ c.powers_of_ten-powers.ensures 1 (omega arith), refl, omega (arith, decimal-some n), last, rw (← last))

pub overflow_cast-out : goal.overflow_cast-out
overflow_cast-out c = rw c.loop-left.invariant.0 (search rules)

pub overflow_add-out : goal.overflow_add-out
overflow_add-out c = rw c.loop-left.invariant.0 (search rules)

pub overflow_sub-at-in-loop-left : goal.overflow_sub-at-in-loop-left
overflow_sub-at-in-loop-left c = omega (arith, last_later c.loop-left.left c.loop-left.at (omega arith) (omega arith))

pub loop-left-smaller : goal.loop-left-smaller
loop-left-smaller c = rw c.loop-left.invariant.0 (omega arith)

pub loop-left-preserved : goal.loop-left-preserved
loop-left-preserved c =
    let lp = c.loop-left in
    let put = last_put lp.left lp.at lp.invariant.3 lp.out lp.invariant.2 _ lp.invariant.0 c.loop-left-test.true in
    (lp.invariant.0, simp length-set lp.invariant.1, simp length-set (omega arith), put.0, put.1 ∙ lp.invariant.4)

pub returns : goal.returns
returns c =
    let lp = c.loop-left in
    record {
      value = c.count_digits-digits.ensures;
      out_after = only_put lp.left lp.at lp.invariant.3 lp.out lp.invariant.2 (omega arith) ∙ lp.invariant.4;
    }
