-- `decimal::count_digits`: the first power above n has the place that n's digits have in number. Assumes nothing.
use Prim.Native.Nat.{◌<◌, ◌≤◌}
use native.Mathlib.Omega.{arith}
use borrow.Author.Rules.{rules}
use borrow.Author.Tests.{tests}
use lib.ListN.{take, drop}
use Rattle.std.proofs.lemmas.Iterator.{IsFirst-from_position, YieldsList-from_slice}
use Rattle.decimal.proofs.Powers.{digits_none, digits_at}
use Rattle.decimal.proofs.count_digits.Goals as goal

pub returns-in-Some : goal.returns-in-Some
returns-in-Some c =
    let n = c.args.n in
    let above = take 19 (drop 1 c.powers_of_ten-powers.result) in
    let place = IsFirst-from_position _ _ _ (λ p. n < p) (λ p. p ≤ n) c.position.ensures.ran (YieldsList-from_slice above cc) (λ x q k. search (rules, tests)) (λ x q k. search (rules, tests)) in
    digits_at _ c.powers_of_ten-powers.ensures n (omega arith) _ (rw c.in-Some.is at place)

pub returns-in-None : goal.returns-in-None
returns-in-None c =
    let n = c.args.n in
    let above = take 19 (drop 1 c.powers_of_ten-powers.result) in
    let place = IsFirst-from_position _ _ _ (λ p. n < p) (λ p. p ≤ n) c.position.ensures.ran (YieldsList-from_slice above cc) (λ x q k. search (rules, tests)) (λ x q k. search (rules, tests)) in
    digits_none _ c.powers_of_ten-powers.ensures n (omega arith) (rw c.in-None.is at place)
