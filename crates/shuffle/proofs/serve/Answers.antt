-- Counting up leaves the links as they are and makes the places held the first arrangement, from which the swaps start; each of the calls
-- keeps what lies past the first 2 × z numbers.
use Rattle.std.proofs.Common.{◌++◌, length, arith}
use Rattle.promises.proofs.Answers.{valid_at}
use Rattle.shuffle.specs.Places.{Prepared}
use Rattle.shuffle.proofs.Arrangement.{held_first}
use Rattle.shuffle.proofs.Chains.{ready_front, kept_trans, kept_front}
use Rattle.shuffle.proofs.serve.Goals as goal

pub swap_all-requires-clause-draws_in_bounds : goal.swap_all-requires-clause-draws_in_bounds
swap_all-requires-clause-draws_in_bounds c = (c.requires.1, λ k h. let a = (valid_at _ _ _ c.requires.2 k h).0 in omega arith)

pub swap_all-requires-clause-prepared : goal.swap_all-requires-clause-prepared
swap_all-requires-clause-prepared c =
    let s = c.split_at_mut-numbers in
    let t = c.count_up.new.numbers in
    let prepared : Prepared (length s.result.0.now) c.args.draws.now (s.result.0.now ++ s.result.1.now) = rw (s.ensures.front_len, ← s.ensures.value) c.prepare-held.ensures.prepared in
    (ready_front _ s.result.0.now t s.result.1.now c.count_up.auto.numbers prepared, held_first _ t c.count_up.ensures)

pub returns-clause-kept : goal.returns-clause-kept
returns-clause-kept c =
    let s = c.split_at_mut-numbers in
    let p = c.prepare-held.ensures in
    let small = p.prepared.small in
    let w = c.swap_all.new.numbers in
    kept_trans _ _ _ _ p.kept (rw s.ensures.value (kept_front _ s.result.0.now w s.result.1.now (omega arith) (omega (arith, s.ensures.front_len))))
