-- The tests are those of the promised answer, in the same order; nothing is written before the last of them, and `serve` does the rest.
use Rattle.std.proofs.Common.{arith}
use Rattle.refusal.proofs.Places.{place_found, place_missing}
use Rattle.shuffle.proofs.Draws.{draws-valid}
use Rattle.shuffle.proofs.Answers.{short_scratch, short_output, bad_draw_lem, good_call, refusal, service}
use Rattle.shuffle.proofs.shuffle.Goals as goal

pub returns-then-scratch-z : goal.returns-then-scratch-z
returns-then-scratch-z c =
    let a = c.args in
    let p = refusal a.n a.draws.now a.scratch.now a.out.now 8 0 (short_scratch _ _ _ _ (omega arith)) in
    record { result_value = p.0; out_after = p.1.0; shuffle_keeps = p.1.1 }

pub returns-then-out-z : goal.returns-then-out-z
returns-then-out-z c =
    let a = c.args in
    let p = refusal a.n a.draws.now a.scratch.now a.out.now 12 0 (short_output _ _ _ _ (omega arith) (omega arith)) in
    record { result_value = p.0; out_after = p.1.0; shuffle_keeps = p.1.1 }

pub returns-in-Some : goal.returns-in-Some
returns-in-Some c =
    let a = c.args in
    let f = place_found _ _ _ c.in-Some.ensures in
    let p = refusal a.n a.draws.now a.scratch.now a.out.now 15 c.in-Some.place (bad_draw_lem _ _ _ _ _ (omega arith) (omega arith) f.0 (omega arith)) in
    record { result_value = p.0; out_after = p.1.0; shuffle_keeps = p.1.1 }

pub serve-requires : goal.serve-requires
serve-requires c = (omega arith, omega arith, draws-valid _ _ (place_missing _ _ c.in_default.ensures))

pub returns : goal.returns
returns c =
    let a = c.args in
    let v = c.serve in
    let p = service a.n a.draws.now a.scratch.now a.out.now v.new.scratch v.new.out (good_call _ _ _ _ (omega arith) (omega arith) (place_missing _ _ c.in_default.ensures)) v.ensures.out_after v.ensures.kept in
    record { result_value = p.0; out_after = p.1.0; shuffle_keeps = p.1.1 }
