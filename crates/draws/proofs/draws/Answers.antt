-- Each refusal is that of its row and leaves the output; past the rows all draws are made.
use mathlib.Core.Path.{sym}
use native.Mathlib.Omega.{arith}
use Rattle.promises.proofs.Draws.{draws_owed, drawn_served}
use Rattle.refusal.proofs.Places.{place_found, place_missing}
use Rattle.draws.proofs.Laws.{refused_output, failed_refused, all_made}
use Rattle.draws.proofs.draws.Goals as goal

pub returns-then-out-z : goal.returns-then-out-z
returns-then-out-z c =
    let st = c.args in
    let q = (draws_owed st.n st.z st.seed st.limit st.out.now).twelve (omega arith) in
    record {
      result_value = sym q;
      out_after = sym (refused_output st.n st.z st.seed st.limit st.out.now 12 0 q);
    }

pub returns-then-n-z : goal.returns-then-n-z
returns-then-n-z c =
    let st = c.args in
    let q = (draws_owed st.n st.z st.seed st.limit st.out.now).fifteen (omega arith) (omega arith) in
    record {
      result_value = sym q;
      out_after = sym (refused_output st.n st.z st.seed st.limit st.out.now 15 st.n q);
    }

pub returns-in-Some : goal.returns-in-Some
returns-in-Some c =
    let st = c.args in
    let f = place_found _ _ _ c.in-Some.ensures in
    let q = failed_refused st.n st.z st.seed st.limit st.out.now (omega arith) (omega arith) f.1 in
    record {
      result_value = rw f.0 (sym q);
      out_after = sym (refused_output st.n st.z st.seed st.limit st.out.now 19 _ q);
    }

pub write_draws-requires : goal.write_draws-requires
write_draws-requires c =
    let st = c.args in
    (omega arith, omega arith, all_made st.n st.z st.seed st.limit st.out.now (omega arith) (omega arith) (place_missing _ _ c.in_default.ensures))

pub returns : goal.returns
returns c =
    let st = c.args in
    let (ds, q) = all_made st.n st.z st.seed st.limit st.out.now (omega arith) (omega arith) (place_missing _ _ c.in_default.ensures) in
    record {
      result_value = sym (drawn_served st.n st.z st.seed st.limit st.out.now (omega arith) (omega arith) ds q).0;
      out_after = c.write_draws.ensures;
    }
