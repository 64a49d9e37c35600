use mathlib.Core.Path.{◌≡◌, ◌∙◌}
use Prim.Native.Nat.{◌-◌}
use native.Mathlib.Omega.{arith}
use lib.ListN.{length, get_or}
use Rattle.std.proofs.Common.{rules}
use Rattle.std.specs.Prelude.{Some, None, Err}
use Rattle.ranking.specs.Ranks.{FoundOrNot}
use Rattle.ranking.proofs.Premises.{whole_row, whole_few}
use Rattle.ranking.proofs.Along.{along_end, along_off, along_least, along_step}
use Rattle.ranking.proofs.Counts.rank.Goals as goal

pub returns-in_err-found : goal.returns-in_err-found
returns-in_err-found c =
    λ A exact.
    let a = c.args in
    let m = a.self.now in
    let lp = c.loop-k in
    let s = a.s.now in
    let e = c.in_err-found.ensures in
    let few = whole_few A m.states (length s) a.x m.table.now m.cells.now exact in
    let told : FoundOrNot A (length s - 1 - lp.k) lp.at (get_or s lp.k 0) None =
    (rw e.ok_part at c.find_event.ensures.found_by) A (length s - 1 - lp.k) exact.tabled (whole_row A m.states (length s) a.x m.table.now m.cells.now exact (length s - 1 - lp.k) (omega arith))
    (along_least A a.x s lp.k lp.at lp.index c.loop-k-test.true few (lp.invariant.1 A exact)) in
    let told-at : c.from_residual.result ≡ Err lp.k = let v = rw e.ok_part at e.value in search rules in
    told-at ∙ along_off A a.x s lp.k lp.at lp.index c.loop-k-test.true few (lp.invariant.1 A exact) told.not_live

pub loop-k-preserved : goal.loop-k-preserved
loop-k-preserved c =
    let a = c.args in
    let m = a.self.now in
    let lp = c.loop-k in
    let s = a.s.now in
    let f = c.in_ok-found.found in
    let e = c.in_ok-found.ensures in (
      rw e.ok_part at c.find_event.ensures.state_lt_p,
      λ A exact.
          let few = whole_few A m.states (length s) a.x m.table.now m.cells.now exact in
          let told : FoundOrNot A (length s - 1 - lp.k) lp.at (get_or s lp.k 0) (Some f) =
          (rw e.ok_part at c.find_event.ensures.found_by) A (length s - 1 - lp.k) exact.tabled (whole_row A m.states (length s) a.x m.table.now m.cells.now exact (length s - 1 - lp.k) (omega arith))
          (along_least A a.x s lp.k lp.at lp.index c.loop-k-test.true few (lp.invariant.1 A exact)) in
          let n : A.states ≡ m.states = exact.tabled.states in
          along_step A a.x s lp.k lp.at lp.index c.loop-k-test.true few (lp.invariant.1 A exact) f c.saturating_add-index.result (omega arith) told.goes_on c.saturating_add-index.ensures,
    )

pub returns : goal.returns
returns c =
    λ A exact.
    let lp = c.loop-k in
    along_end A c.args.x c.args.s.now lp.k lp.at lp.index (omega arith) (lp.invariant.1 A exact)
