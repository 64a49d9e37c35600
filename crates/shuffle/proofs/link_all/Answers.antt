use Rattle.std.proofs.Common.{◌≡◌, ℕ, length, replicate, List, get_or, ◌++◌, ap, ◌∙◌, rules, arith, length-append}
use Rattle.std.proofs.lemmas.List.{get_or-replicate}
use Rattle.shuffle.proofs.Chains.{Chains, chains_first, chains_more, chains_linked, kept_trans, kept_front, kept-chained}
use Rattle.shuffle.proofs.link_all.Goals as goal

pub loop-i-init : goal.loop-i-init
loop-i-init c =
    let ds = c.args.draws.now in
    let a = c.args.heads.now in
    let f = c.fill in
    let e : f.new.self ≡ replicate {A = ℕ} (length a) 0 = f.ensures.after (λ y q. search rules) in (
      kept_front ds a f.new.self c.args.links.now f.ensures.len (omega arith),
      chains_first ds f.new.self c.args.links.now (omega (arith, f.ensures.len)) (λ k h. ap (λ (s : List ℕ). get_or s k 0) e ∙ get_or-replicate (length a) k 0 0 (omega (arith, f.ensures.len))),
    )

pub loop-i-preserved : goal.loop-i-preserved
loop-i-preserved c =
    let ds = c.args.draws.now in
    let lp = c.loop-i in
    let s = lp.heads ++ lp.links in
    let q : length lp.heads ≡ length ds = omega (arith, c.fill.ensures.len) in
    let e = rw q at c.link.ensures in
    let h = c.loop-i-test.true in
    rw e (kept_trans ds _ s _ lp.invariant.0 (kept-chained ds s lp.i (get_or ds lp.i 0) h), chains_more ds s lp.i h (omega (arith, length-append lp.heads lp.links)) lp.invariant.1)

pub returns : goal.returns
returns c =
    let ds = c.args.draws.now in
    let lp = c.loop-i in
    let s = lp.heads ++ lp.links in
    let e : lp.i ≡ length ds = omega arith in
    let chains : Chains ds (length ds) s = rw e at lp.invariant.1 in
    record { linked = chains_linked ds s (omega (arith, c.fill.ensures.len, length-append lp.heads lp.links)) chains; kept = lp.invariant.0 }
