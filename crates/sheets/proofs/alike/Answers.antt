use mathlib.Core.Path.{◌≡◌, refl, sym, ap, ◌∙◌}
use native.Mathlib.Omega.{arith}
use lib.Dec.{eqb}
use lib.ListN.{get_or}
use lib.Seq.{take_all}
use mir.Val.{bool_byte}
use borrow.Author.Tests.{eqb-true, eq-eqb, ne_eqb}
use Rattle.std.proofs.Common.{nat_eq}
use Rattle.std.specs.Cmp.Lexicographic.{pointwise, same_text}
use Rattle.lists.proofs.Tests.{case, contra}
use Rattle.sheets.proofs.SharedStarts.{alike_more, same_itself}
use Rattle.sheets.proofs.alike.Goals as goal

pub loop-i-init : goal.loop-i-init
loop-i-init c = (omega arith, omega arith, λ q. refl, λ q. refl)

pub overflow_add-same : goal.overflow_add-same
overflow_add-same c =
    case (eqb (get_or c.args.a.now c.loop-i.i 0) (get_or c.args.b.now c.loop-i.i 0))
    (λ t. omega (arith, c.from-same.ensures ∙ ap bool_byte t))
    (λ t. omega (arith, c.from-same.ensures ∙ ap bool_byte t))

pub loop-i-preserved : goal.loop-i-preserved
loop-i-preserved c =
    let st = c.args in
    let lp = c.loop-i in
    let inv = lp.invariant in
    case (eqb (get_or st.a.now lp.i 0) (get_or st.b.now lp.i 0))
    (λ t.
    let one : c.from-same.result ≡ 1 = c.from-same.ensures ∙ ap bool_byte t in (
      omega arith,
      omega (arith, inv.1, one),
      λ q. alike_more st.a.now st.b.now lp.i (omega arith) (omega arith) (inv.2 (omega (arith, one))) (eqb-true _ _ t),
      λ q. omega (arith, inv.3 q, one),
    ))
    (λ t.
    let none : c.from-same.result ≡ 0 = c.from-same.ensures ∙ ap bool_byte t in (
      omega arith,
      omega (arith, inv.1, none),
      λ q. absurd (omega (arith, inv.1, none)),
      λ q. contra (eq-eqb _ _ (ap (λ s. get_or s lp.i 0) q)) t,
    ))

pub returns : goal.returns
returns c =
    let st = c.args in
    let lp = c.loop-i in
    let all : lp.i ≡ 16 = omega arith in
    case (pointwise nat_eq st.a.now st.b.now)
    (λ t. rw t (eq-eqb _ _ (lp.invariant.3 (same_text st.a.now st.b.now (sym t)) ∙ all)))
    (λ t. rw t (ne_eqb _ _ (λ q.
    let same : st.a.now ≡ st.b.now = sym (take_all lp.i st.a.now (omega arith)) ∙ lp.invariant.2 (q ∙ sym all) ∙ take_all lp.i st.b.now (omega arith) in
    contra (rw same (same_itself st.b.now)) t)))
