use mathlib.Core.Path.{◌≡◌, refl, ap, ◌∙◌, sym}
use mathlib.Core.List.{[], ◌∷◌, ◌++◌}
use native.Mathlib.Omega.{arith}
use lib.ListN.{length, length-append}
use Rattle.std.specs.Prelude.{Some}
use Rattle.decoding.specs.Forms.{over}
use Rattle.decoding.specs.declared.Form.TheVariants.{Ord}
use Rattle.decoding.proofs.Listed.{length_over, over-more, over-past, reads_none, reads_more, reads_bad, reads_all}
use Rattle.decoding.proofs.ord_form.Goals as goal
use Rattle.decoding.proofs.ord_form.Goals.{then-count-order, else-count-order}

pub loop-field-init : goal.loop-field-init
unfolding over
loop-field-init c = record { numbers_are = []; reads = reads_none c.args.fields.now; counted = refl; written = refl }

pub returns-in_err-e : goal.returns-in_err-e
returns-in_err-e c =
    let so_far = c.loop-field.invariant in
    let bad = reads_bad c.args.fields.now c.loop-field.fields so_far.numbers_are so_far.reads c.in-Some.field.now c.next.new.self c.in-Some.ensures c.in_err-e.ensures in
    record { value = rw bad.0 c.from_residual.ensures; order_after = so_far.written ∙ ap (λ ns. over ns c.args.order.now) (sym bad.1) }

pub loop-field-preserved : goal.loop-field-preserved
loop-field-preserved c =
    let so_far = c.loop-field.invariant in
    let es = so_far.numbers_are in
    let e = c.in_ok-e.e in
    let room : length c.loop-field.order ≡ length c.args.order.now = ap length so_far.written ∙ length_over es c.args.order.now in
    record {
      numbers_are = es ++ (e ∷ []);
      reads = reads_more c.args.fields.now c.loop-field.fields es so_far.reads c.in-Some.field.now c.next.new.self c.in-Some.ensures e c.in_ok-e.ensures;
      counted = rw length-append (omega (arith, so_far.counted));
      written = elim c.if-count-order.branch [
        | then-count-order w ↦ w.order-is ∙ rw (so_far.written, so_far.counted, w.as_byte.ensures) (over-more es c.args.order.now e (omega (arith, w.if-count-order.true, so_far.counted, room)))
        | else-count-order w ↦ w.order-is ∙ so_far.written ∙ over-past es c.args.order.now e (omega (arith, w.if-count-order.false, so_far.counted, room))
      ];
    }

pub returns : goal.returns
returns c =
    let so_far = c.loop-field.invariant in
    let all = reads_all c.args.fields.now c.loop-field.fields so_far.numbers_are so_far.reads c.in_default.ensures.0 in
    record { value = rw all.0 (ap (λ n. Some (Ord n)) so_far.counted); order_after = so_far.written ∙ ap (λ ns. over ns c.args.order.now) (sym all.1) }
