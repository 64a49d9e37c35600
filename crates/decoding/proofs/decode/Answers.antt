-- The word is the first field, and the form is told of the fields after it.
-- Assumes nothing.
use mathlib.Core.Path.{sym, ap, ◌∙◌}
use lib.ListN.{length}
use native.Mathlib.Omega.{arith}
use Rattle.decoding.specs.Forms.{over, form_of}
use Rattle.decoding.proofs.Numbers.{fields-some, fields-few, decode_ord, decode_more, listed_ord, listed_none, same_so, same_not}
use Rattle.decoding.proofs.decode.Goals as goal

pub returns-in_err-word : goal.returns-in_err-word
returns-in_err-word c = absurd (fields-some c.args.line.now c.in_err-word.ensures.0)

pub ord_form-requires : goal.ord_form-requires
ord_form-requires c = omega (arith, fields-few c.args.line.now, ap length c.in_ok-word.ensures)

pub returns-then-eq : goal.returns-then-eq
returns-then-eq c =
    let l = c.args.line.now in
    let p = same_so _ _ "ord" c.if-eq.ensures c.as_slice.ensures in
    let f = c.ord_form.ensures in
    record {
      value = f.value ∙ ap form_of (sym (decode_ord l _ _ c.in_ok-word.ensures p));
      order_after = f.order_after ∙ ap (λ ns. over ns c.args.order.now) (sym (listed_ord l _ _ c.in_ok-word.ensures p));
    }

pub word_form-requires : goal.word_form-requires
word_form-requires c = same_not _ _ "ord" c.if-eq.ensures c.as_slice.ensures

pub returns : goal.returns
unfolding over
returns c =
    let l = c.args.line.now in
    record {
      value = c.word_form.ensures ∙ ap form_of (sym (decode_more l _ _ c.in_ok-word.ensures));
      order_after = rw (listed_none l _ _ c.in_ok-word.ensures (same_not _ _ "ord" c.if-eq.ensures c.as_slice.ensures));
    }
