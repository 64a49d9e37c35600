-- By the word: each form has its own function, and a word that is none of them is no form.
-- Assumes nothing.
use mathlib.Core.Path.{sym, ap, ◌∙◌}
use Rattle.promises.specs.Text.{form, same}
use Rattle.decoding.specs.Forms.{form_of}
use Rattle.decoding.proofs.Numbers.{form_named, same_not, form_other}
use Rattle.decoding.proofs.word_form.Goals as goal

pub returns-then-eq : goal.returns-then-eq
unfolding form same
returns-then-eq c = c.go_form.ensures ∙ ap form_of (sym (form_named _ _ "go" _ c.if-eq.ensures c.as_slice.ensures))

pub returns-then-eq-2 : goal.returns-then-eq-2
unfolding form same
returns-then-eq-2 c = c.stop_form.ensures ∙ ap form_of (sym (form_named _ _ "stop" _ c.if-eq-2.ensures c.as_slice-2.ensures))

pub returns-then-eq-3 : goal.returns-then-eq-3
unfolding form same
returns-then-eq-3 c = c.amp_form.ensures ∙ ap form_of (sym (form_named _ _ "amp" _ c.if-eq-3.ensures c.as_slice-3.ensures))

pub returns-then-eq-4 : goal.returns-then-eq-4
unfolding form same
returns-then-eq-4 c = c.open_form.ensures ∙ ap form_of (sym (form_named _ _ "open" _ c.if-eq-4.ensures c.as_slice-4.ensures))

pub returns-then-eq-5 : goal.returns-then-eq-5
unfolding form same
returns-then-eq-5 c = c.mon_form.ensures ∙ ap form_of (sym (form_named _ _ "mon" _ c.if-eq-5.ensures c.as_slice-5.ensures))

pub returns-then-eq-6 : goal.returns-then-eq-6
unfolding form same
returns-then-eq-6 c = c.gap_form.ensures ∙ ap form_of (sym (form_named _ _ "gap" _ c.if-eq-6.ensures c.as_slice-6.ensures))

pub returns-then-eq-7 : goal.returns-then-eq-7
unfolding form same
returns-then-eq-7 c = c.reply_form.ensures ∙ ap form_of (sym (form_named _ _ "reply" _ c.if-eq-7.ensures c.as_slice-7.ensures))

pub returns-then-eq-8 : goal.returns-then-eq-8
unfolding form same
returns-then-eq-8 c = c.bal_form.ensures ∙ ap form_of (sym (form_named _ _ "bal" _ c.if-eq-8.ensures c.as_slice-8.ensures))

pub returns-then-eq-9 : goal.returns-then-eq-9
unfolding form same
returns-then-eq-9 c = c.day_form.ensures ∙ ap form_of (sym (form_named _ _ "day" _ c.if-eq-9.ensures c.as_slice-9.ensures))

pub returns-then-eq-10 : goal.returns-then-eq-10
unfolding form same
returns-then-eq-10 c = c.rig_form.ensures ∙ ap form_of (sym (form_named _ _ "rig" _ c.if-eq-10.ensures c.as_slice-10.ensures))

pub returns : goal.returns
returns c =
    ap form_of (sym (form_other _ _
    (same_not _ _ "rig" c.if-eq-10.ensures c.as_slice-10.ensures)
    (same_not _ _ "mon" c.if-eq-5.ensures c.as_slice-5.ensures)
    (same_not _ _ "go" c.if-eq.ensures c.as_slice.ensures)
    c.requires
    (same_not _ _ "stop" c.if-eq-2.ensures c.as_slice-2.ensures)
    (same_not _ _ "gap" c.if-eq-6.ensures c.as_slice-6.ensures)
    (same_not _ _ "reply" c.if-eq-7.ensures c.as_slice-7.ensures)
    (same_not _ _ "bal" c.if-eq-8.ensures c.as_slice-8.ensures)
    (same_not _ _ "amp" c.if-eq-3.ensures c.as_slice-3.ensures)
    (same_not _ _ "day" c.if-eq-9.ensures c.as_slice-9.ensures)
    (same_not _ _ "open" c.if-eq-4.ensures c.as_slice-4.ensures)))
