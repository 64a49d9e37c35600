-- A text that is too long, or whose last line is not ended, or that has no monitor, is refused so; else the draft's tables are the record. Assumes nothing.
use mathlib.Core.Path.{◌≡◌, sym, ap, ◌∙◌}
use mathlib.Core.List.{[]}
use Prim.Native.Nat.{ℕ}
use lib.ListN.{length, replicate, length-replicate, get_or-replicate}
use borrow.Author.Rules.{rules}
use Rattle.std.specs.Prelude.{is_ok}
use Rattle.refusal.specs.declared.Refusal.TheVariants.{BadLine}
use Rattle.promises.specs.Answer.{served, refused}
use Rattle.promises.specs.Reading.{reading}
use Rattle.refusal.specs.Numbers.{fault_number}
use Rattle.taking.specs.Taking.{case_of}
use Rattle.reader.proofs.Held.{room}
use Rattle.reader.proofs.Passing.{passed_none, stops_unended, stops_bad, goes_on, ends_none, ends_served, ends_record, reading_long, reading_whole, some_fault, no_fault, handed, answers_record}
use Rattle.reader.proofs.read.Goals as goal

pub returns-then-text-gt65535-clause-value : goal.returns-then-text-gt65535-clause-value
returns-then-text-gt65535-clause-value c = sym (reading_long c.args.text.now c.if-text-gt65535.true)

pub loop-rest-init : goal.loop-rest-init
loop-rest-init c = rw c.lower_first.ensures (passed_none c.args.text.now (replicate 2048 255) (replicate 128 0) (replicate 64 0) (replicate 4 0) (replicate 4 0) (λ i h. get_or-replicate 2048 i 255 0 h) (λ i h. get_or-replicate 128 i 0 0 h) (λ i h. get_or-replicate 64 i 0 0 h) (length-replicate {A = ℕ} 2048 255) (length-replicate {A = ℕ} 128 0) (length-replicate {A = ℕ} 64 0) (length-replicate {A = ℕ} 4 0) (length-replicate {A = ℕ} 4 0))

pub returns-in_default-clause-value : goal.returns-in_default-clause-value
returns-in_default-clause-value c =
    let lp = c.loop-rest in
    let h : (length lp.rest.now ≡ 0 → ⊥) = search rules in
    sym (reading_whole c.args.text.now c.if-text-gt65535.false (refused 2 lp.line) (stops_unended _ _ _ _ _ _ _ _ _ _ _ lp.invariant h c.in_default.ensures))

pub invariant_of-draft : goal.invariant_of-draft
invariant_of-draft c = record { allowed = room _ _ _ _ _ _ _ _ _ c.loop-rest.invariant.holds }

pub returns-in_err-map_err-clause-value : goal.returns-in_err-map_err-clause-value
returns-in_err-map_err-clause-value c =
    let t = c.args.text.now in
    let lp = c.loop-rest in
    let d = c.decode-form in
    let (ended, bytes, later) = c.in-Some.ensures in
    some_fault c.take_line.result (sym c.map_err.ensures.variant ∙ ap is_ok c.in_err-map_err.was) (λ fault bad.
    let p = rw (bad, c.in_err-map_err.was) at c.map_err.ensures.cases in
    let x : c.in_err-map_err.field-0.0 ≡ BadLine fault lp.line = search rules in
    let n : fault_number fault ≡ case_of _ _ _ d.new.order _ lp.line d.result = rw bad at c.take_line.ensures.value in
    let a : reading t ≡ refused (fault_number fault) lp.line = reading_whole t c.if-text-gt65535.false _ (stops_bad _ _ _ _ _ _ _ _ _ _ _ lp.invariant ended d.result (rw bytes at d.ensures.value) d.new.order (rw bytes at d.ensures.order_after) fault n) in
    handed c.from_residual.result _ c.from_residual.ensures.1 ∙ rw x (sym a))

pub loop-rest-preserved : goal.loop-rest-preserved
loop-rest-preserved c =
    let t = c.args.text.now in
    let lp = c.loop-rest in
    let d = c.decode-form in
    let e = c.take_line.ensures in
    let l = c.take_line.new.self in
    let (ended, bytes, later) = c.in-Some.ensures in
    let none = sym e.value ∙ no_fault _ (sym c.map_err.ensures.variant ∙ ap is_ok c.in_ok-map_err.was) in
    rw (later, e.order_after) (goes_on _ _ _ _ _ _ _ _ _ _ _ lp.invariant ended d.result (rw bytes at d.ensures.value) d.new.order (rw bytes at d.ensures.order_after)
    l.sizes l.moves l.stops l.given l.counts l.starts none e.sizes_after e.moves_after e.stops_after e.given_after e.counts_after e.starts_after)

pub returns-then-draft-eq0-clause-value : goal.returns-then-draft-eq0-clause-value
returns-then-draft-eq0-clause-value c =
    let lp = c.loop-rest in
    let h : length lp.rest.now ≡ 0 = search rules in
    sym (reading_whole c.args.text.now c.if-text-gt65535.false (refused 5 lp.line) (ends_none _ _ _ _ _ _ _ _ _ _ _ lp.invariant h c.if-draft-eq0.true))

pub returns-clause-value : goal.returns-clause-value
returns-clause-value c =
    let lp = c.loop-rest in
    let h : length lp.rest.now ≡ 0 = search rules in
    sym (reading_whole c.args.text.now c.if-text-gt65535.false (served []) (ends_served _ _ _ _ _ _ _ _ _ _ _ lp.invariant h c.if-draft-eq0.false))

pub returns-clause-rig_value : goal.returns-clause-rig_value
returns-clause-rig_value c =
    let lp = c.loop-rest in
    let h : length lp.rest.now ≡ 0 = search rules in
    answers_record c.args.text.now _ (reading_whole c.args.text.now c.if-text-gt65535.false (served []) (ends_served _ _ _ _ _ _ _ _ _ _ _ lp.invariant h c.if-draft-eq0.false)) (ends_record _ _ _ _ _ _ _ _ _ _ _ lp.invariant h)
