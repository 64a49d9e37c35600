-- A bad `ask` line is answered by itself, and else the text begins after it. Assumes nothing.
use mathlib.Core.Path.{refl, ap, ◌∙◌}
use Rattle.promises.specs.Rig.{rig_automaton, start}
use Rattle.promises.specs.Calls.{count, count_cells}
use Rattle.listing.proofs.Beginning.{begins_as, answer_bad, answer_good, cells_bad, cells_good, horizon_is}
use Rattle.listing.proofs.Lines.{stands_first}
use Rattle.listing.proofs.begin.Goals as goal

pub returns-in_default : goal.returns-in_default
returns-in_default c =
    let s = c.args.input.now in
    let b = begins_as _ _ _ _ _ _ _ _ _ _ _ _ _ (answer_bad s c.args.cells.now c.in_default.ensures) refl refl refl (c.refuse.ensures _ _ _ _ _) in
    record {
      stands_at = stands_first s _ c.args.cells.now _ _ _ c.requires.cells_long b;
      cells_after = cells_bad s c.args.cells.now c.in_default.ensures;
    }

pub returns-in-Ok : goal.returns-in-Ok
returns-in-Ok c =
    let s = c.args.input.now in
    let cells = c.args.cells.now in
    let h = c.in-Some.h in
    let a = c.in-Some.ensures in
    let long = c.requires.cells_long in
    let b = begins_as _ _ _ _ _ _ _ _ _ _ _ _ _ (ap (λ t. count t h cells) a.1 ∙ answer_good s cells h a.0 long) (ap rig_automaton a.1) (ap start a.1) (horizon_is s cells h a.0) c.in-Ok.ensures.begins_text in
    record {
      stands_at = stands_first s _ _ _ _ _ (c.begin_text.auto.cells ∙ long) b;
      cells_after = cells_good s cells h a.0 _ long (c.in-Ok.ensures.cells_after ∙ ap (λ t. count_cells t h cells) a.1);
    }

pub returns-in-Err : goal.returns-in-Err
returns-in-Err c =
    let s = c.args.input.now in
    let cells = c.args.cells.now in
    let h = c.in-Some.h in
    let a = c.in-Some.ensures in
    let long = c.requires.cells_long in
    let answered = c.in-Err.ensures.begins_text ∙ ap (λ t. count t h cells) a.1 ∙ answer_good s cells h a.0 long in
    let b = begins_as _ _ _ _ _ _ _ _ _ _ _ _ _ answered refl refl refl (c.refuse-in-Err.ensures _ _ _ _ _) in
    record {
      stands_at = stands_first s _ _ _ _ _ (c.begin_text.auto.cells ∙ long) b;
      cells_after = cells_good s cells h a.0 _ long (c.in-Err.ensures.cells_after ∙ ap (λ t. count_cells t h cells) a.1);
    }
