-- Each turn writes line k, if it is one of the part, and brings the cursor to the line after it.
use Rattle.std.proofs.Common.{suc, rules, arith, sym, ◌∙◌, subst}
use Rattle.std.specs.Io.KnownBytes.{Appends}
use Rattle.std.proofs.KnownBytes.{Appends-nil, Appends-trans}
use Rattle.listing.proofs.Lines.{nearer}
use Rattle.printing.proofs.Parts.{before_first, line_next, line_begins, all_before}
use Rattle.printing.proofs.Fronts.{err_holds, front_after}
use Rattle.printing.proofs.print_part.Goals as goal

pub loop-cells-init : goal.loop-cells-init
loop-cells-init g c =
    let a = c.args in
    (search rules, (0, c.begin-cursor.ensures.stands_at, omega arith, subst (Appends _ _) (sym (before_first a.from a.to a.input.now)) (Appends-nil _)))

pub returns-in_err-write_between-clause-err : goal.returns-in_err-write_between-clause-err
returns-in_err-write_between-clause-err g c =
    let a = c.args in
    let lp = c.loop-cells in
    let at = lp.invariant.1 in
    let line = line_begins a.from a.to a.input.now at.0 lp.cursor _ _ lp.line at.1 at.2 in
    err_holds c.from_residual.result (front_after _ _ _ _ _ line.0 _ line.1 at.3 c.in_err-write_between.ensures.err)

pub returns-in_default-clause-ok : goal.returns-in_default-clause-ok
returns-in_default-clause-ok g c =
    let a = c.args in
    let lp = c.loop-cells in
    let at = lp.invariant.1 in
    let last = c.in_default.ensures _ at.0 at.1 in
    let all = sym (line_next a.from a.to a.input.now at.0 lp.cursor _ _ lp.line at.1 at.2) ∙ all_before a.from a.to a.input.now at.0 lp.cursor _ _ lp.line at.1 at.2 last.0 in
    subst (Appends _ _) all (Appends-trans _ _ _ _ _ at.3 c.in_ok-write_between.ensures.ok)

pub loop-cells-smaller : goal.loop-cells-smaller
loop-cells-smaller g c =
    let lp = c.loop-cells in
    let at = lp.invariant.1 in
    let moved = c.in-Some.ensures _ at.0 at.1 in
    nearer _ lp.cursor _ _ at.0 lp.line at.1 c.in-Some.next _ moved.0 moved.1

pub loop-cells-preserved : goal.loop-cells-preserved
loop-cells-preserved g c =
    let a = c.args in
    let lp = c.loop-cells in
    let at = lp.invariant.1 in
    let moved = c.in-Some.ensures _ at.0 at.1 in (
      search rules,
      (
        suc at.0,
        moved.1,
        omega (arith, moved.0),
        subst (Appends _ _) (sym (line_next a.from a.to a.input.now at.0 lp.cursor _ _ lp.line at.1 at.2)) (Appends-trans _ _ _ _ _ at.3 c.in_ok-write_between.ensures.ok),
      ),
    )
