-- Each write appends what it takes of the bytes that are left.
use Rattle.std.proofs.Common.{List, ◌++◌, ℕ, take, sym, ap, ◌∙◌, append_assoc, take-append-drop}
use Rattle.std.proofs.lemmas.List.{take_rest}
use Rattle.std.proofs.KnownBytes.{Appends-trans}
use Rattle.printing.proofs.write_whole.Goals as goal

pub loop-left-preserved : goal.loop-left-preserved
loop-left-preserved g c =
    let so_far = c.loop-left.invariant in
    let left = c.loop-left.left.now in
    let n = c.in_ok-n.n in (
      so_far.0 ++ take n left,
      so_far.1 ∙ ap (λ (l : List ℕ). so_far.0 ++ l) (sym (take-append-drop n left) ∙ ap (λ (l : List ℕ). take n left ++ l) (sym (take_rest left n))) ∙ sym (append_assoc so_far.0 (take n left) _),
      Appends-trans _ _ _ _ _ so_far.2 c.in_ok-n.ensures.bytes,
    )
