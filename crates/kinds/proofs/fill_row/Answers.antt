-- Every entry is the one for the events that the row does not name, then those that it names are written over it.
-- Assumes nothing.
use mathlib.Core.Path.{◌≡◌, ap, ◌∙◌}
use Prim.Native.Nat.{◌+◌, ◌-◌}
use native.Mathlib.Omega.{arith}
use mathlib.Core.List.{◌++◌}
use lib.ListN.{length, take, drop, replicate, length-take, length-drop}
use lib.Dec.{eqb}
use borrow.Rule.Slice.PartMut.{put_mid, post_of, Post-is}
use Rattle.lists.specs.Lists.{pick, overwrite}
use Rattle.lists.proofs.Tables.{overwrite_cong}
use Rattle.kinds.specs.Kinds.{row_at, entry_of}
use Rattle.kinds.proofs.Tables.{filled_row, put_entry, entry_row}
use Rattle.kinds.proofs.fill_row.Goals as goal

pub returns : goal.returns
returns c =
    let g = c.args in
    let z = c.entry-z in
    let y = c.entry in
    let x = c.entry-2 in
    let l = g.moves.now in
    let k = g.at + 16 - g.at in
    let long : length (take k (drop g.at l)) ≡ 16 = omega (arith, length-take k (drop g.at l), length-drop g.at l, c.requires.0) in
    let others : put_mid g.at k l c.fill.new.self ≡ overwrite l (λ u. g.at + u) (λ u. z.result) 16 =
    ap (λ r. take g.at l ++ (r ++ post_of g.at k l)) (c.fill.ensures.after (λ y q. q) ∙ ap (λ n. replicate n z.result) long)
    ∙ ap (λ r. take g.at l ++ (replicate 16 z.result ++ r)) (Post-is g.at (g.at + 16) l (omega arith))
    ∙ filled_row l g.at z.result 16 c.requires.0
    in
    let with-b = c.put_move.ensures ∙ put_entry l g.at (λ u. z.result) g.r.b y.result _ others in
    c.put_move-2.ensures
    ∙ put_entry l g.at (λ u. pick (eqb u g.r.b) y.result z.result) g.r.a x.result _ with-b
    ∙ overwrite_cong l (λ u. g.at + u) _ (λ u. entry_of g.n (row_at g.r u)) 16 (λ u h. rw (x.ensures, y.ensures, z.ensures) (entry_row g.n g.r u))
