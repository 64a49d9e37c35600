-- The rows behind the place of the last kept row are those of the block (`block_rows`); once the two rows change back, every sixteenth row is kept again
-- (`block_kept`).
use mathlib.Core.Path.{◌≡◌, subst}
use Prim.Native.Nat.{ℕ, ◌+◌, ◌-◌, ◌*◌, ◌/◌, ◌≤◌, min}
use native.Mathlib.Omega.{arith}
use lib.ListN.{length}
use Rattle.batches.specs.Batches.{AllBegun}
use Rattle.keeping.proofs.Places.{place_room, places_apart, past_trans, block_rows, block_kept, block_past}
use Rattle.batches.proofs.Parts.{begun_at}
use Rattle.batches.proofs.unrank_block.Goals as goal

pub swap_rows-requires : goal.swap_rows-requires
swap_rows-requires c =
    let a = c.args in
    let p = a.table.now.states in
    let own : a.q * p + 1 * p ≤ length a.cells.now = place_room a.q (a.h / 16) 1 p (length a.cells.now) (omega arith) c.requires.bounds.2 in
    let last : a.h / 16 * p + 16 * p ≤ length a.cells.now = place_room (a.h / 16) (a.h / 16) 16 p (length a.cells.now) (omega arith) c.requires.bounds.2 in
    (omega arith, omega arith, places_apart a.q (a.h / 16) p (omega arith))

pub returns-clause-block_by : goal.returns-clause-block_by
returns-clause-block_by c =
    let a = c.args in
    let p = a.table.now.states in
    let T = a.h / 16 in
    let n = c.min-next.result in
    let back = c.swap_rows.ensures in
    λ A x is tabled kept e all.
    let (block, past) = c.fill_block.ensures A tabled kept in
    let rows = block_rows A p tabled.states T a.q c.requires.bounds.0 _ block n (omega (arith, c.min-next.ensures)) (omega (arith, c.min-next.ensures)) in
    let b : min a.h (16 * a.q + 16) ≡ 16 * a.q + n = omega (arith, c.min-next.ensures) in
    let d : a.h - min a.h (16 * a.q + 16) ≡ a.h - 16 * a.q - n = omega (arith, c.min-next.ensures) in
    let f : a.h - 16 * a.q - n + n ≡ a.h - 16 * a.q = omega (arith, c.min-next.ensures) in
    let parts = c.unrank_parts.ensures.parts_by A (16 * a.q) x is tabled rows e
    (begun_at A x a.h is (16 * a.q + n) _ _ d (subst (λ (n : ℕ). AllBegun A x a.h is (a.h - min a.h (16 * a.q + 16)) n a.standings.now a.out.now) b all)) in (
      begun_at A x a.h is (16 * a.q) _ _ f parts.0,
      parts.1,
      block_kept A p tabled.states T a.q c.requires.bounds.0 _ block _ back,
      past_trans _ a.cells.now _ _ past (block_past A p tabled.states T a.q c.requires.bounds.0 _ block _ back),
    )
