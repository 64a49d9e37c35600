-- Count from the front owes what its request says.
-- Why: with cells enough for its own need it is Count with cells enough for that call's, as both go on alike after row 8; and it never says 11 or 14.
-- Assumes nothing.
use mathlib.Core.Path.{◌≡◌, refl}
use mathlib.Core.List.Memᴰ.{eq_of_singleton as in_one}
use mathlib.Core.List.Memᴰ.{head as here}
use mathlib.Core.List.Memᴰ.{tail as there}
use mathlib.Core.List.{List, [], ◌∷◌, Memᴰ as In}
use Prim.Native.Nat.{ℕ, ◌+◌, ◌*◌, ◌<◌}
use native.Mathlib.Omega.{arith}
use Rattle.automaton.proofs.Forward.{forward_counts}
use Rattle.promises.specs.Text.{Case8, joint_states}
use Rattle.promises.specs.Rig.{rig_automaton, start}
use Rattle.promises.specs.Calls.{total_rows, count}
use Rattle.promises.specs.Forward.{forward_rows, forward, Case8Forward, ForwardOwed}
use Rattle.promises.proofs.Checks.{sized_for_text, sized_for_7, sized_for_8, sized_for_alike, Avoids, avoids_served, avoids_sized, avoids_counted}
use Rattle.promises.proofs.Buffers.{cells_free}
use Rattle.promises.proofs.Shapes.{total-shaped}

-- a count is never refused 11 or 14
forward_avoids : (t : List ℕ) (h : ℕ) (cells : List ℕ) (m : ℕ) → In m (11 ∷ 14 ∷ []) → Avoids m (forward t h cells)
unfolding forward
forward_avoids t h cells m i = let (gt, lt) = between i in avoids_sized m t forward_rows h cells _ (omega arith) lt (avoids_counted m t _ _ gt (avoids_served m _))
  where
    between : In m (11 ∷ 14 ∷ []) → (10 < m) × (m < 16)
    between (here q) = (omega arith, omega arith)
    between (there j) = let q : m ≡ 14 = in_one j in (omega arith, omega arith)

pub forward_owed : (t : List ℕ) (h : ℕ) (cells : List ℕ) → ForwardOwed t h cells
unfolding forward_rows Case8Forward
forward_owed t h cells = record {
  counts = forward_counts (rig_automaton t) (start t) h;
  text = unfold forward in sized_for_text t forward_rows h cells _;
  seven = unfold forward in sized_for_7 t forward_rows h cells _;
  eight = unfold forward in sized_for_8 t forward_rows h cells _;
  cells_left = λ left. cells_free (forward_rows * joint_states t) (9 ∷ 10 ∷ []) (11 ∷ 14 ∷ []) (forward t h cells) cells left refl (forward_avoids t h cells);
  as_count = λ c enough c8. unfold forward count Case8 in sized_for_alike t forward_rows (h + 1) h cells enough (total_rows t h) c c8;
  shaped = unfold forward in total-shaped t forward_rows h cells;
}
