-- The call of the small bench owes what its request says.
-- Why: with cells enough for its own need it is Scenarios with cells enough for that call's, as both go on alike after row 8; and it never says 14.
-- Assumes nothing.
use mathlib.Core.Path.{◌≡◌, refl, sym, ap, subst}
use mathlib.Core.List.Memᴰ.{eq_of_singleton as in_one}
use mathlib.Core.List.{List, [], ◌∷◌}
use Prim.Native.Nat.{ℕ, ◌+◌, ◌*◌, ◌/◌, ◌≤◌, ◌<◌}
use native.Mathlib.Omega.{arith}
use lib.ListN.{length, replicate, length-replicate}
use lib.Dec.{ltb}
use Rattle.lists.specs.Lists.{concat_map}
use Rattle.automaton.specs.Ranking.{unrank}
use Rattle.promises.specs.Answer.{served, Served}
use Rattle.promises.specs.Text.{Case8, joint_states}
use Rattle.promises.specs.Rig.{rig_automaton, start}
use Rattle.promises.specs.Calls.{output_after, first_bad, unless_at, list_rows, scenarios, written}
use Rattle.promises.specs.Small.{small_rows, small_need, small, small_output, Case8Small, SmallOwed}
use Rattle.promises.proofs.Checks.{sized_for_text, sized_for_7, sized_for_8, sized_for_alike, Avoids, avoids_served, avoids_check, avoids_sized, avoids_counted}
use Rattle.promises.proofs.Buffers.{served-fills, sized_for-passed, cells_free, output_left, fresh_listed}
use Rattle.promises.proofs.Shapes.{list_shaped}

-- a list of scenarios is never refused 14
avoids_list : (t : List ℕ) (h : ℕ) (is out : List ℕ) → Avoids 14 (list_rows t h is out)
unfolding unless_at
avoids_list t h is out =
    avoids_check 14 12 0 (ltb (length out) (length is * h)) _ (λ q. omega arith)
    (avoids_counted 14 t h _ (omega arith)
    (avoids_check 14 11 _ (ltb (first_bad _ is) (length is)) (served []) (λ q. omega arith)
    (avoids_served 14 [])))

module _ (t : List ℕ) (h : ℕ) (is cells out : List ℕ) where
  small_14 : Avoids 14 (small t h is cells out)
  unfolding small
  small_14 = avoids_sized 14 t (small_rows h) h cells _ (omega arith) (omega arith) (avoids_list t h is out)

  same : (Case8Small t h cells → ⊥) → (enough : List ℕ) → (Case8 t h enough → ⊥) → small t h is cells out ≡ scenarios t h is enough out
  unfolding small scenarios small_rows Case8Small Case8
  same c enough c8 = sized_for_alike t (small_rows h) (h + 1) h cells enough (list_rows t h is out) c c8

  fresh : Served (small t h is cells out) → (length (concat_map (unrank (rig_automaton t) h (start t)) is) ≡ length is * h) × (length is * h ≤ length out)
  unfolding Case8Small Case8
  fresh s = fresh_listed t h is enough out (subst (λ a. Served a) (same room enough (λ c. omega (arith, length-replicate {A = ℕ} ((h + 1) * joint_states t) 0))) s)
    where
      enough : List ℕ
      enough = replicate ((h + 1) * joint_states t) 0

      room : length cells < (h / 16 + 16) * joint_states t → ⊥
      room = unfold small small_rows in (sized_for-passed t (small_rows h) h cells (list_rows t h is out) (served-fills (small t h is cells out) s)).2

pub small_owed : (t : List ℕ) (h : ℕ) (is cells out : List ℕ) → SmallOwed t h is cells out
unfolding Case8Small
small_owed t h is cells out = record {
  text = unfold small in sized_for_text t (small_rows h) h cells _;
  seven = unfold small in sized_for_7 t (small_rows h) h cells _;
  eight = unfold small small_rows in sized_for_8 t (small_rows h) h cells _;
  as_scenarios = same t h is cells out;
  same_bytes = λ c enough c8. unfold small_output written in (ap (λ a. output_after a (concat_map (unrank (rig_automaton t) h (start t)) is) out) (same t h is cells out c enough c8));
  output_left = unfold small_output in output_left (length is * h) (small t h is cells out) _ out (fresh t h is cells out);
  cells_left = λ left. unfold small_need small_rows in cells_free (small_need t h) (9 ∷ 10 ∷ 11 ∷ []) (14 ∷ []) (small t h is cells out) cells left refl (λ m i. subst (λ k. Avoids k (small t h is cells out)) (sym (in_one i)) (small_14 t h is cells out));
  shaped = unfold small in list_shaped t (small_rows h) h is cells out;
}
