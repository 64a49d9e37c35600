-- What is known of a record only to exist is known of it: each part is an equation or an order, or found by a search. Assumes nothing.
use mathlib.Core.Path.{◌≡◌, sym, subst}
use mathlib.Core.Logic.{∥∥₁_elim, ∥∥₁_map}
use mathlib.Core.List.{List}
use mathlib.Core.List.{Memᴰ as In}
use Prim.Native.Nat.{ℕ, ◌<◌}
use lib.ListN.{length, get_or}
use Rattle.std.proofs.Math.Nat.{ℕ_set}
use Rattle.std.specs.Coded.{le_prop}
use Rattle.lists.specs.Lists.{index_of, Permutation}
use Rattle.lists.proofs.Distinct.{in_place, distinct-once, once-distinct}
use Rattle.lists.proofs.Members.{get_or-in}
use Rattle.lists.proofs.Permutations.{index_of_at}
use Rattle.rig.specs.declared.Rig.{Rig}
use Rattle.rig.specs.Record.{order_in, WellFormed}

-- where a number of a permutation stands first
place : (n : ℕ) (l : List ℕ) → Permutation n l → (e : ℕ) → e < n → (index_of l e < length l) × (get_or l (index_of l e) 0 ≡ e)
place n l p e lt =
    let (k, h, q) = in_place 0 ((p.just e).1 lt) in
    let at : index_of l e ≡ k = subst (λ (x : ℕ). index_of l x ≡ k) q (index_of_at l k p.once h) in
    (subst (λ (x : ℕ). x < length l) (sym at) h, subst (λ (x : ℕ). get_or l x 0 ≡ e) (sym at) q)

module _ (n : ℕ) (l : List ℕ) (known : ∥ Permutation n l ∥₁) where
  found : (e : ℕ) → e < n → In e l
  found e lt =
      let h : index_of l e < length l = ∥∥₁_elim known le_prop (λ p. (place n l p e lt).0) in
      let q : get_or l (index_of l e) 0 ≡ e = ∥∥₁_elim known (ℕ_set _ _) (λ p. (place n l p e lt).1) in
      subst (λ (x : ℕ). In x l) q (get_or-in l (index_of l e) 0 h)

  permutation : Permutation n l
  permutation = record {
    once = once-distinct 0 l (λ i j a b q. ∥∥₁_elim known (ℕ_set i j) (λ p. distinct-once 0 l p.once i j a b q));
    just = λ e. (λ i. ∥∥₁_elim known le_prop (λ p. (p.just e).0 i), found e);
  }

pub well_formed_of : (r : Rig) → ∥ WellFormed r ∥₁ → WellFormed r
well_formed_of r known = record {
  some_event = ∥∥₁_elim known le_prop (λ w. w.some_event);
  few_events = ∥∥₁_elim known le_prop (λ w. w.few_events);
  some_monitor = ∥∥₁_elim known le_prop (λ w. w.some_monitor);
  few_monitors = ∥∥₁_elim known le_prop (λ w. w.few_monitors);
  some_state = λ m lt. ∥∥₁_elim known le_prop (λ w. w.some_state m lt);
  few_states = λ m lt. ∥∥₁_elim known le_prop (λ w. w.few_states m lt);
  start_below = λ m lt. ∥∥₁_elim known le_prop (λ w. w.start_below m lt);
  few_joint = ∥∥₁_elim known le_prop (λ w. w.few_joint);
  ordered = permutation r.events (order_in r) (∥∥₁_map known (λ w. w.ordered));
}
