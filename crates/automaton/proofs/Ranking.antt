-- An index gives the scenario that stands at it in the list, and the rank of a scenario is that index. Paper 01, 'Counting and indices'.
-- Why: the counts of the events cut the indices into parts, one part an event, and `before` is where an event's part begins.
-- Assumes nothing.
use mathlib.Core.Path.{◌≡◌, refl, sym, ap, ◌∙◌, subst}
use mathlib.Core.Logic.{◌↔◌, ◌≢◌}
use mathlib.Core.Bool.{Bool, true, false}
use mathlib.Core.List.Memᴰ.{head as here}
use mathlib.Core.List.Memᴰ.{tail as there}
use mathlib.Core.List.{List, [], ◌∷◌, ◌++◌, map, Memᴰ as In}
use Prim.Native.Nat.{ℕ, zero, suc, ◌+◌, ◌-◌, ◌≤◌, ◌<◌}
use native.Mathlib.Omega.{arith}
use native.Mathlib.Nat.{zero-add}
use lib.ListN.{length, get_or, take, length-map, get_or-append}
use lib.Seq.{get_or-append-add}
use lib.Dec.{ltb, eqb}
use borrow.Author.Tests.{ltb-true, ltb-false, eqb-true, lt-ltb, le-ltb, ne_eqb, eq-eqb}
use Rattle.lists.specs.Lists.{pick, sum, concat_map, Pairwise, more}
use Rattle.lists.proofs.Tests.{contra, case}
use Rattle.lists.proofs.Members.{get_or-in, get_or-map_lt}
use Rattle.lists.proofs.Ordered.{pairwise_at}
use Rattle.automaton.specs.Automaton.{Automaton, Belongs}
use Rattle.automaton.specs.Pruning.{live}
use Rattle.automaton.specs.Counting.{Lex, Stays, N, scenarios}
use Rattle.automaton.specs.Ranking.{choose, before, unrank, rank, first_violation}
use Rattle.automaton.proofs.Counting.{scenarios_length, scenarios_ordered, scenarios_sound, belongs_iff, stays_live}

-- ---- choosing by counts

-- what `choose` takes, as a place in the lists of what each event leads to
pub choose_at : (c : ℕ → ℕ) (rest : ℕ → ℕ → List ℕ) (f : ℕ → List (List ℕ)) → ((e : ℕ) → length (f e) ≡ c e) → ((e j : ℕ) → j < c e → rest e j ≡ get_or (f e) j [])
    → (l : List ℕ) (i : ℕ) → i < sum c l → choose c rest l i ≡ get_or (concat_map (λ e. map (λ s. e ∷ s) (f e)) l) i []
unfolding choose
choose_at c rest f len at [] i h = absurd (omega arith)
choose_at c rest f len at (e ∷ l) i h = go (ltb i (c e)) refl (choose_at c rest f len at l (i - c e))
  where
    block : List (List ℕ)
    block = map (λ s. e ∷ s) (f e)

    size : length block ≡ c e
    size = length-map (f e) (λ s. e ∷ s) ∙ len e

    go : (b : Bool) → ltb i (c e) ≡ b → (i - c e < sum c l → choose c rest l (i - c e) ≡ get_or (concat_map (λ e. map (λ s. e ∷ s) (f e)) l) (i - c e) [])
        → pick b (e ∷ rest e i) (choose c rest l (i - c e)) ≡ get_or (block ++ concat_map (λ e. map (λ s. e ∷ s) (f e)) l) i []
    go true t ih =
        let lt : i < c e = ltb-true i (c e) t in
        ap (λ s. e ∷ s) (at e i lt) ∙ sym (get_or-map_lt (λ s. e ∷ s) (f e) i [] [] (omega (arith, len e)))
        ∙ sym (get_or-append block (concat_map (λ e. map (λ s. e ∷ s) (f e)) l) [] i (omega (arith, size)))
    go false t ih =
        let le : c e ≤ i = ltb-false i (c e) t in
        let k : i ≡ length block + (i - c e) = omega (arith, size) in
        ih (omega arith) ∙ sym (get_or-append-add block (concat_map (λ e. map (λ s. e ∷ s) (f e)) l) (i - c e) []) ∙ ap (λ n. get_or (block ++ concat_map (λ e. map (λ s. e ∷ s) (f e)) l) n []) (sym k)

-- what `choose` takes, as an event and what is left of the index
pub choose_split : (c : ℕ → ℕ) (rest : ℕ → ℕ → List ℕ) (l : List ℕ) → Pairwise ◌≢◌ l → (i : ℕ) → i < sum c l
    → (e : ℕ) × (j : ℕ) × In e l × (j < c e) × (choose c rest l i ≡ e ∷ rest e j) × (before c l e + j ≡ i)
unfolding choose before
choose_split c rest [] u i h = absurd (omega arith)
choose_split c rest (d ∷ l) (more f u) i h = go (ltb i (c d)) refl (choose_split c rest l u (i - c d))
  where
    go : (b : Bool) → ltb i (c d) ≡ b
        → (i - c d < sum c l → (e : ℕ) × (j : ℕ) × In e l × (j < c e) × (choose c rest l (i - c d) ≡ e ∷ rest e j) × (before c l e + j ≡ i - c d))
        → (e : ℕ) × (j : ℕ) × In e (d ∷ l) × (j < c e) × (pick b (d ∷ rest d i) (choose c rest l (i - c d)) ≡ e ∷ rest e j) × (before c (d ∷ l) e + j ≡ i)
    go true t ih = (d, i, here refl, ltb-true i (c d) t, refl, rw (eq-eqb d d refl) (omega arith))
    go false t ih =
        let le : c d ≤ i = ltb-false i (c d) t in
        let (e, j, k, lt, q, b) = ih (omega arith) in
        (e, j, there k, lt, q, rw (ne_eqb d e (f e k)) (omega arith))

-- the other way: e's own part of the indices begins at `before c l e`
choose_here : (c : ℕ → ℕ) (rest : ℕ → ℕ → List ℕ) (e d : ℕ) (l : List ℕ) → e ≡ d → (j : ℕ) → j < c e
    → (choose c rest (d ∷ l) (before c (d ∷ l) e + j) ≡ e ∷ rest e j) × (before c (d ∷ l) e + j < sum c (d ∷ l))
unfolding choose before
choose_here c rest e d l q j h =
    let lt : j < c d = rw q at h in
    rw q (rw (eq-eqb d d refl, zero-add j, lt-ltb j (c d) lt) (refl, omega arith))

pub choose-back : (c : ℕ → ℕ) (rest : ℕ → ℕ → List ℕ) {e : ℕ} {l : List ℕ} → In e l → (j : ℕ) → j < c e
    → (choose c rest l (before c l e + j) ≡ e ∷ rest e j) × (before c l e + j < sum c l)
unfolding choose before
choose-back c rest {e} (here {x = d} {xs = l} q) j h = choose_here c rest e d l q j h
choose-back c rest {e} (there {x = d} {xs = l} k) j h =
    let ih = choose-back c rest k j h in
    case (eqb d e)
    (λ t. choose_here c rest e d l (sym (eqb-true d e t)) j h)
    (λ t. rw (t, le-ltb (c d + before c l e + j) (c d) (omega arith), shift) (ih.0, omega (arith, ih.1)))
  where
    shift : c d + before c l e + j - c d ≡ before c l e + j
    shift = omega arith

-- e's part ends within the whole
pub before-room : (c : ℕ → ℕ) {e : ℕ} {l : List ℕ} → In e l → before c l e + c e ≤ sum c l
unfolding before
before-room c {e} (here {x = d} {xs = l} q) = rw (q, eq-eqb d d refl) (omega arith)
before-room c {e} (there {x = d} {xs = l} k) =
    let ih = before-room c k in
    case (eqb d e) (λ t. rw (t, eqb-true d e t) (omega arith)) (λ t. rw t (omega arith))

module _ (A : Automaton) where
  open A use {states, events, next, stop}

  pub unrank_at : (r x i : ℕ) → i < N A r x → unrank A r x i ≡ get_or (scenarios A r x) i []
  unfolding unrank N scenarios
  unrank_at zero x i h = case (live A x) (λ p. rw p (only i)) (λ p. rw p)
    where
      only : (i : ℕ) → [] ≡ get_or {A = List ℕ} ([] ∷ []) i []
      only zero = refl
      only (suc i) = refl
  unrank_at (suc r) x i h = case (live A x) (λ p. rw p (choose_at (λ e. N A r (next x e)) _ (λ e. scenarios A r (next x e)) (λ e. scenarios_length A r (next x e)) (λ e j. unrank_at r (next x e) j) events i (rw p at h)))
      (λ p. let z = rw p at h in absurd (omega arith))

  pub rank_unrank : Pairwise ◌≢◌ events → (r x i : ℕ) → i < N A r x → (length (unrank A r x i) ≡ r) × (rank A x (unrank A r x i) ≡ i)
  unfolding unrank N rank
  rank_unrank u zero x i h = (refl, case (live A x) (λ p. let z = rw p at h in omega arith) (λ p. let z = rw p at h in omega arith))
  rank_unrank u (suc r) x i h =
      case (live A x)
      (λ p. go (choose_split (λ e. N A r (next x e)) (λ e j. unrank A r (next x e) j) events u i (rw p at h)) (rank_unrank u r))
      (λ p. let z = rw p at h in absurd (omega arith))
    where
      go : (e : ℕ) × (j : ℕ) × In e events × (j < N A r (next x e)) × (unrank A (suc r) x i ≡ e ∷ unrank A r (next x e) j) × (before (λ d. N A r (next x d)) events e + j ≡ i)
          → ((y j : ℕ) → j < N A r y → (length (unrank A r y j) ≡ r) × (rank A y (unrank A r y j) ≡ j))
          → (length (unrank A (suc r) x i) ≡ suc r) × (rank A x (unrank A (suc r) x i) ≡ i)
      go (e, j, k, lt, q, b) ih =
          let (l, m) = ih (next x e) j lt in
          rw q (ap suc l, rw (l, m) b)

  pub unrank_rank : (x : ℕ) (s : List ℕ) → Stays A x s → (unrank A (length s) x (rank A x s) ≡ s) × (rank A x s < N A (length s) x)
  unfolding unrank N rank Stays
  unrank_rank x [] w = (refl, rw w (omega arith))
  unrank_rank x (e ∷ s) w =
      let (q, lt) = unrank_rank (next x e) s w.2 in
      let (u, v) = choose-back (λ d. N A (length s) (next x d)) (λ d j. unrank A (length s) (next x d) j) w.1 (rank A (next x e) s) lt in
      (u ∙ ap (λ t. e ∷ t) q, rw w.0 v)

  -- ---- indices and what belongs

  -- every index gives a sequence that belongs
  pub index_belongs : (r x i : ℕ) → i < N A r x → Belongs A r x (unrank A r x i)
  index_belongs r x i h =
      (belongs_iff A r x (unrank A r x i)).1 (subst (λ s. In s (scenarios A r x)) (sym (unrank_at r x i h)) (get_or-in (scenarios A r x) i [] (omega (arith, scenarios_length A r x))))

  -- each that belongs has an index
  pub belongs_index : (r x : ℕ) (s : List ℕ) → Belongs A r x s → (rank A x s < N A r x) × (unrank A r x (rank A x s) ≡ s)
  belongs_index r x s b =
      let (l, w) = scenarios_sound A r x s ((belongs_iff A r x s).0 b) in
      let (u, lt) = unrank_rank x s w in
      rw (← l) (lt, u)

  -- and only one
  pub index_one : Pairwise ◌≢◌ events → (r x i j : ℕ) → i < N A r x → j < N A r x → unrank A r x i ≡ unrank A r x j → i ≡ j
  index_one d r x i j h k q = sym (rank_unrank d r x i h).1 ∙ ap (rank A x) q ∙ (rank_unrank d r x j k).1

  -- lower indices give earlier sequences
  pub index_order : (R : ℕ → ℕ → Type 0) → Pairwise R events → (r x i j : ℕ) → i < j → j < N A r x → Lex R (unrank A r x i) (unrank A r x j)
  index_order R o r x i j h k =
      rw (unrank_at r x i (omega arith), unrank_at r x j k) (pairwise_at [] i j (scenarios_ordered A R o r x) h (omega (arith, scenarios_length A r x)))

  -- the count is 0 exactly when nothing belongs
  pub none_iff : (r x : ℕ) → (N A r x ≡ 0) ↔ ((s : List ℕ) → ¬ Belongs A r x s)
  none_iff r x = (λ z s b. omega (arith, (belongs_index r x s b).0), λ h. zero_or (N A r x) (λ p. h (unrank A r x 0) (index_belongs r x 0 p)))
    where
      zero_or : (n : ℕ) → (0 < n → ⊥) → n ≡ 0
      zero_or zero h = refl
      zero_or (suc n) h = absurd (h (omega arith))

  -- ---- the place of refusal 14

  pub first_violation_none : (x : ℕ) (s : List ℕ) → live A x ≡ true → ((e : ℕ) → In e s → In e events) → (first_violation A x s ≡ length s) ↔ Stays A x s
  unfolding first_violation Stays
  first_violation_none x [] p v = (λ q. p, λ w. refl)
  first_violation_none x (e ∷ s) p v =
      case (live A (next x e))
      (λ t. let ih = first_violation_none (next x e) s t (λ d i. v d (there i)) in rw t (λ q. (p, v e (here refl), ih.0 (omega arith)), λ w. ap suc (ih.1 w.2)))
      (λ t. rw t (λ q. absurd (omega arith), λ w. contra (stays_live A (next x e) s w.2) t))

  pub first_violation_le : (x : ℕ) (s : List ℕ) → first_violation A x s ≤ length s
  unfolding first_violation
  first_violation_le x [] = omega arith
  first_violation_le x (e ∷ s) = case (live A (next x e)) (λ t. rw t (omega (arith, first_violation_le (next x e) s))) (λ t. rw t (omega arith))

  -- up to there it stays among live states, and with that event no longer
  pub first_violation_first : (x : ℕ) (s : List ℕ) → live A x ≡ true → ((e : ℕ) → In e s → In e events)
      → Stays A x (take (first_violation A x s) s) × (first_violation A x s < length s → ¬ Stays A x (take (suc (first_violation A x s)) s))
  unfolding first_violation Stays
  first_violation_first x [] p v = (p, λ h. absurd (omega arith))
  first_violation_first x (e ∷ s) p v =
      case (live A (next x e))
      (λ t. let ih = first_violation_first (next x e) s t (λ d i. v d (there i)) in rw t ((p, v e (here refl), ih.0), λ h w. ih.1 (omega arith) w.2))
      (λ t. rw t (p, λ h w. contra w.2 t))
