-- Source document 000 and paper 01 agree: live is the greatest solution of equation (1), N is ext, and the scenario of an index is its trace.
-- Why: every solution of (1) lies in every set, and live is a solution; the greatest event whose part begins at the index or before it is
-- the one that the index falls in. For every Φ that is the greatest solution, not only for `live`. Assumes nothing.
use mathlib.Core.Path.{◌≡◌, refl, sym, ap, ap₂, ◌∙◌, fun_ext}
use mathlib.Core.Logic.{◌≢◌}
use mathlib.Core.Bool.{Bool, true, false, ◌||◌}
use mathlib.Core.Option.{none, some, none-ne-some}
use mathlib.Core.List.Memᴰ.{head as here}
use mathlib.Core.List.Memᴰ.{tail as there}
use mathlib.Core.List.{List, [], ◌∷◌, Memᴰ as In}
use Prim.Native.Nat.{ℕ, zero, suc, ◌+◌, ◌-◌, ◌≤◌, ◌<◌}
use native.Mathlib.Omega.{arith}
use lib.Dec.{ltb, leb}
use borrow.Author.Tests.{ltb-true, lt-ltb, leb-true, le-leb, lt-leb, ne_eqb, eq-eqb}
use Rattle.lists.specs.Lists.{pick, any, Pairwise, more}
use Rattle.lists.proofs.Tests.{case, or_right, and_intro, bool_ext}
use Rattle.lists.proofs.Sums.{sum_same}
use Rattle.lists.proofs.Members.{any_in}
use Rattle.automaton.specs.Automaton.{Automaton}
use Rattle.automaton.specs.Pruning.{pruned_set, keep, live}
use Rattle.automaton.specs.Counting.{N}
use Rattle.automaton.specs.Ranking.{before, unrank}
use Rattle.automaton.specs.Source000.{greatest, or_zero, f, Goes, Solves, Safe, fgen, ext, ξ, trace_from, nb_traces, trace}
use Rattle.automaton.proofs.Pruning.{live_all, live_state, live_back, live_goes_on}
use Rattle.automaton.proofs.Counting.{N_dead, N_live}
use Rattle.automaton.proofs.Ranking.{choose_split}

any_none : (t : ℕ → Bool) (l : List ℕ) → ((u : ℕ) → In u l → t u ≡ false) → any t l ≡ false
any_none t [] h = refl
any_none t (x ∷ l) h = rw (h x (here refl)) (any_none t l (λ u i. h u (there i)))

any-ext : (t t' : ℕ → Bool) (l : List ℕ) → ((u : ℕ) → In u l → t u ≡ t' u) → any t l ≡ any t' l
any-ext t t' [] h = refl
any-ext t t' (x ∷ l) h = ap₂ ◌||◌ (h x (here refl)) (any-ext t t' l (λ u i. h u (there i)))

greatest-ext : (t t' : ℕ → Bool) (l : List ℕ) → ((u : ℕ) → In u l → t u ≡ t' u) → greatest t l ≡ greatest t' l
unfolding greatest
greatest-ext t t' [] h = refl
greatest-ext t t' (x ∷ l) h = ap₂ (λ b n. pick b n x) (any-ext t t' l (λ u i. h u (there i))) (greatest-ext t t' l (λ u i. h u (there i)))

before_here : (c : ℕ → ℕ) (e d : ℕ) (l : List ℕ) → e ≡ d → before c (d ∷ l) e ≡ 0
unfolding before
before_here c e d l q = rw (eq-eqb d e (sym q))

before_there : (c : ℕ → ℕ) (e d : ℕ) (l : List ℕ) → d ≢ e → before c (d ∷ l) e ≡ c d + before c l e
unfolding before
before_there c e d l q = rw (ne_eqb d e q)

greatest-is : (c : ℕ → ℕ) {l : List ℕ} → Pairwise ◌≢◌ l → (e : ℕ) → In e l → (i j : ℕ) → before c l e + j ≡ i → j < c e → greatest (λ u. leb (before c l u) i) l ≡ e
unfolding greatest
greatest-is c Rattle.lists.specs.Lists.none e x7 i j b lt = elim x7 [ ]
greatest-is c (more {a = d} {l = l} f u) e (here q) i j b lt =
    rw (any_none (λ u. leb (before c (d ∷ l) u) i) l (λ v k. lt-leb (before c (d ∷ l) v) i (omega (arith, before_there c v d l (f v k), before_here c e d l q, ap c q)))) (sym q)
greatest-is c (more {a = d} {l = l} f u) e (there k) i j b lt =
    rw (any_in (λ u. leb (before c (d ∷ l) u) i) k (le-leb (before c (d ∷ l) e) i (omega arith)))
    (greatest-ext (λ u. leb (before c (d ∷ l) u) i) (λ u. leb (before c l u) (before c l e + j)) l agree ∙ greatest-is c u e k (before c l e + j) j refl lt)
  where
    agree : (v : ℕ) → In v l → leb (before c (d ∷ l) v) i ≡ leb (before c l v) (before c l e + j)
    agree v m = bool_ext _ _
        (λ t. le-leb (before c l v) (before c l e + j) (omega (arith, leb-true (before c (d ∷ l) v) i t, before_there c v d l (f v m), before_there c e d l (f e k))))
        (λ t. le-leb (before c (d ∷ l) v) i (omega (arith, leb-true (before c l v) (before c l e + j) t, before_there c v d l (f v m), before_there c e d l (f e k))))

module _ (A : Automaton) where
  open A use {states, events, next, stop}

  f_some : (x u y : ℕ) → f A x u ≡ some y → (next x u ≡ y) × (y < states)
  unfolding f
  f_some x u y h = case (ltb (next x u) states) (λ p. go p (rw p at h)) (λ p. absurd (none-ne-some y (rw p at h)))
    where
      go : ltb (next x u) states ≡ true → some (next x u) ≡ some y → (next x u ≡ y) × (y < states)
      go p q = let e : next x u ≡ y = cc in (e, rw e at (ltb-true (next x u) states p))

  f_of : (x u : ℕ) → next x u < states → f A x u ≡ some (next x u)
  unfolding f
  f_of x u h = rw (lt-ltb (next x u) states h)

  -- a solution of (1) lies in every set
  in_sets : (Ψ : ℕ → Bool) → Solves A Ψ → (k x : ℕ) → x < states → Ψ x ≡ true → pruned_set A k x ≡ true
  unfolding pruned_set keep Solves Goes
  in_sets Ψ s zero x h p = lt-ltb x states h
  in_sets Ψ s (suc k) x h p =
      let (u, y, i, q, r) = (s x h).0 p in
      let (e, lt) = f_some x u y q in
      and_intro (lt-ltb x states h) (or_right (stop x) (any_in (λ e. pruned_set A k (next x e)) i (rw e (in_sets Ψ s k y lt r))))

  -- where no state may stop, 'The states left are live' says which states are safe
  pub live_safe : ((x : ℕ) → stop x ≡ false) → Safe A (live A)
  unfolding Solves Goes
  live_safe ns = record {
    solves = λ x h. (onward x, λ (u, y, i, q, r). let (e, lt) = f_some x u y q in live_back A x u h i (rw e r));
    greatest_of = λ Ψ s x h p. (live_all A x).1 (λ k. in_sets Ψ s k x h p);
  }
    where
      onward : (x : ℕ) → live A x ≡ true → Goes A (live A) x
      onward x p = let (e, i, q) = live_goes_on A ns x p in (e, next x e, i, f_of x e (live_state A (next x e) q), q)

  module _ (Φ : ℕ → Bool) (ns : (x : ℕ) → stop x ≡ false) (safe : Safe A Φ) where
    pub safe_live : (x : ℕ) → x < states → Φ x ≡ live A x
    safe_live x h = bool_ext (Φ x) (live A x) ((live_safe ns).greatest_of Φ safe.solves x h) (safe.greatest_of (live A) (live_safe ns).solves x h)

    fgen_live : (x u : ℕ) → live A (next x u) ≡ true → fgen A Φ x u ≡ some (next x u)
    unfolding fgen
    fgen_live x u p = let h = live_state A (next x u) p in rw (f_of x u h) (rw (safe_live (next x u) h ∙ p))

    fgen_dead : (x u : ℕ) → live A (next x u) ≡ false → fgen A Φ x u ≡ none
    unfolding fgen f
    fgen_dead x u p = case (ltb (next x u) states) (λ t. rw t (rw (safe_live (next x u) (ltb-true (next x u) states t) ∙ p))) (λ t. rw t)

    ext_step : (k : ℕ) → ((y : ℕ) → live A y ≡ true → ext A Φ y k ≡ N A k y) → (x u : ℕ) → or_zero (λ y. ext A Φ y k) (fgen A Φ x u) ≡ N A k (next x u)
    ext_step k ih x u =
        case (live A (next x u)) (λ p. rw (fgen_live x u p) (ih (next x u) p)) (λ p. rw (fgen_dead x u p) (sym (N_dead A k (next x u) p)))

    pub ext_is : (k x : ℕ) → live A x ≡ true → ext A Φ x k ≡ N A k x
    unfolding ext N
    ext_is zero x p = rw p
    ext_is (suc k) x p = rw p (sum_same _ _ events (λ u. ext_step k (ext_is k) x u))

    counts : (k x : ℕ) → ◌≡◌ {A = ℕ → ℕ} (λ v. or_zero (λ y. ext A Φ y k) (fgen A Φ x v)) (λ v. N A k (next x v))
    counts k x = fun_ext (λ v. ext_step k (ext_is k) x v)

    ξ_is : (k x u : ℕ) → ξ A Φ x u k ≡ before (λ v. N A k (next x v)) events u
    unfolding ξ
    ξ_is k x u = ap (λ c. before c events u) (counts k x)

    greatest_ξ : Pairwise ◌≢◌ events → (k x m e j : ℕ) → In e events → before (λ v. N A k (next x v)) events e + j ≡ m → j < N A k (next x e)
        → greatest (λ u. leb (ξ A Φ x u k) m) events ≡ e
    unfolding ξ
    greatest_ξ d k x m e j i b lt = ap (λ c. greatest (λ u. leb (before c events u) m) events) (counts k x) ∙ greatest-is (λ v. N A k (next x v)) d e i m j b lt

    pub trace_is : Pairwise ◌≢◌ events → (k x m : ℕ) → m < N A k x → trace_from A Φ x k m ≡ unrank A k x m
    unfolding trace_from unrank N
    trace_is d zero x m h = refl
    trace_is d (suc k) x m h =
        case (live A x)
        (λ p. go (choose_split (λ e. N A k (next x e)) (λ e j. unrank A k (next x e) j) events d m (rw p at h)) (trace_is d k))
        (λ p. let z = rw p at h in absurd (omega arith))
      where
        go : (e : ℕ) × (j : ℕ) × In e events × (j < N A k (next x e)) × (unrank A (suc k) x m ≡ e ∷ unrank A k (next x e) j) × (before (λ d. N A k (next x d)) events e + j ≡ m)
            → ((y j : ℕ) → j < N A k y → trace_from A Φ y k j ≡ unrank A k y j) → trace_from A Φ x (suc k) m ≡ unrank A (suc k) x m
        go (e, j, i, lt, q, b) ih =
            let y : fgen A Φ x e ≡ some (next x e) = fgen_live x e (N_live A k (next x e) (omega arith)) in
            let r : m - ξ A Φ x e k ≡ j = omega (arith, ξ_is k x e) in
            rw (greatest_ξ d k x m e j i b lt, q, y, r, ih (next x e) j lt)

    -- algorithm 1 at a safe initial state
    pub nb_traces_is : (x₀ h : ℕ) → Φ x₀ ≡ true → x₀ < states → nb_traces A Φ x₀ h ≡ N A h x₀
    unfolding nb_traces
    nb_traces_is x₀ h p lt = ext_is h x₀ (sym (safe_live x₀ lt) ∙ p)

    pub trace_unranks : Pairwise ◌≢◌ events → (x₀ i h : ℕ) → Φ x₀ ≡ true → x₀ < states → i < N A h x₀ → trace A Φ x₀ i h ≡ some (unrank A h x₀ i)
    unfolding trace
    trace_unranks d x₀ i h p lt below = rw (nb_traces_is x₀ h p lt, lt-leb (N A h x₀) i below) (ap some (trace_is d h x₀ i below))

    pub trace_refuses : (x₀ i h : ℕ) → Φ x₀ ≡ true → x₀ < states → N A h x₀ ≤ i → trace A Φ x₀ i h ≡ none
    unfolding trace
    trace_refuses x₀ i h p lt le = rw (nb_traces_is x₀ h p lt, le-leb (N A h x₀) i le)
