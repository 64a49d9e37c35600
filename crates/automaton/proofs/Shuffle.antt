-- The shuffle: valid draws put out different numbers below n, and any such numbers are what exactly one list of valid draws puts out; source
-- document 001's rnd_perm_prefix puts out the same. Why: a swap is a permutation of the places from i on, and the number put out never comes
-- back; a draw is the place of the number it puts out, and the numbers still to come stand at later places after the swap. Assumes nothing.
use mathlib.Core.Path.{◌≡◌, refl, sym, ap, ap₂, ◌∙◌, fun_ext}
use mathlib.Core.Logic.{◌≢◌}
use mathlib.Mathlib.Logic.Function.Defs.{Injective}
use mathlib.Core.List.Memᴰ.{head as here}
use mathlib.Core.List.Memᴰ.{tail as there}
use mathlib.Core.List.{List, [], ◌∷◌, Memᴰ as In}
use Prim.Native.Nat.{ℕ, suc, ◌≤◌, ◌<◌}
use native.Mathlib.Omega.{arith}
use native.Mathlib.Decide.{ℕ_discrete}
use lib.ListN.{length}
use lib.Dec.{eqb}
use borrow.Author.Tests.{eqb-true, eq-eqb, ne_eqb}
use Rattle.lists.specs.Lists.{Pairwise, none, more, Sample, Permutation}
use Rattle.lists.proofs.Tests.{case}
use Rattle.lists.proofs.Permutations.{full_permutation}
use Rattle.automaton.specs.Shuffle.{swap, shuffle_from, shuffle, Valid}
use Rattle.automaton.specs.Source001.{look, rnd_perm_prefix_from, rnd_perm_prefix}

-- a swap is a choice of the other place
pub swap-first : (f : ℕ → ℕ) (i j : ℕ) → swap f i j i ≡ f j
unfolding swap
swap-first f i j = rw (eq-eqb i i refl)

pub swap-second : (f : ℕ → ℕ) (i j : ℕ) → swap f i j j ≡ f i
unfolding swap
swap-second f i j = case (eqb j i) (λ t. rw t (ap f (eqb-true j i t))) (λ t. rw (t, eq-eqb j j refl))

pub swap-other : (f : ℕ → ℕ) (i j k : ℕ) → k ≢ i → k ≢ j → swap f i j k ≡ f k
unfolding swap
swap-other f i j k p q = rw (ne_eqb k i p, ne_eqb k j q)

-- the number at k after the swap stood at `turn i j k` before it
turn : ℕ → ℕ → ℕ → ℕ
turn i j = swap (λ k. k) i j

swap_is : (f : ℕ → ℕ) (i j k : ℕ) → swap f i j k ≡ f (turn i j k)
unfolding swap turn
swap_is f i j k = case (eqb k i) (λ t. rw t) (λ t. rw t (case (eqb k j) (λ u. rw u) (λ u. rw u)))

turn_cases : (P : ℕ → ℕ → Type 0) (i j k : ℕ) → P i j → P j i → (k ≢ i → k ≢ j → P k k) → P k (turn i j k)
unfolding turn
turn_cases P i j k pi pj pk = go (ℕ_discrete k i) (ℕ_discrete k j)
  where
    go : Dec (k ≡ i) → Dec (k ≡ j) → P k (swap (λ k. k) i j k)
    go (yes p) q = rw p (rw (swap-first (λ k. k) i j) pi)
    go (no p) (yes q) = rw q (rw (swap-second (λ k. k) i j) pj)
    go (no p) (no q) = rw (swap-other (λ k. k) i j k p q) (pk p q)

turn_turn : (i j k : ℕ) → turn i j (turn i j k) ≡ k
unfolding turn
turn_turn i j k = turn_cases (λ k m. turn i j m ≡ k) i j k (swap-second (λ k. k) i j) (swap-first (λ k. k) i j) (λ p q. swap-other (λ k. k) i j k p q)

swap_injective : (f : ℕ → ℕ) (i j : ℕ) → Injective f → Injective (swap f i j)
swap_injective f i j h a b q =
    let e : turn i j a ≡ turn i j b = h (turn i j a) (turn i j b) (sym (swap_is f i j a) ∙ q ∙ swap_is f i j b) in
    sym (turn_turn i j a) ∙ ap (turn i j) e ∙ turn_turn i j b

-- ---- what valid draws put out

-- v stands at a place from i to n - 1
abbrev Stands : ℕ → ℕ → (ℕ → ℕ) → ℕ → Type 0
Stands n i f v = (k : ℕ) × (i ≤ k) × (k < n) × (v ≡ f k)

out_from : (n i : ℕ) (f : ℕ → ℕ) (ds : List ℕ) → Valid n i ds → (v : ℕ) → In v (shuffle_from f i ds) → Stands n i f v
unfolding shuffle_from Valid
out_from n i f [] h v x'' = elim x'' [ ]
out_from n i f (d ∷ ds) h v (here q) = (d, omega arith, omega arith, q ∙ swap-first f i d)
out_from n i f (d ∷ ds) h v (there m) =
    let (k, a, b, q) = out_from n (suc i) (swap f i d) ds h.2 v m in
    let r : (i ≤ turn i d k) × (turn i d k < n) = turn_cases (λ k m. i ≤ k → k < n → (i ≤ m) × (m < n)) i d k (omega arith) (omega arith) (λ p q a b. (a, b)) (omega arith) b in
    (turn i d k, r.0, r.1, q ∙ swap_is f i d k)

different_from : (n i : ℕ) (f : ℕ → ℕ) (ds : List ℕ) → Injective f → Valid n i ds → Pairwise ◌≢◌ (shuffle_from f i ds)
unfolding shuffle_from Valid
different_from n i f [] inj h = none
different_from n i f (d ∷ ds) inj h = more (λ v m q. apart v (out_from n (suc i) (swap f i d) ds h.2 v m) q) (different_from n (suc i) (swap f i d) ds (swap_injective f i d inj) h.2)
  where
    apart : (v : ℕ) → Stands n (suc i) (swap f i d) v → swap f i d i ≡ v → ⊥
    apart v (k, a, b, q) p = let e : i ≡ k = swap_injective f i d inj i k (p ∙ q) in omega arith

pub shuffle_sample : (n : ℕ) (ds : List ℕ) → Valid n 0 ds → Sample n (shuffle ds)
unfolding shuffle
shuffle_sample n ds h = record {
  once = different_from n 0 (λ k. k) ds (λ a b q. q) h;
  below = λ v m. let (k, a, b, q) = out_from n 0 (λ k. k) ds h v m in omega arith;
}

length-shuffle_from : (f : ℕ → ℕ) (i : ℕ) (ds : List ℕ) → length (shuffle_from f i ds) ≡ length ds
unfolding shuffle_from
length-shuffle_from f i [] = refl
length-shuffle_from f i (d ∷ ds) = ap suc (length-shuffle_from (swap f i d) (suc i) ds)

pub length-shuffle : (ds : List ℕ) → length (shuffle ds) ≡ length ds
unfolding shuffle
length-shuffle ds = length-shuffle_from (λ k. k) 0 ds

pub shuffle_permutes : (n : ℕ) (ds : List ℕ) → Valid n 0 ds → length ds ≡ n → Permutation n (shuffle ds)
shuffle_permutes n ds h l = full_permutation n (shuffle ds) (length-shuffle ds ∙ l) (shuffle_sample n ds h)

-- ---- the draws that put out a sample

-- after the swap every number but the one put out stands past i
stands_later : (n i d : ℕ) (f : ℕ → ℕ) (v : ℕ) → i ≤ d → d < n → v ≢ f d → Stands n i f v → Stands n (suc i) (swap f i d) v
stands_later n i d f v a b ne (k, c, h, q) =
    let r : (suc i ≤ turn i d k) × (turn i d k < n) = turn_cases (λ k m. k ≢ d → i ≤ k → k < n → (suc i ≤ m) × (m < n)) i d k (omega arith) (λ z. absurd (z refl)) (omega arith) (λ e. ne (q ∙ ap f e)) c h in
    (turn i d k, r.0, r.1, q ∙ ap f (sym (turn_turn i d k)) ∙ sym (swap_is f i d (turn i d k)))

drawn_from : (n i : ℕ) (f : ℕ → ℕ) (o : List ℕ) → Pairwise ◌≢◌ o → ((v : ℕ) → In v o → Stands n i f v) → (ds : List ℕ) × Valid n i ds × (shuffle_from f i ds ≡ o)
unfolding shuffle_from Valid
drawn_from n i f [] p at = ([], tt, refl)
drawn_from n i f (v ∷ o) (more apart p) at =
    let (d, a, b, q) = at v (here refl) in
    let (ds, valid, r) = drawn_from n (suc i) (swap f i d) o p (λ u m. stands_later n i d f u a b (λ e. apart u m (q ∙ sym e)) (at u (there m))) in
    (d ∷ ds, (omega arith, omega arith, valid), ap₂ ◌∷◌ (swap-first f i d ∙ sym q) r)

pub sample_drawn : (n : ℕ) (o : List ℕ) → Sample n o → (ds : List ℕ) × Valid n 0 ds × (shuffle ds ≡ o)
unfolding shuffle
sample_drawn n o s = drawn_from n 0 (λ k. k) o s.once (λ v m. (v, omega arith, s.below v m, refl))

-- what is put out tells the draws
one_from : (i : ℕ) (f : ℕ → ℕ) → Injective f → (ds es : List ℕ) → shuffle_from f i ds ≡ shuffle_from f i es → ds ≡ es
unfolding shuffle_from
one_from i f inj [] [] q = refl
one_from i f inj [] (e ∷ es) q = absurd (omega (arith, ap length q))
one_from i f inj (d ∷ ds) [] q = absurd (omega (arith, ap length q))
one_from i f inj (d ∷ ds) (e ∷ es) q =
    let head : swap f i d i ≡ swap f i e i = cc in
    let tail : shuffle_from (swap f i d) (suc i) ds ≡ shuffle_from (swap f i e) (suc i) es = cc in
    let same : d ≡ e = inj d e (sym (swap-first f i d) ∙ head ∙ swap-first f i e) in
    ap₂ ◌∷◌ same (one_from (suc i) (swap f i d) (swap_injective f i d inj) ds es (tail ∙ ap (λ m. shuffle_from (swap f i m) (suc i) es) (sym same)))

pub shuffle-one : (ds es : List ℕ) → shuffle ds ≡ shuffle es → ds ≡ es
unfolding shuffle
shuffle-one ds es q = one_from 0 (λ k. k) (λ a b r. r) ds es q

-- ---- source document 001

look-swap : (perm : List (ℕ × ℕ)) (i j : ℕ) → look ((j, look perm i) ∷ (i, look perm j) ∷ perm) ≡ swap (look perm) i j
unfolding look swap
look-swap perm i j = fun_ext (λ k. case (eqb k j)
    (λ t. rw t (case (eqb k i) (λ u. rw u (ap (look perm) (sym (eqb-true k i u) ∙ eqb-true k j t))) (λ u. rw u)))
    (λ t. rw t))

prefix_from : (perm : List (ℕ × ℕ)) (i : ℕ) (js : List ℕ) → rnd_perm_prefix_from perm i js ≡ shuffle_from (look perm) i js
unfolding rnd_perm_prefix_from shuffle_from
prefix_from perm i [] = refl
prefix_from perm i (j ∷ js) = ap₂ ◌∷◌ (sym (swap-first (look perm) i j)) (prefix_from ((j, look perm i) ∷ (i, look perm j) ∷ perm) (suc i) js ∙ ap (λ f. shuffle_from f (suc i) js) (look-swap perm i j))

-- the associative array represents the arrangement
pub rnd_perm_prefix_shuffles : (js : List ℕ) → rnd_perm_prefix js ≡ shuffle js
unfolding rnd_perm_prefix shuffle look
rnd_perm_prefix_shuffles js = prefix_from [] 0 js
