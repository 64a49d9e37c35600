-- The arrangement that the draws make. Output i is the number at draw i when step i comes; the number at a place that no step has come to
-- is the place itself, or what the last step that drew it moved away. Assumes nothing.
use Rattle.std.proofs.Common.{◌≡◌, ℕ, zero, suc, ◌+◌, ◌<◌, ◌≤◌, min, Bool, true, false, eqb, ltb, ◌≢◌, List, ◌∷◌, ◌++◌, length, get_or, drop, sym, refl, ap, ◌∙◌, ⊎_elim, append-nil, arith, drop-cons, get_or-set_other, get_or-set_same, ltb-true, lt-ltb, eqb-true}
use native.Mathlib.Decide.{ℕ_discrete}
use lib.Seq.{drop-length, append_snoc}
use borrow.Author.Tests.{eqb-false}
use Rattle.lists.specs.Lists.{pick, tabulate}
use Rattle.lists.proofs.Tests.{case, split}
use Rattle.automaton.specs.Shuffle.{swap, shuffle_from, shuffle}
use Rattle.automaton.proofs.Shuffle.{swap-first, swap-second, swap-other}
use Rattle.shuffle.specs.Places.{arranged, drawn, latest_step, moved, Held}

-- ---- the output

from_step : (ds : List ℕ) (i : ℕ) → tabulate (drawn ds) i ++ (swap (arranged ds i) i (get_or ds i 0) i ∷ shuffle_from (swap (arranged ds i) i (get_or ds i 0)) (suc i) (drop (suc i) ds))
    ≡ tabulate (drawn ds) (suc i) ++ shuffle_from (arranged ds (suc i)) (suc i) (drop (suc i) ds)
unfolding tabulate arranged drawn
from_step ds i =
    rw (swap-first (arranged ds i) i (get_or ds i 0)) (sym (append_snoc (tabulate (drawn ds) i) (arranged ds i (get_or ds i 0)) (shuffle_from (arranged ds (suc i)) (suc i) (drop (suc i) ds))))

from : (ds : List ℕ) (r i : ℕ) → i + r ≡ length ds → tabulate (drawn ds) i ++ shuffle_from (arranged ds i) i (drop i ds) ≡ tabulate (drawn ds) (length ds)
unfolding shuffle_from
from ds zero i q =
    let e : i ≡ length ds = omega arith in
    rw (e, drop-length ds) (append-nil (tabulate (drawn ds) (length ds)))
from ds (suc r) i q = rw (drop-cons ds i 0 (omega arith)) (from_step ds i ∙ from ds r (suc i) (omega arith))

pub outputs : (ds : List ℕ) → tabulate (drawn ds) (length ds) ≡ shuffle ds
unfolding shuffle tabulate arranged
outputs ds = sym (from ds (length ds) 0 (omega arith))

-- ---- a place that no step has come to

-- the number at k, s being one more than the last step that drew it
number_by : List ℕ → ℕ → ℕ → ℕ
number_by ds k zero = k
number_by ds k (suc s) = arranged ds s s

by_last : (ds : List ℕ) (k i : ℕ) → i ≤ k → arranged ds i k ≡ number_by ds k (latest_step (eqb k) ds i)
unfolding arranged latest_step number_by
by_last ds k zero h = refl
by_last ds k (suc i) h = go (eqb k (get_or ds i 0)) refl (by_last ds k i (omega arith))
  where
    go : (t : Bool) → eqb k (get_or ds i 0) ≡ t → arranged ds i k ≡ number_by ds k (latest_step (eqb k) ds i)
        → swap (arranged ds i) i (get_or ds i 0) k ≡ number_by ds k (pick t (suc i) (latest_step (eqb k) ds i))
    go true q ih = ap (swap (arranged ds i) i (get_or ds i 0)) (eqb-true k (get_or ds i 0) q) ∙ swap-second (arranged ds i) i (get_or ds i 0)
    go false q ih = swap-other (arranged ds i) i (get_or ds i 0) k (λ e. omega arith) (eqb-false k (get_or ds i 0) q) ∙ ih

pub drawn-first : (ds : List ℕ) (i : ℕ) → i ≤ get_or ds i 0 → latest_step (eqb (get_or ds i 0)) ds i ≡ 0 → drawn ds i ≡ get_or ds i 0
unfolding drawn number_by
drawn-first ds i h q = by_last ds (get_or ds i 0) i h ∙ ap (number_by ds (get_or ds i 0)) q

pub drawn-again : (ds : List ℕ) (i s : ℕ) → i ≤ get_or ds i 0 → latest_step (eqb (get_or ds i 0)) ds i ≡ suc s → drawn ds i ≡ arranged ds s s
unfolding drawn number_by
drawn-again ds i s h q = by_last ds (get_or ds i 0) i h ∙ ap (number_by ds (get_or ds i 0)) q

-- ---- the places that the scratch holds

pub held_first : (ds s : List ℕ) → ((k : ℕ) → k < length s → get_or s k 0 ≡ k) → Held (length s) ds 0 s
unfolding arranged
held_first ds s up k h = let e : min 0 k ≡ 0 = omega arith in rw e (up k h)

-- a place from i on has the number now
pub held_ahead : (m : ℕ) (ds s : List ℕ) (i k : ℕ) → Held m ds i s → k < m → i ≤ k → get_or s k 0 ≡ arranged ds i k
held_ahead m ds s i k h l a = let e : min i k ≡ i = omega arith in rw e at (h k l)

-- a place below i has the number that its own step moved away
pub held_behind : (m : ℕ) (ds s : List ℕ) (i k : ℕ) → Held m ds i s → k < m → k ≤ i → get_or s k 0 ≡ arranged ds k k
held_behind m ds s i k h l a = let e : min i k ≡ k = omega arith in rw e at (h k l)

moved_same : (m i d : ℕ) (s : List ℕ) → d < m → m ≤ length s → get_or (moved m i d s) d 0 ≡ get_or s i 0
unfolding moved
moved_same m i d s h l = rw (lt-ltb d m h) (get_or-set_same s d (get_or s i 0) 0 (omega arith))

moved_other : (m i d k : ℕ) (s : List ℕ) → (d < m → k ≢ d) → get_or (moved m i d s) k 0 ≡ get_or s k 0
unfolding moved
moved_other m i d k s p = case (ltb d m) (λ t. rw t (get_or-set_other s d k (get_or s i 0) 0 (p (ltb-true d m t)))) (λ t. rw t)

-- one step
pub held_moved : (m : ℕ) (ds s : List ℕ) (i : ℕ) → i < m → m ≤ length s → i ≤ get_or ds i 0 → Held m ds i s → Held m ds (i + 1) (moved m i (get_or ds i 0) s)
unfolding arranged
held_moved m ds s i a b c h k l = ⊎_elim (λ p. behind p (ℕ_discrete k d)) (λ p. ahead p (ℕ_discrete k d)) (split k i)
  where
    d : ℕ
    d = get_or ds i 0

    behind : k ≤ i → Dec (k ≡ d) → get_or (moved m i (get_or ds i 0) s) k 0 ≡ arranged ds (min (i + 1) k) k
    behind p (yes q) =
        let e : min (i + 1) k ≡ k = omega arith in
        let f : i ≡ k = omega arith in
        rw e (ap (λ (j : ℕ). get_or (moved m i (get_or ds i 0) s) j 0) q ∙ moved_same m i (get_or ds i 0) s (omega arith) b ∙ ap (λ (j : ℕ). get_or s j 0) f ∙ held_behind m ds s i k h l p)
    behind p (no q) =
        let e : min (i + 1) k ≡ k = omega arith in
        rw e (moved_other m i (get_or ds i 0) k s (λ _. q) ∙ held_behind m ds s i k h l p)

    ahead : i < k → Dec (k ≡ d) → get_or (moved m i (get_or ds i 0) s) k 0 ≡ arranged ds (min (i + 1) k) k
    ahead p (yes q) =
        let e : min (i + 1) k ≡ suc i = omega arith in
        rw e (ap (λ (j : ℕ). get_or (moved m i (get_or ds i 0) s) j 0) q ∙ moved_same m i (get_or ds i 0) s (omega arith) b ∙ held_ahead m ds s i i h a (omega arith)
        ∙ sym (ap (swap (arranged ds i) i (get_or ds i 0)) q ∙ swap-second (arranged ds i) i (get_or ds i 0)))
    ahead p (no q) =
        let e : min (i + 1) k ≡ suc i = omega arith in
        rw e (moved_other m i (get_or ds i 0) k s (λ _. q) ∙ held_ahead m ds s i k h l (omega arith) ∙ sym (swap-other (arranged ds i) i (get_or ds i 0) k (λ r. omega arith) q))
