-- Windows that can't be walked are those that depart; and how far a walk goes from each state tells which can be walked.
-- Why: a window can be carried on from x exactly where its walk stays among live states; and one event more before a walk makes it one longer. Assumes nothing.
use mathlib.Core.Path.{◌≡◌, refl, sym, ap, ◌∙◌}
use mathlib.Core.Logic.Iff
use mathlib.Core.Logic.{◌⊎◌, inl, inr, ◌↔◌}
use mathlib.Core.Bool.{Bool, true, false, ◌&&◌, and-true}
use mathlib.Core.List.Memᴰ.{head as here}
use mathlib.Core.List.Memᴰ.{tail as there}
use mathlib.Core.List.{List, [], ◌∷◌, Memᴰ as In}
use Prim.Native.Nat.{ℕ, zero, suc, ◌+◌, ◌-◌, ◌≤◌, ◌<◌}
use native.Mathlib.Omega.{arith}
use lib.ListN.{length, get_or, take, drop}
use lib.Dec.{leb}
use borrow.Author.Tests.{leb-true, le-leb, lt-leb}
use Rattle.lists.specs.Lists.{pick, any, count, sum, tabulate, range}
use Rattle.lists.proofs.Tests.{contra, case, and_left, and_right, and_intro, bool_ext}
use Rattle.lists.proofs.Members.{any_some, any_in, in_take, in_drop}
use Rattle.lists.proofs.Ordered.{range_in}
use Rattle.lists.proofs.Sums.{sum_snoc}
use Rattle.lists.proofs.Tables.{get_or-tabulate, length-tabulate}
use Rattle.automaton.specs.Automaton.{Automaton, Over, CarriedOn}
use Rattle.automaton.specs.Pruning.{live}
use Rattle.automaton.specs.Counting.{Stays}
use Rattle.automaton.specs.Ranking.{first_violation}
use Rattle.automaton.specs.Windows.{window, windows_of, walkable_from, walkable, marks, ones, Departs}
use Rattle.automaton.proofs.Pruning.{live_state, live_back}
use Rattle.automaton.proofs.Counting.{scenarios_sound, scenarios_complete, belongs_iff, stays_live}

-- ---- a test as a bit

bit_zero : (b : Bool) → ◌≡◌ {A = ℕ} (pick b 1 0) 0 ↔ (b ≡ false)
bit_zero true = (λ q. absurd (omega arith), λ q. contra refl q)
bit_zero false = (λ q. refl, λ q. refl)

bit : (b : Bool) → (◌≡◌ {A = ℕ} (pick b 1 0) 0) ⊎ (◌≡◌ {A = ℕ} (pick b 1 0) 1)
bit true = inr refl
bit false = inl refl

sum-bits : (f : ℕ → Bool) (n : ℕ) → sum (λ b. b) (tabulate (λ k. pick (f k) 1 0) n) ≡ count f n
unfolding tabulate
sum-bits f zero = refl
sum-bits f (suc n) = omega (arith, sum-bits f n, sum_snoc (λ b. b) (tabulate (λ k. pick (f k) 1 0) n) (pick (f n) 1 0))

module _ (A : Automaton) where
  open A use {states, events, next}

  -- ---- departures

  pub walkable_stays : (x : ℕ) (w : List ℕ) → Over events w → (walkable_from A x w ≡ true) ↔ Stays A x w
  unfolding walkable_from Stays Over
  walkable_stays x [] o = (λ h. h, λ h. h)
  walkable_stays x (e ∷ w) o =
      let ih = walkable_stays (next x e) w (λ d i. o d (there i)) in
      (λ h. (and_left (live A x) _ h, o e (here refl), ih.0 (and_right (live A x) _ h)), λ h. and_intro h.0 (ih.1 h.2))

  stays_carried : (x : ℕ) (w : List ℕ) → Stays A x w ↔ ((k : ℕ) → CarriedOn A k x w)
  stays_carried x w =
      let b = belongs_iff A (length w) x w in
      (λ h. (b.1 (scenarios_complete A x w h)).carried_on, λ c. (scenarios_sound A (length w) x w (b.0 (record { long = refl; carried_on = c }))).1)

  module _ (w : List ℕ) (o : Over events w) where
    -- 'if it can be walked from some live joint state through live ones'
    pub walkable_iff : (walkable A w ≡ true) ↔ ((x : ℕ) × Stays A x w)
    unfolding walkable
    walkable_iff = (
      λ h. let (x, i, s) = any_some (λ x. walkable_from A x w) (range states) h in (x, (walkable_stays x w o).0 s),
      λ (x, s). any_in (λ x. walkable_from A x w) ((range_in states x).1 (live_state A x (stays_live A x w s))) ((walkable_stays x w o).1 s),
    )

    pub departs_iff : (walkable A w ≡ false) ↔ Departs A w
    unfolding Departs
    departs_iff = (
      λ h x c. contra (walkable_iff.1 (x, (stays_carried x w).1 c)) h,
      λ d. case (walkable A w) (λ h. let (x, s) = walkable_iff.0 h in absurd (d x ((stays_carried x w).0 s))) (λ h. h),
    )

  -- ---- the marks

  pub length_marks : (h : ℕ) (log : List ℕ) → length (marks A h log) ≡ windows_of h log
  unfolding marks
  length_marks h log = length-tabulate _ (windows_of h log)

  -- 'give how many are 1'
  pub ones_marks : (h : ℕ) (log : List ℕ) → sum (λ b. b) (marks A h log) ≡ ones A h log
  unfolding marks ones
  ones_marks h log = sum-bits _ (windows_of h log)

  module _ (h : ℕ) (log : List ℕ) (k : ℕ) (within : k + h ≤ length log) where
    mark_at : get_or (marks A h log) k 0 ≡ pick (walkable A (window h k log)) 1 0
    unfolding marks windows_of
    mark_at = get_or-tabulate _ (suc (length log) - h) k 0 (omega arith)

    pub mark_bit : (get_or (marks A h log) k 0 ≡ 0) ⊎ (get_or (marks A h log) k 0 ≡ 1)
    mark_bit = rw mark_at (bit (walkable A (window h k log)))

    -- 'The 0s are exactly the departures.'
    pub mark_departs : Over events log → (get_or (marks A h log) k 0 ≡ 0) ↔ Departs A (window h k log)
    unfolding Over window
    mark_departs o =
        rw mark_at
        (Iff.trans (bit_zero (walkable A (window h k log))) (departs_iff (window h k log) (λ e i. o e (in_drop k log (in_take h (drop k log) i)))))

  -- ---- one sweep from the end of the log: of each state, where a walk from it first leaves the live states

  reach_from : (h x : ℕ) (s : List ℕ) → h ≤ length s → (live A x && leb h (first_violation A x s)) ≡ walkable_from A x (take h s)
  unfolding walkable_from first_violation
  reach_from zero x s le = rw (le-leb 0 (first_violation A x s) (omega arith)) (and-true (live A x))
  reach_from (suc h) x [] le = absurd (omega arith)
  reach_from (suc h) x (e ∷ s) le =
      let ih : (live A (next x e) && leb h (first_violation A (next x e) s)) ≡ walkable_from A (next x e) (take h s) = reach_from h (next x e) s (omega arith) in
      ap (λ b. live A x && b) (case (live A (next x e)) (λ p. rw p (further ∙ (rw p at ih))) (λ p. rw (p, lt-leb (suc h) 0 (omega arith)) (rw p at ih)))
    where
      further : leb (suc h) (suc (first_violation A (next x e) s)) ≡ leb h (first_violation A (next x e) s)
      further =
          bool_ext _ _
          (λ q. let l = leb-true (suc h) (suc (first_violation A (next x e) s)) q in le-leb h (first_violation A (next x e) s) (omega arith))
          (λ q. let l = leb-true h (first_violation A (next x e) s) q in le-leb (suc h) (suc (first_violation A (next x e) s)) (omega arith))

  -- a state from which an event leads on to a live state is live itself, so where some state is live the others need not be told apart
  pub walkable_reach : (h : ℕ) (s : List ℕ) → h ≤ length s → Over events s → (y : ℕ) → live A y ≡ true
      → any (λ x. leb h (first_violation A x s)) (range states) ≡ walkable A (take h s)
  unfolding walkable first_violation Over
  walkable_reach h s le o y alive =
      bool_ext _ _
      (λ q. let (x, i, l) = any_some (λ x. leb h (first_violation A x s)) (range states) q in to h s le o x ((range_in states x).0 i) l)
      (λ q.
      let (x, i, l) = any_some (λ x. walkable_from A x (take h s)) (range states) q in
      any_in (λ x. leb h (first_violation A x s)) i (and_right (live A x) (leb h (first_violation A x s)) (reach_from h x s le ∙ l)))
    where
      goes : (h : ℕ) (s : List ℕ) → h ≤ length s → (x : ℕ) → live A x ≡ true → leb h (first_violation A x s) ≡ true → any (λ x. walkable_from A x (take h s)) (range states) ≡ true
      goes h s le x p l = any_in (λ x. walkable_from A x (take h s)) ((range_in states x).1 (live_state A x p)) (sym (reach_from h x s le) ∙ and_intro p l)

      to : (h : ℕ) (s : List ℕ) → h ≤ length s → ((e : ℕ) → In e s → In e events) → (x : ℕ) → x < states → leb h (first_violation A x s) ≡ true
          → any (λ x. walkable_from A x (take h s)) (range states) ≡ true
      to zero s le o x lt l = goes zero s le y alive (le-leb 0 (first_violation A y s) (omega arith))
      to (suc h) [] le o x lt l = absurd (omega arith)
      to (suc h) (e ∷ s) le o x lt l =
          goes (suc h) (e ∷ s) le x
          (case (live A (next x e)) (λ p. live_back A x e lt (o e (here refl)) p) (λ p. let z = leb-true (suc h) _ l in let w = rw p at z in absurd (omega arith)))
          l
