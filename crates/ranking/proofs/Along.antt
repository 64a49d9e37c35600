-- Along a sequence: what its first k events leave to be ranked. Why: each event to a live state takes its own part of the indices of the state
-- before it, so the index so far and the count of what is left stay within the whole count; the first other event is the violation.
-- Assumes nothing.
use mathlib.Core.Path.{◌≡◌, sym, ap, ◌∙◌}
use mathlib.Core.Bool.{false}
use mathlib.Core.List.{List, [], ◌∷◌}
use Prim.Native.Nat.{ℕ, suc, ◌+◌, ◌-◌, ◌^◌, ◌≤◌, ◌<◌, min}
use native.Mathlib.Omega.{arith}
use native.Mathlib.Numerals.{add-one}
use lib.ListN.{length, get_or, drop, length-drop, drop_of_length-le}
use lib.Seq.{drop-cons}
use borrow.Author.Tests.{lt-ltb, le-ltb}
use Rattle.lists.specs.Lists.{sum}
use Rattle.automaton.specs.Automaton.{Automaton}
use Rattle.automaton.specs.Pruning.{live}
use Rattle.automaton.specs.Counting.{N, most}
use Rattle.automaton.specs.Ranking.{before, rank, first_violation}
use Rattle.automaton.proofs.Ranking.{before-room}
use Rattle.counting.proofs.Sums.{N_all}
use Rattle.ranking.specs.declared.Found.{Found}
use Rattle.ranking.specs.Ranks.{FoundEvent, ranked_as}
use Rattle.std.specs.Prelude.{Ok, Err}

-- the first k events of s lead from x to `at` by live states, and their counts before are `index` together
pub record Along (A : Automaton) (x : ℕ) (s : List ℕ) (k at index : ℕ) : Type 0 where
  pub first_violation_on : first_violation A x s ≡ k + first_violation A at (drop k s)
  pub rank_on : rank A x s ≡ index + rank A at (drop k s)
  pub room : index + N A (length s - k) at ≤ N A (length s) x

module _ (A : Automaton) (x : ℕ) (s : List ℕ) where
  pub along_end : (k at index : ℕ) → k ≡ length s → Along A x s k at index → Ok index ≡ ranked_as A x s
  unfolding ranked_as first_violation rank
  along_end k at index e is =
      let none : drop k s ≡ [] = drop_of_length-le s {i = k} (omega arith) in
      let o : first_violation A x s ≡ k + 0 = is.first_violation_on ∙ ap (λ (l : List ℕ). k + first_violation A at l) none in
      let r : rank A x s ≡ index + 0 = is.rank_on ∙ ap (λ (l : List ℕ). index + rank A at l) none in
      let i : index ≡ rank A x s = omega arith in
      rw (le-ltb (first_violation A x s) (length s) (omega arith)) (ap Ok i)

  module _ (k at index : ℕ) (hk : k < length s) (least : N A (length s) x < most) (is : Along A x s k at index) where
    rest : drop k s ≡ get_or s k 0 ∷ drop (suc k) s
    rest = drop-cons s k 0 hk

    more_left : length s - k ≡ length s - 1 - k + 1
    more_left = omega arith

    pub along_least : N A (length s - 1 - k + 1) at < most
    along_least = let q = ap (λ (n : ℕ). N A n at) more_left in omega (arith, is.room)

    pub along_off : live A (A.next at (get_or s k 0)) ≡ false → Err k ≡ ranked_as A x s
    unfolding ranked_as first_violation
    along_off dead =
        let z : first_violation A at (get_or s k 0 ∷ drop (suc k) s) ≡ 0 = rw dead in
        let o : first_violation A x s ≡ k = is.first_violation_on ∙ ap (λ (l : List ℕ). k + first_violation A at l) rest ∙ omega (arith, z) in
        rw (o, lt-ltb k (length s) hk)

    pub along_step : (f : Found) (q : ℕ) → at < A.states → FoundEvent A (length s - 1 - k) at (get_or s k 0) f → q ≡ min (index + f.before) (2 ^ 64 - 1) → Along A x s (k + 1) f.state q
    unfolding first_violation rank most
    along_step f q here on sum_is_lem =
        let e = get_or s k 0 in
        let r = length s - 1 - k in
        let len : length (drop (suc k) s) ≡ r = length-drop (suc k) s ∙ omega arith in
        let fewer : length s - (k + 1) ≡ r = omega arith in
        let part : f.before ≡ before (λ d. N A r (A.next at d)) A.events e = on.passed in
        let within : before (λ d. N A r (A.next at d)) A.events e + N A r (A.next at e) ≤ sum (λ d. N A r (A.next at d)) A.events = before-room (λ d. N A r (A.next at d)) on.is_event in
        let whole : N A (length s - k) at ≡ sum (λ d. N A r (A.next at d)) A.events = ap (λ (m : ℕ). N A m at) (more_left ∙ add-one r) ∙ N_all A r at here in
        let exact : q ≡ index + f.before = omega (arith, is.room) in
        let one : first_violation A at (e ∷ drop (suc k) s) ≡ suc (first_violation A (A.next at e) (drop (suc k) s)) = rw on.is_live in
        let two : rank A at (e ∷ drop (suc k) s) ≡ f.before + rank A (A.next at e) (drop (suc k) s) =
        ap (λ (m : ℕ). before (λ d. N A m (A.next at d)) A.events e + rank A (A.next at e) (drop (suc k) s)) len ∙ ap (λ (m : ℕ). m + rank A (A.next at e) (drop (suc k) s)) (sym part) in
        let o : first_violation A x s ≡ k + suc (first_violation A (A.next at e) (drop (suc k) s)) = is.first_violation_on ∙ ap (λ (l : List ℕ). k + first_violation A at l) rest ∙ ap (λ (m : ℕ). k + m) one in
        let w : rank A x s ≡ index + (f.before + rank A (A.next at e) (drop (suc k) s)) = is.rank_on ∙ ap (λ (l : List ℕ). index + rank A at l) rest ∙ ap (λ (m : ℕ). index + m) two in
        record {
          first_violation_on = rw (on.leads, add-one k) (omega arith);
          rank_on = rw (on.leads, add-one k) (omega arith);
          room = rw (on.leads, fewer) (omega (arith, is.room));
        }
