-- The table of refusals holds of the four calls, row by row.
-- Why: the answers are the rows' tests in the table's order; the tests tell the cases, and N tells how many belong. Assumes nothing.
use mathlib.Core.Path.{◌≡◌, ap, ◌∙◌, subst}
use mathlib.Core.Logic.{◌⊎◌, inl, inr, ◌↔◌, ⊎_elim}
use mathlib.Core.Bool.{Bool, true, false}
use mathlib.Core.List.{List, [], Memᴰ as In}
use Prim.Native.Nat.{ℕ, suc, ◌+◌, ◌*◌, ◌≤◌, ◌<◌}
use native.Mathlib.Omega.{arith}
use lib.ListN.{length, get_or, take}
use lib.Seq.{length-take-le, take-take}
use lib.Dec.{leb}
use Rattle.lists.proofs.Tests.{contra, ℕ_trichotomy}
use Rattle.lists.proofs.Tells.{tells_true, tells_false, tells_lt, tells_le, tells_or}
use Rattle.lists.proofs.Distinct.{distinct-length, once-distinct}
use Rattle.automaton.specs.Counting as counting
use Rattle.automaton.specs.Counting.{Stays, most}
use Rattle.automaton.specs.Ranking.{first_violation}
use Rattle.automaton.proofs.Counting.{scenarios_length, scenarios_sound, scenarios_complete, stays_take}
use Rattle.automaton.proofs.Ranking.{first_violation_first}
use Rattle.promises.specs.Answer.{Answer, served, refused}
use Rattle.promises.specs.Text.{decoded, events_of, Readable, Case8, Case8Scratch, Case12, Case12Draws, Case13}
use Rattle.promises.specs.Meaning.{Belongs}
use Rattle.promises.specs.Rig.{rig_automaton, start}
use Rattle.promises.specs.Calls.{unless_at, sized, total, counted, count, scenarios, index, bad_draw, shuffle}
use Rattle.promises.specs.Demand3.{Once}
use Rattle.promises.specs.Refusals.{Sized, EarlyRows, Many, Countable, Refusals}
use Rattle.promises.specs.Generator.{generator}
use Rattle.promises.proofs.Checks.{checked_list, sized_on, sized_for_text, sized_for_7, sized_for_8, counted_none, counted_most, counted_on}
use Rattle.promises.proofs.Answers.{belongs_listed, none_belongs, count_is, scenarios_is, scenarios_told, listed-length, located, index_is, index_good, events_in, start_live}

-- ---- the first bad place, where it is known

first_at : (n : ℕ) (bad : ℕ → ℕ → Bool) (l : List ℕ) (a : Answer) (p : ℕ) → p < length l → bad p (get_or l p 0) ≡ true → ((q : ℕ) → q < p → bad q (get_or l q 0) ≡ false)
    → unless_at n bad l a ≡ refused n p
first_at n bad l a p lt b good = ⊎_elim (λ (q, g). contra b (g p lt)) (λ (k, m, q, c, g). q ∙ ap (refused n) (same k c g (ℕ_trichotomy k p))) (checked_list n bad l a)
  where
    same : (k : ℕ) → bad k (get_or l k 0) ≡ true → ((j : ℕ) → j < k → bad j (get_or l j 0) ≡ false) → (k < p) ⊎ ((k ≡ p) ⊎ (p < k)) → k ≡ p
    same k c g (inl h) = contra c (good k h)
    same k c g (inr (inl h)) = h
    same k c g (inr (inr h)) = contra b (g p h)

-- ---- rows 1 to 8 and 16 to 18

early_rows : (t : List ℕ) (h : ℕ) (cells : List ℕ) (a : Answer) → EarlyRows t h cells (sized t h cells a)
unfolding Case8
early_rows t h cells a = record { text = sized_for_text t (h + 1) h cells a; seven = sized_for_7 t (h + 1) h cells a; eight = sized_for_8 t (h + 1) h cells a }

-- ---- how many belong

many_total : (t : List ℕ) (h : ℕ) → Readable t → Many t h → most ≤ total t h
unfolding Many Once total
many_total t h r (L, once, b, le) =
    omega (arith, distinct-length L (counting.scenarios (rig_automaton t) h (start t)) (once-distinct [] L once) (λ w i. (belongs_listed t h r w).0 (b w i)), scenarios_length (rig_automaton t) h (start t))

module _ (t : List ℕ) (h : ℕ) (cells : List ℕ) (s : Sized t h cells) where
  nothing : ((w : List ℕ) → Belongs t h w → ⊥) → total t h ≡ 0
  nothing f = (none_belongs t h s.readable).1 f

  many : Many t h → most ≤ total t h
  many m = many_total t h s.readable m

  counted_total : (L : List (List ℕ)) → Countable t h L → length L ≡ total t h
  counted_total L c = listed-length t h s.readable L c.all.once c.all.just

-- ---- the place of refusal 14

module _ (t s cells : List ℕ) (z : Sized t (length s) cells) (c13 : (p : ℕ) → Case13 t s p → ⊥) where
  good_events : (k : ℕ) → k < length s → leb (events_of (decoded t)) (get_or s k 0) ≡ false
  unfolding Case13
  good_events k lt = tells_false (tells_le (events_of (decoded t)) (get_or s k 0)) (λ le. c13 k (lt, le))

  index_checked : index t s cells ≡ counted t (length s) (located t s cells z.readable z.horizon z.room)
  index_checked = index_good t s cells z.readable z.horizon z.room good_events

  prefix_stays : (k : ℕ) → k ≤ length s → Belongs t k (take k s) ↔ Stays (rig_automaton t) (start t) (take k s)
  prefix_stays k le =
      let listed = belongs_listed t k z.readable (take k s) in (
        λ b. (scenarios_sound (rig_automaton t) k (start t) (take k s) (listed.0 b)).1,
        λ w. listed.1 (subst (λ n. In (take k s) (counting.scenarios (rig_automaton t) n (start t))) (length-take-le k s le) (scenarios_complete (rig_automaton t) (start t) (take k s) w)),
      )

  module _ (ge : 1 ≤ total t (length s)) (lt : total t (length s) < most) where
    first_violation_is : (p : ℕ) → p < length s → Belongs t p (take p s) → (Belongs t (suc p) (take (suc p) s) → ⊥) → first_violation (rig_automaton t) (start t) s ≡ p
    first_violation_is p below b nb = go (ℕ_trichotomy (first_violation (rig_automaton t) (start t) s) p)
      where
        first : Stays (rig_automaton t) (start t) (take (first_violation (rig_automaton t) (start t) s) s)
            × (first_violation (rig_automaton t) (start t) s < length s → Stays (rig_automaton t) (start t) (take (suc (first_violation (rig_automaton t) (start t) s)) s) → ⊥)
        first = first_violation_first (rig_automaton t) (start t) s (start_live t s cells z.readable z.horizon z.room ge lt) (events_in t z.readable s good_events)

        shorter : (j k : ℕ) → j ≤ k → Stays (rig_automaton t) (start t) (take k s) → Stays (rig_automaton t) (start t) (take j s)
        shorter j k le w = rw (take-take j k s le) at (stays_take (rig_automaton t) (start t) (take k s) j w)

        go : (first_violation (rig_automaton t) (start t) s < p) ⊎ ((first_violation (rig_automaton t) (start t) s ≡ p) ⊎ (p < first_violation (rig_automaton t) (start t) s)) → first_violation (rig_automaton t) (start t) s ≡ p
        go (inl h) = absurd (first.1 (omega arith) (shorter (suc (first_violation (rig_automaton t) (start t) s)) p h ((prefix_stays p (omega arith)).0 b)))
        go (inr (inl h)) = h
        go (inr (inr h)) = absurd (nb ((prefix_stays (suc p) (omega arith)).1 (shorter (suc p) (first_violation (rig_automaton t) (start t) s) h first.0)))

    index_violates : (p : ℕ) → p < length s → Belongs t p (take p s) → (Belongs t (suc p) (take (suc p) s) → ⊥) → index t s cells ≡ refused 14 p
    index_violates p below b nb =
        index_checked ∙ counted_on t (length s) _ ge lt
        ∙ rw (first_violation_is p below b nb, tells_true (tells_lt p (length s)) below)

-- ---- the table

pub refusals : Refusals generator
unfolding generator
refusals = record {
  count_early = λ t h cells. unfold count in early_rows t h cells _;
  scenarios_early = λ t h is cells out. unfold scenarios in early_rows t h cells _;
  index_early = λ t s cells. unfold index in early_rows t (length s) cells _;
  scenarios_12 = λ t h is cells out s c. unfold scenarios Case12 in (sized_on t h cells _ s.readable s.horizon s.room ∙ rw (tells_true (tells_lt (length out) (length is * h)) c));
  index_13 = λ t s cells p z c f. unfold Case13 in (index_is t s cells z.readable z.horizon z.room
      ∙ first_at 13 (λ p e. leb (events_of (decoded t)) e) s _ p c.0 (tells_true (tells_le (events_of (decoded t)) (get_or s p 0)) c.1)
      (λ q lt. tells_false (tells_le (events_of (decoded t)) (get_or s q 0)) (λ le. f q lt (omega (arith, c.0), le))));
  count_9 = λ t h cells s f. count_is t h s.readable s.horizon cells s.room ∙ counted_none t h _ (nothing t h cells s f);
  scenarios_9 = λ t h is cells out s c12 f. scenarios_is t h s.readable s.horizon is cells out s.room c12 ∙ counted_none t h _ (nothing t h cells s f);
  index_9 = λ t s cells z c13 f. index_checked t s cells z c13 ∙ counted_none t (length s) _ (nothing t (length s) cells z f);
  count_10 = λ t h cells s m. count_is t h s.readable s.horizon cells s.room ∙ counted_most t h _ (many t h cells s m);
  scenarios_10 = λ t h is cells out s c12 m. scenarios_is t h s.readable s.horizon is cells out s.room c12 ∙ counted_most t h _ (many t h cells s m);
  index_10 = λ t s cells z c13 m. index_checked t s cells z c13 ∙ counted_most t (length s) _ (many t (length s) cells z m);
  scenarios_11 = λ t h is cells out L p s c12 c lt le f.
      let q : length L ≡ total t h = counted_total t h cells s L c in
      scenarios_told t h s.readable s.horizon (rw q at c.some) (rw q at c.few) is cells out s.room c12
      ∙ first_at 11 (λ p i. leb (total t h) i) is _ p lt (tells_true (tells_le (total t h) (get_or is p 0)) (rw q at le)) (λ j l. tells_false (tells_le (total t h) (get_or is j 0)) (λ e. let b : get_or is j 0 < total t h = rw q at (f j l) in omega arith));
  index_14 = λ t s cells L p z c13 c lt b nb.
      let q : length L ≡ total t (length s) = counted_total t (length s) cells z L c in
      index_violates t s cells z c13 (rw q at c.some) (rw q at c.few) p lt b nb;
  shuffle_8 = λ n ds scratch out c. unfold shuffle Case8Scratch in (rw (tells_true (tells_lt (length scratch) (2 * length ds)) c));
  shuffle_12 = λ n ds scratch out c8 c. unfold shuffle Case8Scratch Case12Draws in (rw (tells_false (tells_lt (length scratch) (2 * length ds)) c8, tells_true (tells_lt (length out) (length ds)) c));
  shuffle_15 = λ n ds scratch out p c8 c12 lt b f. unfold shuffle Case8Scratch Case12Draws bad_draw in (
      rw (tells_false (tells_lt (length scratch) (2 * length ds)) c8, tells_false (tells_lt (length out) (length ds)) c12)
      (first_at 15 (bad_draw n) ds (served []) p lt (tells_true (tells_or (tells_lt (get_or ds p 0) p) (tells_le n (get_or ds p 0))) b)
      (λ q l. tells_false (tells_or (tells_lt (get_or ds q 0) q) (tells_le n (get_or ds q 0))) (⊎_elim (λ h. omega (arith, (f q l).0)) (λ h. omega (arith, (f q l).1))))));
}
