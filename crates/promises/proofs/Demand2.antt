-- Demand 2 holds of the four calls.
-- Why: no state of an endless rig may stop, so live is the greatest solution of equation (1), N is ext and unrank is trace (crate automaton); the calls
-- tell N, unrank and rank. Assumes nothing.
use mathlib.Core.Path.{◌≡◌, sym, ap, ◌∙◌, subst}
use mathlib.Core.Logic.{◌⊎◌, inl, inr, ◌↔◌, ⊎_elim}
use mathlib.Core.Bool.{Bool, true, false}
use mathlib.Core.Option.{none, some}
use mathlib.Core.List.{List, [], ◌∷◌}
use Prim.Native.Nat.{ℕ, ◌≤◌, ◌<◌}
use native.Mathlib.Omega.{arith}
use lib.ListN.{length, get_or}
use lib.Dec.{leb}
use borrow.Author.Tests.{leb-true, leb-false}
use Rattle.lists.proofs.Tests.{contra, case, split}
use Rattle.lists.proofs.Tells.{tells_false, tells_le}
use Rattle.lists.proofs.Members.{get_or-in}
use Rattle.automaton.specs.Pruning.{passes, live}
use Rattle.automaton.specs.Counting.{N, most}
use Rattle.automaton.specs.Ranking.{unrank, rank}
use Rattle.automaton.specs.Source000.{Safe, nb_traces, trace}
use Rattle.automaton.proofs.Counting.{N_dead, live_count, scenarios_sound, belongs_iff}
use Rattle.automaton.proofs.Ranking.{rank_unrank, index_belongs}
use Rattle.automaton.proofs.Source000.{live_safe, safe_live, nb_traces_is, trace_unranks, trace_refuses}
use Rattle.automaton.proofs.Shuffle.{rnd_perm_prefix_shuffles}
use Rattle.promises.specs.Answer.{Answer, served, refused, Served, SaysNone}
use Rattle.promises.specs.Text.{decoded, events_of, Readable, Case7, Case8, Case12, Case13}
use Rattle.promises.specs.Rig.{rig_automaton, start}
use Rattle.promises.specs.Calls.{unless_at, total, count, scenarios, index}
use Rattle.promises.specs.Demand2.{Endless, Traced, Traces, Demand2}
use Rattle.promises.specs.Generator.{generator}
use Rattle.promises.proofs.Meaning.{rig_start, endless_never_stops, events_just, events_distinct, events_ordered}
use Rattle.promises.proofs.Checks.{checked_list, counted_most, counted_on, says_none}
use Rattle.promises.proofs.Answers.{count_is, scenarios_is, scenarios_told, served_below, block_written, index_good, index_none, index_of_scenario, served-none, list_none, shuffle-served, output-is}

module _ (t : List ℕ) (h : ℕ) (r : Readable t) (e : Endless t) (c7 : Case7 h → ⊥) (Φ : ℕ → Bool) (safe : Safe (rig_automaton t) Φ) where
  start_safe : Φ (start t) ≡ live (rig_automaton t) (start t)
  start_safe = safe_live (rig_automaton t) Φ (endless_never_stops t r e) safe (start t) (rig_start t r)

  -- there is no scenario exactly where the start is not safe
  pub total_unsafe : (total t h ≡ 0) ↔ (Φ (start t) ≡ false)
  unfolding total
  total_unsafe = (
    λ z. case (Φ (start t)) (λ p. absurd (let l : 0 < N (rig_automaton t) h (start t) = live_count (rig_automaton t) (endless_never_stops t r e) h (start t) (sym start_safe ∙ p) in omega arith)) (λ p. p),
    λ p. N_dead (rig_automaton t) h (start t) (sym start_safe ∙ p),
  )

  unsafe : (a : Answer) → SaysNone a ↔ (total t h ≡ 0) → SaysNone a ↔ (Φ (start t) ≡ false)
  unsafe a e = (λ s. total_unsafe.0 (e.0 s), λ p. e.1 (total_unsafe.1 p))

  module _ (p : Φ (start t) ≡ true) where
    pub total_traces : nb_traces (rig_automaton t) Φ (start t) h ≡ total t h
    unfolding total
    total_traces = nb_traces_is (rig_automaton t) Φ (endless_never_stops t r e) safe (start t) h p (rig_start t r)

    some_scenario : 1 ≤ total t h
    some_scenario = ⊎_elim (λ l. l) (λ l. contra p (total_unsafe.0 (omega arith))) (split 1 (total t h))

    trace_below : (i : ℕ) → i < total t h → trace (rig_automaton t) Φ (start t) i h ≡ some (unrank (rig_automaton t) h (start t) i)
    unfolding total
    trace_below i l = trace_unranks (rig_automaton t) Φ (endless_never_stops t r e) safe (events_distinct t r) (start t) i h p (rig_start t r) l

    trace_beyond : (i : ℕ) → total t h ≤ i → trace (rig_automaton t) Φ (start t) i h ≡ none
    unfolding total
    trace_beyond i l = trace_refuses (rig_automaton t) Φ (endless_never_stops t r e) safe (start t) i h p (rig_start t r) l

    module _ (lt : total t h < most) where
      bounded_by : (is cells out : List ℕ) → (Case8 t h cells → ⊥) → (Case12 h is out → ⊥)
          → ((k : ℕ) × (scenarios t h is cells out ≡ refused 11 k)) ↔ ((n : ℕ) × (n < length is) × (trace (rig_automaton t) Φ (start t) (get_or is n 0) h ≡ none))
      bounded_by is cells out c8 c12 = (λ (k, q). out_of (scenarios_told t h r c7 some_scenario lt is cells out c8 c12) q (checked_list 11 (λ p i. leb (total t h) i) is (served [])), λ (n, l, q). say n l q (checked_list 11 (λ p i. leb (total t h) i) is (served [])))
        where
          out_of : {k : ℕ} → scenarios t h is cells out ≡ unless_at 11 (λ p i. leb (total t h) i) is (served []) → scenarios t h is cells out ≡ refused 11 k
              → ((unless_at 11 (λ p i. leb (total t h) i) is (served []) ≡ served []) × ((k : ℕ) → k < length is → leb (total t h) (get_or is k 0) ≡ false))
              ⊎ ((k : ℕ) × (k < length is) × (unless_at 11 (λ p i. leb (total t h) i) is (served []) ≡ refused 11 k) × (leb (total t h) (get_or is k 0) ≡ true) × ((j : ℕ) → j < k → leb (total t h) (get_or is j 0) ≡ false))
              → (n : ℕ) × (n < length is) × (trace (rig_automaton t) Φ (start t) (get_or is n 0) h ≡ none)
          out_of {k} s q (inl (e, g)) = let w : served [] ≡ refused 11 k = sym e ∙ sym s ∙ q in let z : ◌≡◌ {A = ℕ} 0 1 = cc in absurd (omega arith)
          out_of s q (inr (k, l, e, b, g)) = (k, l, trace_beyond (get_or is k 0) (leb-true (total t h) (get_or is k 0) b))

          say : (n : ℕ) → n < length is → trace (rig_automaton t) Φ (start t) (get_or is n 0) h ≡ none
              → ((unless_at 11 (λ p i. leb (total t h) i) is (served []) ≡ served []) × ((k : ℕ) → k < length is → leb (total t h) (get_or is k 0) ≡ false))
              ⊎ ((k : ℕ) × (k < length is) × (unless_at 11 (λ p i. leb (total t h) i) is (served []) ≡ refused 11 k) × (leb (total t h) (get_or is k 0) ≡ true) × ((j : ℕ) → j < k → leb (total t h) (get_or is j 0) ≡ false))
              → (k : ℕ) × (scenarios t h is cells out ≡ refused 11 k)
          say n l q (inl (e, g)) =
              let b : get_or is n 0 < total t h = leb-false (total t h) (get_or is n 0) (g n l) in
              let w : some (unrank (rig_automaton t) h (start t) (get_or is n 0)) ≡ none = sym (trace_below (get_or is n 0) b) ∙ q in
              let z : ◌≡◌ {A = ℕ} 0 1 = cc in
              absurd (omega arith)
          say n l q (inr (k, m, e, b, g)) = (k, scenarios_told t h r c7 some_scenario lt is cells out c8 c12 ∙ e)

      index_of_trace : (i : ℕ) (w cells : List ℕ) → trace (rig_automaton t) Φ (start t) i h ≡ some w → (Case8 t h cells → ⊥) → index t w cells ≡ served (i ∷ [])
      unfolding total
      index_of_trace i w cells q c8 = ⊎_elim (λ l. let u : none ≡ some w = sym (trace_beyond i l) ∙ q in let z : ◌≡◌ {A = ℕ} 0 1 = cc in absurd (omega arith)) below (split (total t h) i)
        where
          below : i < total t h → index t w cells ≡ served (i ∷ [])
          below l =
              let u : some (unrank (rig_automaton t) h (start t) i) ≡ some w = sym (trace_below i l) ∙ q in
              let e : unrank (rig_automaton t) h (start t) i ≡ w = cc in
              let (long, back) = rank_unrank (rig_automaton t) (events_distinct t r) h (start t) i l in
              let m : length w ≡ h = ap length (sym e) ∙ long in
              let stays = (scenarios_sound (rig_automaton t) h (start t) (unrank (rig_automaton t) h (start t) i) ((belongs_iff (rig_automaton t) h (start t) _).0 (index_belongs (rig_automaton t) h (start t) i l))).1 in
              index_of_scenario t w cells r (λ c. c7 (rw m at c)) (λ c. c8 (rw m at c)) (rw m some_scenario) (rw m lt) (rw e at stays)
              ∙ ap (λ k. served (k ∷ [])) (ap (rank (rig_automaton t) (start t)) (sym e) ∙ back)

  traced_said : Φ (start t) ≡ true → nb_traces (rig_automaton t) Φ (start t) h < most → Traced generator t h Φ
  unfolding generator
  traced_said p lt = record {
    counted = λ cells c8. (passes (rig_automaton t), count_is t h r c7 cells c8 ∙ counted_on t h _ (some_scenario p) below ∙ ap (λ n. served (n ∷ passes (rig_automaton t) ∷ [])) (sym (total_traces p)));
    traced = λ is cells out c8 c12 s n l.
        trace_below p (get_or is n 0) (served_below t h r c7 (some_scenario p) below is cells out c8 c12 s (get_or is n 0) (get_or-in is n 0 l))
        ∙ ap some (sym (block_written t h r c7 (some_scenario p) below is cells out c8 c12 s n l));
    bounded = bounded_by p below;
    indexed = index_of_trace p below;
  }
    where
      below : total t h < most
      below = rw (total_traces p) at lt

  traces_said : Traces generator t h Φ
  unfolding generator Case13
  traces_said = record {
    unsafe_count = λ cells c8. unsafe (count t h cells) (rw (count_is t h r c7 cells c8) (says_none t h _ (served-none _)));
    unsafe_scenarios = λ is cells out c8 c12. unsafe (scenarios t h is cells out) (rw (scenarios_is t h r c7 is cells out c8 c12) (says_none t h _ (list_none t h r c7 is)));
    unsafe_index = λ s cells q c8 c13. unsafe (index t s cells) (subst (λ n. SaysNone (index t s cells) ↔ (total t n ≡ 0)) q (index_none t s cells r (λ c. c7 (rw q at c)) (λ c. c8 (rw q at c)) c13));
    safe = traced_said;
    too_many = λ p le. let le' : most ≤ total t h = rw (total_traces p) at le in (
      λ cells c8. count_is t h r c7 cells c8 ∙ counted_most t h _ le',
      λ is cells out c8 c12. scenarios_is t h r c7 is cells out c8 c12 ∙ counted_most t h _ le',
      λ s cells q c8 c13. index_good t s cells r (λ c. c7 (rw q at c)) (λ c. c8 (rw q at c)) (λ k l. tells_false (tells_le (events_of (decoded t)) (get_or s k 0)) (λ e. c13 k (l, e))) ∙ counted_most t (length s) _ (rw q le'),
    );
  }

-- Demand 2
pub demand_2 : Demand2 generator
unfolding generator Served
demand_2 = record {
  traces = traces_said;
  inputs = events_just;
  compared = events_ordered;
  safe_states = λ t r e. (live (rig_automaton t), live_safe (rig_automaton t) (endless_never_stops t r e));
  permuted = λ n ds scratch out s. (([], shuffle-served n ds scratch out s), output-is n ds scratch out s ∙ sym (rnd_perm_prefix_shuffles ds));
}
