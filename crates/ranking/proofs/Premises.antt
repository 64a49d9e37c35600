-- What a caller has, in the form that the contracts ask for and give. Assumes nothing.
use mathlib.Core.Path.{◌≡◌, sym, ap, ◌∙◌, subst}
use mathlib.Core.Bool.{true}
use mathlib.Core.List.{List, ◌∷◌, ◌++◌}
use Prim.Native.Nat.{ℕ, ◌+◌, ◌-◌, ◌*◌, ◌<◌}
use native.Mathlib.Omega.{arith}
use native.Mathlib.Nat.{zero-add}
use lib.ListN.{length, get_or, take, drop, set}
use Rattle.lists.specs.Lists.{concat_map}
use Rattle.automaton.specs.Automaton.{Automaton}
use Rattle.automaton.specs.Pruning.{live}
use Rattle.automaton.specs.Counting.{N, most}
use Rattle.automaton.specs.Ranking.{unrank}
use Rattle.automaton.proofs.Counting.{N_live}
use Rattle.promises.specs.Calls.{filled}
use Rattle.counting.specs.Tabled.{Tabled, HoldsRow}
use Rattle.ranking.specs.declared.Choice.{Choice}
use Rattle.std.specs.Prelude.{Option, IsSomeAnd}
use Rattle.ranking.specs.Ranks.{HoldsRows, Exact, Chosen, ChosenBy, Unranked, IndicesBelow, with_scenarios}
use Rattle.ranking.proofs.Steps.{chosen_unrank, chosen_least}
use Rattle.ranking.proofs.Rows.{rows_fewer, row_lent, filled-rows, rest_back}
use Rattle.ranking.proofs.Walk.{length-unrank, length_concat_map_sized}

module _ (A : Automaton) where
  -- cells that are filled hold the rows that unranking and ranking read
  filled_holds : (h : ℕ) (cells d : List ℕ) → cells ≡ filled A h d → HoldsRows A 0 h cells
  filled_holds h cells d e = subst (HoldsRows A 0 h) (sym e) (rows_fewer A 0 (filled A h d) h (h + 1) (omega arith) (filled-rows A h d))

  -- cells that are filled, and a count below the limit
  pub filled_exact : (p h x : ℕ) (t cells d : List ℕ) → Tabled A p t → cells ≡ filled A h d → N A h x < most → Exact A p 0 h x t cells
  filled_exact p h x t cells d n e few = record { tabled = n; holds = filled_holds h cells d e; not_cut_off = rw (zero-add h) few }

  -- an index that is below the count falls in the part of an event
  pub step_known : (p b r x i : ℕ) (t cells : List ℕ) → 0 < r → Exact A p b r x t cells → i < N A (b + r) x
      → (o : Option Choice) → ChosenBy t (drop ((r - 1) * p) cells) p x i o → IsSomeAnd o (λ c. Chosen A (b + (r - 1)) x i c)
  step_known p b r x i t cells some exact below o chosen =
      let s : b + r ≡ b + (r - 1) + 1 = omega arith in
      (chosen A (b + (r - 1)) exact.tabled (row_lent A b cells p (r - 1) r exact.tabled.states exact.holds (omega arith))).some
      (subst (λ (n : ℕ). i < N A n x) s below) (subst (λ (n : ℕ). N A n x < most) s exact.not_cut_off)

  -- what is left after a step is exact too
  pub exact_on : (p b r x i : ℕ) (t cells : List ℕ) (c : Choice) → Chosen A (b + r) x i c → {n : ℕ} → i < N A (b + n) x → n ≡ r + 1 → Exact A p b n x t cells → Exact A p b r c.state t cells
  exact_on p b r x i t cells c is {n} below e exact =
      let l : live A x ≡ true = N_live A (b + n) x (omega arith) in
      let s : b + n ≡ b + r + 1 = omega arith in
      record {
        tabled = exact.tabled;
        holds = rows_fewer A b cells r n (omega arith) exact.holds;
        not_cut_off = omega (arith, chosen_least A (b + r) x i c is l, exact.not_cut_off, ap (λ (m : ℕ). N A m x) s);
      }

  -- the step's event is stored, and the rest of the part comes back with what follows it
  pub unranked_step : (b k x i : ℕ) (out : List ℕ) (c : Choice) → Chosen A (b + k) x i c → (last : List ℕ) (s l : ℕ) → length out ≡ k + 1 → i < N A (b + length out) x
      → {m : ℕ} → m ≡ k → Unranked A b m c.state c.left last s l
      → Unranked A b (length out) x i (take 1 (set out 0 c.event) ++ (last ++ drop (length (set out 0 c.event) - 1) (drop 1 (set out 0 c.event)))) s l
  unranked_step b k x i out c is last s l n below {m} q on =
      let more : b + length out ≡ b + k + 1 = omega arith in
      let here : live A x ≡ true = N_live A (b + length out) x (omega arith) in
      record {
        written =
            ap (λ (w : List ℕ). w ++ unrank A b s l) (rest_back out c.event last (omega arith))
            ∙ ap (λ (w : List ℕ). c.event ∷ w) (on.written ∙ ap (λ (j : ℕ). unrank A (b + j) c.state c.left) q) ∙ sym (chosen_unrank A (b + k) x i c is) ∙ ap (λ (m : ℕ). unrank A m x i) (sym more);
        is_below = on.is_below;
        no_more = omega (arith, on.no_more, ap (λ (j : ℕ). N A (b + j) c.state) q, chosen_least A (b + k) x i c is here, ap (λ (j : ℕ). N A j x) more);
      }

  -- of all rows: each stands at its place, and the count is that of all events
  module _ (p n x : ℕ) (t cells : List ℕ) (exact : Exact A p 0 n x t cells) where
    pub whole_row : (r : ℕ) → r < n → HoldsRow A r (drop (r * p) cells)
    whole_row r lt = subst (λ (k : ℕ). HoldsRow A k (drop (r * p) cells)) (zero-add r) (row_lent A 0 cells p r n exact.tabled.states exact.holds lt)

    pub whole_few : N A n x < most
    whole_few = subst (λ (k : ℕ). N A k x < most) (zero-add n) exact.not_cut_off

  -- the scenarios fill as many bytes as they have
  pub served_fresh : (h x : ℕ) (is out : List ℕ) → IndicesBelow (N A h x) is
      → with_scenarios A h x is out ≡ concat_map (unrank A h x) is ++ drop (length (concat_map (unrank A h x) is)) out
  unfolding with_scenarios IndicesBelow
  served_fresh h x is out below =
      ap (λ (n : ℕ). concat_map (unrank A h x) is ++ drop n out)
      (sym (length_concat_map_sized (unrank A h x) h is (λ k lt. length-unrank A h x (get_or is k 0) (below k lt))))
