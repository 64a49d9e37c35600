-- The scenario of an index, the index of a scenario, and where a sequence is no scenario. Paper 01, 'Counting and indices'.
--   choose c rest es i   == the event of es that the index i falls in, by the counts c, and `rest` for what is left of i
--   unrank A r x i       == the scenario of index i from x with r events left
--   before c es e        == the counts of the events that stand before e, together
--   rank A x s           == the index of the scenario s from x
--   first_violation A x s == the place of the first event of s that isn't admitted or leads to a state not live; the length of s where there is none
-- Assumes nothing.
use Rattle.std.specs.Prelude.{List, [], ◌∷◌, ℕ, zero, suc, ◌+◌, ◌-◌, length, ltb, eqb}
use Rattle.lists.specs.Lists.{pick}
use Rattle.automaton.specs.Automaton.{Automaton}
use Rattle.automaton.specs.Pruning.{live}
use Rattle.automaton.specs.Counting.{N}

-- 'step over events in order, taking each one's count from i, until i is below the next one's; take that event'
unfoldable pub choose : (ℕ → ℕ) → (ℕ → ℕ → List ℕ) → List ℕ → ℕ → List ℕ
choose c rest [] i = []
choose c rest (e ∷ l) i = pick (ltb i (c e)) (e ∷ rest e i) (choose c rest l (i - c e))

unfoldable pub before : (ℕ → ℕ) → List ℕ → ℕ → ℕ
before c [] e = 0
before c (d ∷ l) e = pick (eqb d e) 0 (c d + before c l e)

module _ (A : Automaton) where
  open A use {events, next}

  -- 'the rest is the scenario of what is left of i with r−1 events'
  unfoldable pub unrank : ℕ → ℕ → ℕ → List ℕ
  unrank zero x i = []
  unrank (suc r) x i = choose (λ e. N A r (next x e)) (λ e j. unrank r (next x e) j) events i

  unfoldable pub rank : ℕ → List ℕ → ℕ
  rank x [] = 0
  rank x (e ∷ s) = before (λ d. N A (length s) (next x d)) events e + rank (next x e) s

  -- refusal 14: 'first event that isn't admitted or leads to a state not live'
  unfoldable pub first_violation : ℕ → List ℕ → ℕ
  first_violation x [] = 0
  first_violation x (e ∷ s) = pick (live A (next x e)) (suc (first_violation (next x e) s)) 0
