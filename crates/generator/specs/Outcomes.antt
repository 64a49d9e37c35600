-- The answers of the calls in the paper's numbers: 'When an answer is an enum, a definition states this paper's number and values for each of its cases'.
--   count_answer, list_answer, index_answer == what Count, Scenarios and Index answer
--   list_from, index_from                  == what Scenarios and Index answer from row 9 on
--   output_from                           == what Scenarios leaves in its output
-- Assumes nothing.
use Rattle.std.specs.Prelude.{⊤, List, [], ◌∷◌, ℕ, length, Result}
use Rattle.lists.specs.Lists.{concat_map}
use Rattle.automaton.specs.Automaton.{Automaton}
use Rattle.automaton.specs.Counting.{N}
use Rattle.automaton.specs.Ranking.{unrank}
use Rattle.promises.specs.Answer.{Answer}
use Rattle.promises.specs.Calls.{count_rows, indices_row, sequence_row, output_after}
use Rattle.refusal.specs.declared.Refusal.{Refusal}
use Rattle.refusal.specs.Numbers.{answered}
use Rattle.filling.specs.declared.Counted.{Counted}

-- 'Gives N and the passes.'
abbrev pub count_answer : Result Counted Refusal → Answer
count_answer = answered (λ c. c.count ∷ c.passes ∷ [])

abbrev pub list_answer : Result ⊤ Refusal → Answer
list_answer = answered (λ _. [])

-- 'Gives its index.'
abbrev pub index_answer : Result ℕ Refusal → Answer
index_answer = answered (λ i. i ∷ [])

-- ---- once the checks before row 9 are passed, for the automaton A and its start x

abbrev pub list_from : Automaton → ℕ → ℕ → List ℕ → Answer
list_from A h x is = count_rows (N A h x) (indices_row (N A h x) is)

abbrev pub output_from : Automaton → ℕ → ℕ → Answer → List ℕ → List ℕ → List ℕ
output_from A h x a is out = output_after a (concat_map (unrank A h x) is) out

abbrev pub index_from : Automaton → ℕ → List ℕ → Answer
index_from A x s = count_rows (N A (length s) x) (sequence_row A x s)
