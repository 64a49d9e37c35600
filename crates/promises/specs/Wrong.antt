-- The wrong generators that paper 01 names, and four for paper 02, each the generator with one answer or output changed, and the demand that rejects each.
--   count_as f, scenarios_as f, written_as f, shuffle_as f, shuffled_as f == the generator, but one call answers or leaves what f says
--   copies_index0, untouched_output, fills_first_only == Scenarios writes something else
--   by_number t, compares_numbers                   == the automaton of t with its events lower first; Scenarios writes what the indices give then, `ord` or not
--   refuses_all n p                                == every call refuses, with n and p
--   drops_endings                                  == Count tells what belongs where no state may stop, marked or not
--   none_by_start                                   == 9 is said by the start: where it is not live
--   none_before_pruning                             == 9 is said by what is admitted, nothing pruned
--   eight_of_cells, eight_of_scratch m                == 8 is said of buffers long enough, up to m beyond what is asked
--   twelve_of_bytes, twelve_of_numbers m              == 12 is
--   ten_of_any_cell                                  == 10 is said where any cell is full
--   admitted A r x, counts_admitted                == how many sequences of r events are admitted from x, nothing pruned; Count tells that
--   passes_as f, last_pass_missing                 == Count tells other passes; one fewer
--   passes_within A, prunes_within                  == the passes, where a pass prunes by its own removals; Count tells them
--   forgets_swaps                                  == Shuffle puts out the draws
--   ignores_draws                                  == Shuffle puts out what the draws 0, 1, 2, … give, whatever the draws
--   PassesTold C                                  == the passes that Count tells are those of the sets
--   Rejected                                      == each wrong generator is rejected
-- Assumes nothing.
use Rattle.std.specs.Prelude.{◌≡◌, Bool, false, not, List, [], ◌∷◌, ℕ, zero, suc, ◌+◌, ◌*◌, ◌-◌, length, take, ltb, leb, eqb}
use Rattle.lists.specs.Lists.{pick, any, sum, count, concat_map, range}
use Rattle.automaton.specs.Automaton.{Automaton, in_order_of, stopping}
use Rattle.automaton.specs.Pruning.{keep, passes, live, LastPass}
use Rattle.automaton.specs.Counting.{N, most}
use Rattle.automaton.specs.Ranking.{unrank}
use Rattle.promises.specs.Answer.{Answer, served, refused, unless}
use Rattle.promises.specs.Text.{events_of, decoded, joint_states}
use Rattle.promises.specs.Rig.{rig_automaton, start}
use Rattle.promises.specs.Calls as calls
use Rattle.promises.specs.Calls.{rows, sized, count_rows, counted, total, total_rows, output_after}
use Rattle.promises.specs.Demand3.{Calls, Whole, Demand}
use Rattle.promises.specs.Demand2.{Demand2}
use Rattle.promises.specs.Refusals.{Sized}
use Rattle.promises.specs.Generator.{generator}
use Rattle.promises.specs.Examples.{B}
use Rattle.promises.specs.Starred.{lent}

-- ---- one change

abbrev pub count_as : (List ℕ → ℕ → List ℕ → Answer) → Calls
count_as f = record {
  count = f;
  scenarios = calls.scenarios;
  written = calls.written;
  index = calls.index;
  shuffle = calls.shuffle;
  shuffled = calls.shuffled;
}

abbrev pub scenarios_as : (List ℕ → ℕ → List ℕ → List ℕ → List ℕ → Answer) → Calls
scenarios_as f = record {
  count = calls.count;
  scenarios = f;
  written = calls.written;
  index = calls.index;
  shuffle = calls.shuffle;
  shuffled = calls.shuffled;
}

abbrev pub written_as : (List ℕ → ℕ → List ℕ → List ℕ → List ℕ → List ℕ) → Calls
written_as f = record {
  count = calls.count;
  scenarios = calls.scenarios;
  written = f;
  index = calls.index;
  shuffle = calls.shuffle;
  shuffled = calls.shuffled;
}

abbrev pub shuffle_as : (ℕ → List ℕ → List ℕ → List ℕ → Answer) → Calls
shuffle_as f = record {
  count = calls.count;
  scenarios = calls.scenarios;
  written = calls.written;
  index = calls.index;
  shuffle = f;
  shuffled = calls.shuffled;
}

abbrev pub shuffled_as : (ℕ → List ℕ → List ℕ → List ℕ → List ℕ) → Calls
shuffled_as f = record {
  count = calls.count;
  scenarios = calls.scenarios;
  written = calls.written;
  index = calls.index;
  shuffle = calls.shuffle;
  shuffled = f;
}

-- ---- what Scenarios writes

-- 'a scenarios call that copies index 0 each time'
unfoldable pub copies_index0 : Calls
copies_index0 = written_as (λ t h is cells out. output_after (calls.scenarios t h is cells out) (concat_map (λ i. unrank (rig_automaton t) h (start t) 0) is) out)

-- 'an untouched output'
unfoldable pub untouched_output : Calls
untouched_output = written_as (λ t h is cells out. out)

-- 'a list filled only in its first scenario'
unfoldable pub fills_first_only : Calls
fills_first_only = written_as (λ t h is cells out. output_after (calls.scenarios t h is cells out) (concat_map (unrank (rig_automaton t) h (start t)) (take 1 is)) out)

-- 02 no. 2, `ord` 'replaces 'lower first' in comparing two events': a generator that compares them by their numbers all the same
abbrev pub by_number : List ℕ → Automaton
by_number t = in_order_of (range (events_of (decoded t))) (rig_automaton t)

unfoldable pub compares_numbers : Calls
compares_numbers = written_as (λ t h is cells out. output_after (calls.scenarios t h is cells out) (concat_map (unrank (by_number t) h (start t)) is) out)

-- ---- refusals

-- 'a generator that refuses all', by whatever number and place
unfoldable pub refuses_all : ℕ → ℕ → Calls
refuses_all n p = record {
  count = λ t h cells. refused n p;
  scenarios = λ t h is cells out. refused n p;
  written = λ t h is cells out. out;
  index = λ t s cells. refused n p;
  shuffle = λ m ds scratch out. refused n p;
  shuffled = λ m ds scratch out. out;
}

-- N with set 0 in place of the live states
unfoldable pub admitted : Automaton → ℕ → ℕ → ℕ
admitted A zero x = pick (ltb x A.states) 1 0
admitted A (suc r) x = pick (ltb x A.states) (sum (λ e. admitted A r (A.next x e)) A.events) 0

-- ''none' said before pruning': 9 is said by what is admitted, the rest by N
unfoldable pub none_before_pruning : Calls
none_before_pruning = count_as (λ t h cells.
    sized t h cells
    (unless 9 0 (eqb (admitted (rig_automaton t) h (start t)) 0)
    (unless 10 0 (leb most (total t h))
    (served (total t h ∷ passes (rig_automaton t) ∷ [])))))

-- '01 has every run go on without end, which drops these scenarios' (02 no. 4)
unfoldable pub drops_endings : Calls
drops_endings = count_as (λ t h cells.
    sized t h cells
    (count_rows (N (stopping (λ x. false) (rig_automaton t)) h (start t))
    (served (N (stopping (λ x. false) (rig_automaton t)) h (start t) ∷ passes (stopping (λ x. false) (rig_automaton t)) ∷ []))))

-- 'A live state may then have no scenario of some length, so 9 depends on the horizon.' (02 no. 4)
unfoldable pub none_by_start : Calls
none_by_start = count_as (λ t h cells.
    sized t h cells
    (unless 9 0 (not (live (rig_automaton t) (start t)))
    (unless 10 0 (leb most (total t h))
    (served (total t h ∷ passes (rig_automaton t) ∷ [])))))

-- 'refusal 8 or 12 said of buffers long enough': `more` elements, and one, are asked for beyond what 01 asks
module _ (more : ℕ) where
  unfoldable pub eight_of_cells : Calls
  eight_of_cells = count_as (λ t h cells. unless 8 0 (leb (length cells) ((h + 1) * joint_states t + more)) (calls.count t h cells))

  unfoldable pub eight_of_scratch : Calls
  eight_of_scratch = shuffle_as (λ n ds scratch out. unless 8 0 (leb (length scratch) (2 * length ds + more)) (calls.shuffle n ds scratch out))

  unfoldable pub twelve_of_bytes : Calls
  twelve_of_bytes = scenarios_as (λ t h is cells out. unless 12 0 (leb (length out) (length is * h + more)) (calls.scenarios t h is cells out))

  unfoldable pub twelve_of_numbers : Calls
  twelve_of_numbers = shuffle_as (λ n ds scratch out. unless 12 0 (leb (length out) (length ds + more)) (calls.shuffle n ds scratch out))

-- 'Refusing 10 because a cell is full that no scenario passes': because any cell is full
unfoldable pub ten_of_any_cell : Calls
ten_of_any_cell = count_as (λ t h cells.
    sized t h cells
    (unless 10 0 (any (eqb most) (rows (rig_automaton t) (h + 1)))
    (total_rows t h)))

-- ---- counts and passes

-- 'Counting whatever is admitted up to h'
unfoldable pub counts_admitted : Calls
counts_admitted = count_as (λ t h cells.
    sized t h cells
    (unless 9 0 (eqb (admitted (rig_automaton t) h (start t)) 0)
    (unless 10 0 (leb most (admitted (rig_automaton t) h (start t)))
    (served (admitted (rig_automaton t) h (start t) ∷ passes (rig_automaton t) ∷ [])))))

-- the generator, but Count tells other passes
abbrev pub passes_as : (Automaton → ℕ) → Calls
passes_as f = count_as (λ t h cells. sized t h cells (counted t h (served (total t h ∷ f (rig_automaton t) ∷ []))))

-- the pass that removes nothing is not counted
unfoldable pub last_pass_missing : Calls
last_pass_missing = passes_as (λ A. passes A - 1)

-- the set S once state n has been looked at, and what a pass leaves that looks at the states below n, the last of them first
unfoldable pub without : Automaton → (ℕ → Bool) → ℕ → ℕ → Bool
without A S n x = pick (eqb x n) (keep A S x) (S x)

unfoldable pub pass_within : Automaton → ℕ → (ℕ → Bool) → ℕ → Bool
pass_within A zero S = S
pass_within A (suc n) S = pass_within A n (without A S n)

-- the passes from the set S on, k of them made
unfoldable pub passes_within_from : Automaton → ℕ → ℕ → (ℕ → Bool) → ℕ
passes_within_from A zero k S = suc k
passes_within_from A (suc fuel) k S =
    pick (eqb (count (pass_within A A.states S) A.states) (count S A.states)) (suc k)
    (passes_within_from A fuel (suc k) (pass_within A A.states S))

unfoldable pub passes_within : Automaton → ℕ
passes_within A = passes_within_from A A.states 0 (λ x. ltb x A.states)

-- 'Pruning within a pass by that pass's own removals, and counting fewer passes'
unfoldable pub prunes_within : Calls
prunes_within = passes_as passes_within

-- ---- the shuffle

-- 'Forgetting that a swapped place can be drawn again': output i is draw i
unfoldable pub forgets_swaps : Calls
forgets_swaps = shuffled_as (λ n ds scratch out. output_after (calls.shuffle n ds scratch out) ds out)

-- a shuffle that gives one order, 0, 1, 2, …, for all draws
unfoldable pub ignores_draws : Calls
ignores_draws = shuffled_as (λ n ds scratch out. calls.shuffled n (range (length ds)) scratch out)

-- ---- what rejects them

-- 'Passes end with the first pass that removes nothing, and that pass is counted.'
unfoldable pub PassesTold : Calls → Type 0
PassesTold C = (t : List ℕ) (h : ℕ) (cells : List ℕ) (n p : ℕ) → C.count t h cells ≡ served (n ∷ p ∷ []) → Sized t h cells → LastPass (rig_automaton t) p

-- 'The contracts reject ..', and the demand named there
pub record Rejected : Type 0 where
  -- 'a scenarios call that copies index 0 each time (demand 3)'
  pub copies_index_0 : Demand copies_index0 → ⊥
  -- 'an untouched output (2)'
  pub untouched_output_lem : Demand2 untouched_output → ⊥
  -- 'a list filled only in its first scenario (2)'
  pub fills_first_only_lem : Demand2 fills_first_only → ⊥
  -- 'so do the claim about indices' (02 no. 2)
  pub compares_numbers_lem : Demand compares_numbers → ⊥
  -- 'a generator that refuses all (3)'
  pub refuses_all_lem : (n p : ℕ) → Demand (refuses_all n p) → ⊥
  -- ''none' said before pruning (3)'
  pub none_before_pruning_lem : Demand none_before_pruning → ⊥
  -- 'drops these scenarios'; '9 depends on the horizon' (02 no. 4)
  pub drops_endings_lem : Demand drops_endings → ⊥
  pub none_by_start_lem : Demand none_by_start → ⊥
  -- 'refusal 8 or 12 said of buffers long enough (3)'
  pub eight_of_cells_lem : (more : ℕ) → Demand (eight_of_cells more) → ⊥
  pub eight_of_scratch_lem : (more : ℕ) → Demand (eight_of_scratch more) → ⊥
  pub twelve_of_bytes_lem : (more : ℕ) → Demand (twelve_of_bytes more) → ⊥
  pub twelve_of_numbers_lem : (more : ℕ) → Demand (twelve_of_numbers more) → ⊥
  -- 'passes not those of the sets (a)': one number has the sentence's property, and the generator tells it
  pub passes_unique : (A : Automaton) (n : ℕ) → LastPass A n → n ≡ passes A
  pub passes_told : PassesTold generator
  pub last_pass_missing_lem : PassesTold last_pass_missing → ⊥
  -- 'Mistakes this bench has a use for knowing': 'Counting whatever is admitted up to h: B at h 1 would give 2.'
  pub would_give_2 : counts_admitted.count B 1 (lent 8) ≡ served (2 ∷ 3 ∷ [])
  pub counts_admitted_lem : Demand counts_admitted → ⊥
  -- 'Refusing 10 because a cell is full that no scenario passes.'
  pub ten_of_any_cell_lem : Demand ten_of_any_cell → ⊥
  -- 'Forgetting that a swapped place can be drawn again: 4 4 4.'
  pub forgets_swaps_2 : Demand2 forgets_swaps → ⊥
  pub forgets_swaps_3 : Demand forgets_swaps → ⊥
  -- 'can't call a sample uniform on 'each once' alone' (02 no. 10): a shuffle that ignores its draws gives each once, and is not fair
  pub each_once : (t : List ℕ) (h : ℕ) (L : List (List ℕ)) → Whole generator t h L → Whole ignores_draws t h L
  pub ignores_draws_lem : Demand ignores_draws → ⊥
  -- 'Pruning within a pass by that pass's own removals, and counting fewer passes.'
  pub prunes_within_lem : PassesTold prunes_within → ⊥
