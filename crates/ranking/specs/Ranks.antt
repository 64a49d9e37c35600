-- What unranking and ranking read, and what they tell. Paper 01, 'Counting and indices'.
--   HoldsRows A b n cells             == the cells begin with the n rows from b on
--   Exact A p b n x t cells           == t and the cells are those of A for n events with b left after them, whose count from x is not cut off
--   Chosen A r x i c                  == c is one step of unranking the index i from x, with r events left after it
--   ChosenOrNone A r x i c            == c is that step, or none where the index is not below the count
--   ChosenBy t cells p x i c          == the same, whatever automaton the table and the row of cells are those of
--   FoundEvent A r x e f              == f is how a scenario from x begins with the event e, with r events left after it
--   FoundOrNot A r x e f              == f is that, or none where e isn't admitted or leads to a state not live
--   FoundBy t cells p x e f           == the same, whatever automaton the table and the row of cells are those of
--   Unranked A b n x i a s l          == a is the first n events of the scenario of index i from x; the b events after them are the scenario of index l from s
--   UnrankedBy t cells p x i out a s l == the same for as many events as the output has bytes, whatever automaton the table and the rows are those of
--   WholeBy t cells p x i out a       == a is the scenario of index i from x, of as many events as the output has bytes
--   Begun A x h i at b s l o out      == the first `at` events of the scenario of index i stand from o on, and the rest of it is still to be written
--   ranked_as A x s                    == what is told of the sequence s from x: its index, or the place where it is no scenario
--   RankedBy t cells p x s k          == k is that
--   IndicesBelow n is                 == every index of the list is below n
--   with_scenarios A h x is out        == the output with the scenarios of the indices at its front, one after the other
--   WrittenBy t cells p x h is b a    == a is so made from b, if every index is below the count
--   all_or_place n p                  == nothing to refuse, or the place p where it is one of n
--   ListedBy t cells p x h n is k b a == the same where k refuses nothing; else a is b
-- Assumes nothing.
use Rattle.std.specs.Prelude.{◌≡◌, true, false, ℕ, ◌+◌, ◌*◌, ◌<◌, ◌≤◌, length, get_or, take, drop, ltb, Option, None, Result, Ok, Err, is_ok, IsSomeAnd, IfSome, IfNone}
use mathlib.Core.List.{List, ◌++◌, Memᴰ as In}
use Rattle.lists.specs.Lists.{pick, concat_map}
use Rattle.automaton.specs.Automaton.{Automaton}
use Rattle.automaton.specs.Pruning.{live}
use Rattle.automaton.specs.Counting.{N, most}
use Rattle.automaton.specs.Ranking.{before, unrank, rank, first_violation}
use Rattle.counting.specs.Tabled.{Tabled, HoldsRow, rows_from}
use Rattle.ranking.specs.declared.Choice.{Choice}
use Rattle.ranking.specs.declared.Found.{Found}

unfoldable pub HoldsRows : Automaton → ℕ → ℕ → List ℕ → Type 0
HoldsRows A b n cells = take (n * A.states) cells ≡ rows_from A b n

pub record Exact (A : Automaton) (p b n x : ℕ) (t cells : List ℕ) : Type 0 where
  pub tabled : Tabled A p t
  pub holds : HoldsRows A b n cells
  pub not_cut_off : N A (b + n) x < most

-- ---- one step

-- 'step over events in order, taking each one's count from i, until i is below the next one's; take that event'
pub record Chosen (A : Automaton) (r x i : ℕ) (c : Choice) : Type 0 where
  pub is_event : In c.event A.events
  pub leads : c.state ≡ A.next x c.event
  pub taken_off : before (λ e. N A r (A.next x e)) A.events c.event + c.left ≡ i
  pub is_below : c.left < N A r c.state

pub record ChosenOrNone (A : Automaton) (r x i : ℕ) (c : Option Choice) : Type 0 where
  pub some : i < N A (r + 1) x → N A (r + 1) x < most → IsSomeAnd c (λ d. Chosen A r x i d)
  pub none : N A (r + 1) x ≤ i → c ≡ None

abbrev pub ChosenBy : List ℕ → List ℕ → ℕ → ℕ → ℕ → Option Choice → Type 0
ChosenBy t cells p x i c = (A : Automaton) (r : ℕ) → Tabled A p t → HoldsRow A r cells → ChosenOrNone A r x i c

pub record FoundEvent (A : Automaton) (r x e : ℕ) (f : Found) : Type 0 where
  pub is_event : In e A.events
  pub is_live : live A (A.next x e) ≡ true
  pub leads : f.state ≡ A.next x e
  pub passed : f.before ≡ before (λ d. N A r (A.next x d)) A.events e

-- refusal 14: 'first event that isn't admitted or leads to a state not live'
pub record FoundOrNot (A : Automaton) (r x e : ℕ) (f : Option Found) : Type 0 where
  pub goes_on : IfSome f (λ d. FoundEvent A r x e d)
  pub not_live : IfNone f (live A (A.next x e) ≡ false)

abbrev pub FoundBy : List ℕ → List ℕ → ℕ → ℕ → ℕ → Option Found → Type 0
FoundBy t cells p x e f = (A : Automaton) (r : ℕ) → Tabled A p t → HoldsRow A r cells → N A (r + 1) x < most → FoundOrNot A r x e f

-- ---- whole sequences

pub record Unranked (A : Automaton) (b n x i : ℕ) (after : List ℕ) (s l : ℕ) : Type 0 where
  pub written : after ++ unrank A b s l ≡ unrank A (b + n) x i
  pub is_below : l < N A b s
  pub no_more : N A b s ≤ N A (b + n) x

abbrev pub UnrankedBy : List ℕ → List ℕ → ℕ → ℕ → ℕ → List ℕ → List ℕ → ℕ → ℕ → Type 0
UnrankedBy t cells p x i out after s l =
    (A : Automaton) (b : ℕ) → Exact A p b (length out) x t cells → i < N A (b + length out) x → Unranked A b (length out) x i after s l

abbrev pub WholeBy : List ℕ → List ℕ → ℕ → ℕ → ℕ → List ℕ → List ℕ → Type 0
WholeBy t cells p x i out after =
    (A : Automaton) → Exact A p 0 (length out) x t cells → i < N A (length out) x → after ≡ unrank A (length out) x i

-- the first `at` events stand from o on; the rest, of b events, is the scenario of index l from s
pub record Begun (A : Automaton) (x h i at b s l o : ℕ) (out : List ℕ) : Type 0 where
  pub not_cut_off : N A b s < most
  pub is_below : l < N A b s
  pub written : (j : ℕ) → j < at → get_or out (o + j) 0 ≡ get_or (unrank A h x i) j 0
  pub rest : drop at (unrank A h x i) ≡ unrank A b s l

-- refusal 14: the place is that of the 'first event that isn't admitted or leads to a state not live'
unfoldable pub ranked_as : Automaton → ℕ → List ℕ → Result ℕ ℕ
ranked_as A x s = pick (ltb (first_violation A x s) (length s)) (Err (first_violation A x s)) (Ok (rank A x s))

abbrev pub RankedBy : List ℕ → List ℕ → ℕ → ℕ → List ℕ → Result ℕ ℕ → Type 0
RankedBy t cells p x s k = (A : Automaton) → Exact A p 0 (length s) x t cells → k ≡ ranked_as A x s

-- ---- lists of indices

unfoldable pub IndicesBelow : ℕ → List ℕ → Type 0
IndicesBelow n is = (k : ℕ) → k < length is → get_or is k 0 < n

-- 'Scenario number n of the list fills the h output bytes from n × h.'
unfoldable pub with_scenarios : Automaton → ℕ → ℕ → List ℕ → List ℕ → List ℕ
with_scenarios A h x is out = concat_map (unrank A h x) is ++ drop (length is * h) out

abbrev pub WrittenBy : List ℕ → List ℕ → ℕ → ℕ → ℕ → List ℕ → List ℕ → List ℕ → Type 0
WrittenBy t cells p x h is out after =
    (A : Automaton) → Exact A p 0 h x t cells → IndicesBelow (N A h x) is → after ≡ with_scenarios A h x is out

abbrev pub all_or_place : ℕ → ℕ → Result Unit ℕ
all_or_place n p = pick (ltb p n) (Err p) (Ok tt)

abbrev pub ListedBy : List ℕ → List ℕ → ℕ → ℕ → ℕ → ℕ → List ℕ → Result Unit ℕ → List ℕ → List ℕ → Type 0
ListedBy t cells p x h n is k out after =
    (A : Automaton) → Exact A p 0 h x t cells → n ≡ N A h x → after ≡ pick (is_ok k) (with_scenarios A h x is out) out
