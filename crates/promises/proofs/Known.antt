-- Small rigs whose count is known, and what the demands say there of any four calls.
-- Why: a served count of the starred table shows that the text is readable, that the cells suffice, and N. Assumes nothing.
use mathlib.Core.Path.{◌≡◌, refl, ap, ◌∙◌, subst}
use mathlib.Core.Logic.{◌≢◌}
use mathlib.Core.Bool.{Bool, true, false}
use mathlib.Core.Option.{or_else}
use mathlib.Core.List.Memᴰ
use mathlib.Core.List.Memᴰ.{head as here}
use mathlib.Core.List.Memᴰ.{tail as there}
use mathlib.Core.List.{List, [], ◌∷◌, Memᴰ as In}
use Prim.Native.Nat.{ℕ, zero, suc, ◌+◌, ◌*◌, ◌^◌, ◌≤◌, ◌<◌, min}
use native.Mathlib.Omega.{arith}
use native.Mathlib.Nat.{pow-zero, pow-suc}
use lib.ListN.{length, get_or, replicate, length-replicate, get_or-replicate}
use Rattle.lists.specs.Lists.{range, first_of}
use Rattle.lists.proofs.Tests.{case}
use Rattle.lists.proofs.Members.{get_or-in}
use Rattle.lists.proofs.Distinct.{in_place}
use Rattle.automaton.specs.Automaton.{Automaton, stopping, bounded}
use Rattle.automaton.specs.Joint.{both, join, idle, joint, sizes, joint_state}
use Rattle.automaton.specs.Pruning.{keep, pruned_set, size, passes_from, passes, live}
use Rattle.automaton.specs.Counting.{N, most, cell}
use Rattle.automaton.specs.Ranking.{choose, unrank}
use Rattle.automaton.proofs.Counting.{N_dead}
use Rattle.promises.specs.Text.{onto, split_on, init, last_of, lines, unended, fields, digits_value, number, ahead, numbers, same, field, end_or, end, one, two, three, four, one_or_two, any_number, form, decode, mon, go, stop, Line, rig, begins, continues, decoded, add_part, extended, monitors_from, monitors, states_of, start_of, latest, product, events_of, reordered, order_from, order_of, IsMon, joint_states, Case12}
use Rattle.promises.specs.Reading.{leads_to, marks, test_beginning, of_latest, test_continuing, tests, line_case, reading_from, reading}
use Rattle.promises.specs.Rig.{gap_next, reply_next, next_of, marked_of, monitor_of, standing, lines_automaton, lines_start, rig_automaton, start}
use Rattle.promises.specs.Answer.{served, refused, Served}
use Rattle.promises.specs.Calls.{rows, fills, sized_for, total, counted, count, scenarios}
use Rattle.promises.specs.Demand3.{Calls, Whole, Demand}
use Rattle.promises.specs.Demand2.{Endless, Traced, Demand2}
use Rattle.promises.specs.Refusals.{Sized}
use Rattle.promises.specs.Examples.{A, B, A_ordered, closes, one_state, full_cell}
use Rattle.promises.specs.Starred.{lent}
use Rattle.promises.specs.Wrong.{by_number, admitted, without, pass_within, passes_within_from, passes_within}
use Rattle.promises.proofs.Answers.{listed-length, scenario_of, scenario_long, scenarios_served, Told, count-told}
use Rattle.promises.proofs.Buffers.{length_rows, get_or-rows, sized-passed, served-fills}
use Rattle.promises.proofs.Demand2.{total_unsafe, total_traces}
use Rattle.promises.proofs.Starred.{starred}
use Rattle.promises.proofs.Stopping.{without_stop}

-- ---- rigs on which the count is known

-- the text is readable, the buffers are as sized, and N can be told
pub record Known (t : List ℕ) (h n : ℕ) (cells : List ℕ) : Type 0 where
  pub fits : Sized t h cells
  pub some : 1 ≤ n
  pub few : n < most
  pub total_is : total t h ≡ n

pub count-sized : (t : List ℕ) (h : ℕ) (cells : List ℕ) → fills (count t h cells) ≡ true → Sized t h cells
unfolding count
count-sized t h cells f = sized-passed t h cells _ f

pub served-sized : (t : List ℕ) (h : ℕ) (cells : List ℕ) {vs : List ℕ} → count t h cells ≡ served vs → Sized t h cells
unfolding Served
served-sized t h cells {vs} q = count-sized t h cells (served-fills (count t h cells) (vs, q))

pub told : (t : List ℕ) (h : ℕ) (cells : List ℕ) (n p : ℕ) → count t h cells ≡ served (n ∷ p ∷ []) → Told t h n p
told t h cells n p q = let s = served-sized t h cells q in count-told t h cells n p s.readable s.horizon s.room q

pub known : (t : List ℕ) (h : ℕ) (cells : List ℕ) (n p : ℕ) → count t h cells ≡ served (n ∷ p ∷ []) → Known t h n cells
known t h cells n p q = let k = told t h cells n p q in record { fits = served-sized t h cells q; some = k.some; few = k.few; total_is = k.total_is }

pub known_A : Known A 3 5 (lent 8)
known_A = known A 3 (lent 8) 5 1 starred.a_3

pub known_ordered : Known A_ordered 3 5 (lent 8)
known_ordered = known A_ordered 3 (lent 8) 5 1 starred.ordered

pub known_closes : Known closes 1 1 (lent 8)
known_closes = known closes 1 (lent 8) 1 1 starred.closes_1

pub known_B : Known B 1 1 (lent 8)
known_B = known B 1 (lent 8) 1 3 starred.b_1

-- A has no `stop` line
lines-A : decoded A ≡ rig 2 ∷ begins (mon 2 0) ∷ continues (go 0 0 0) ∷ continues (go 0 1 1) ∷ continues (go 1 0 0) ∷ []
unfolding decoded lines split_on onto init decode fields form one two three four one_or_two any_number field end_or end number numbers ahead digits_value same
lines-A = refl

pub endless_A : Endless A
unfolding IsMon monitors monitors_from extended add_part
endless_A =
    without_stop A (record { kind = mon 2 0; parts = go 0 0 0 ∷ go 0 1 1 ∷ go 1 0 0 ∷ [] }) (rw lines-A (here refl)) (2, 0, refl) (λ s i. none s (rw lines-A at i))
  where
    other_line : (s : ℕ) (l : Line) (ls : List Line) → continues (stop s) ≢ l → (In (continues (stop s)) ls → ⊥) → In (continues (stop s)) (l ∷ ls) → ⊥
    other_line s l ls ne rest (here q) = ne q
    other_line s l ls ne rest (there i) = rest i

    none : (s : ℕ) → In (continues (stop s)) (rig 2 ∷ begins (mon 2 0) ∷ continues (go 0 0 0) ∷ continues (go 0 1 1) ∷ continues (go 1 0 0) ∷ []) → ⊥
    none s =
        other_line s _ _ (λ q. let z : ◌≡◌ {A = ℕ} 0 1 = cc in omega arith)
        (other_line s _ _ (λ q. let z : ◌≡◌ {A = ℕ} 0 1 = cc in omega arith)
        (other_line s _ _ (λ q. let z : ◌≡◌ {A = ℕ} 0 1 = cc in omega arith)
        (other_line s _ _ (λ q. let z : ◌≡◌ {A = ℕ} 0 1 = cc in omega arith)
        (other_line s _ _ (λ q. let z : ◌≡◌ {A = ℕ} 0 1 = cc in omega arith)
        Memᴰ.not-nil))))

module _ (t : List ℕ) (h n : ℕ) (cells : List ℕ) (k : Known t h n cells) where
  -- what demand 3 says where n sequences belong
  pub whole : (C : Calls) → Demand C → (L : List (List ℕ)) × (length L ≡ n) × Whole C t h L
  whole C d =
      let (L, once, all) = d.finite t h k.fits.readable k.fits.horizon in
      let e : length L ≡ n = listed-length t h k.fits.readable L once all ∙ k.total_is in
      (L, e, d.whole t h k.fits.readable k.fits.horizon L once all (rw e k.some) (rw e k.few))

  -- what demand 2 says there
  pub traced : Endless t → (C : Calls) → Demand2 C → (Φ : ℕ → Bool) × Traced C t h Φ
  traced e C d =
      let r = k.fits.readable in
      let c7 = k.fits.horizon in
      let (Φ, safe) = d.safe_states t r e in
      let on : Φ (start t) ≡ true = case (Φ (start t)) (λ p. p) (λ p. absurd (let z : total t h ≡ 0 = (total_unsafe t h r e c7 Φ safe).1 p in omega (arith, k.total_is, k.some))) in
      (Φ, (d.traces t h r e c7 Φ safe).safe on (rw (total_traces t h r e c7 Φ safe on, k.total_is) k.few))

  pub some_total : 1 ≤ total t h
  some_total = rw k.total_is k.some

  pub few_total : total t h < most
  few_total = rw k.total_is k.few

  pub scenario_0_long : length (scenario_of t h 0) ≡ h
  scenario_0_long = scenario_long t h k.fits.readable k.fits.horizon some_total few_total 0 some_total

  -- a list of zeros is served
  pub zeros_served : (m : ℕ) (out : List ℕ) → (Case12 h (replicate m 0) out → ⊥) → Served (scenarios t h (replicate m 0) cells out)
  unfolding Served
  zeros_served m out c12 = ([], scenarios_served t h k.fits.readable k.fits.horizon some_total few_total (replicate m 0) cells out k.fits.room c12 below)
    where
      below : (i : ℕ) → In i (replicate m 0) → i < total t h
      below i j = let (p, l, q) = in_place 0 j in omega (arith, some_total, length-replicate {A = ℕ} m 0, get_or-replicate {A = ℕ} m p 0 0 (omega (arith, length-replicate {A = ℕ} m 0)))

-- ---- what the definitions give on these rigs

pub record Values : Type 0 where
  -- A with `ord` 1 0, its events compared by their numbers
  pub numbers_0 : unrank (by_number A_ordered) 3 (start A_ordered) 0 ≡ 0 ∷ 0 ∷ 0 ∷ []
  pub numbers_4 : unrank (by_number A_ordered) 3 (start A_ordered) 4 ≡ 1 ∷ 0 ∷ 1 ∷ []
  pub order_is : order_of (decoded A_ordered) ≡ 1 ∷ 0 ∷ []
  -- `closes` without its mark has no live state; with it, its start is live
  pub unmarked_none : N (stopping (λ x. false) (rig_automaton closes)) 1 (start closes) ≡ 0
  pub closes_live : live (rig_automaton closes) (start closes) ≡ true
  pub one_state_none : count one_state 0 (lent 1) ≡ refused 9 0
  pub B_admitted : admitted (rig_automaton B) 1 (start B) ≡ 2
  pub B_within : passes_within (rig_automaton B) ≡ 2
  -- full_cell: state 0 goes on to itself by one event, state 1 by both; 2 is no state
  pub full_served : count full_cell 0 (lent 2) ≡ served (1 ∷ 1 ∷ [])
  pub full_states : (rig_automaton full_cell).states ≡ 2
  pub full_start : start full_cell ≡ 0
  pub full_events : (rig_automaton full_cell).events ≡ 0 ∷ 1 ∷ []
  pub start_live : live (rig_automaton full_cell) 0 ≡ true
  pub start_0 : (rig_automaton full_cell).next 0 0 ≡ 0
  pub start_1 : (rig_automaton full_cell).next 0 1 ≡ 2
  pub nowhere_dead : live (rig_automaton full_cell) 2 ≡ false
  pub beside_live : live (rig_automaton full_cell) 1 ≡ true
  pub beside_0 : (rig_automaton full_cell).next 1 0 ≡ 1
  pub beside_1 : (rig_automaton full_cell).next 1 1 ≡ 1

pub values : Values
unfolding reading reading_from line_case tests test_beginning test_continuing of_latest first_of leads_to marks or_else decoded lines unended split_on onto init last_of decode fields form one two three four one_or_two any_number field end_or end number numbers ahead digits_value same monitors monitors_from extended add_part latest states_of product events_of order_of order_from reordered start_of joint_states gap_next reply_next next_of marked_of bounded monitor_of standing lines_automaton lines_start rig_automaton start range both join idle joint sizes joint_state keep pruned_set size passes_from passes live N most choose unrank sized_for total counted count admitted without pass_within passes_within_from passes_within
values = record {
  numbers_0 = refl;
  numbers_4 = refl;
  order_is = refl;
  unmarked_none = refl;
  closes_live = refl;
  one_state_none = refl;
  B_admitted = refl;
  B_within = refl;
  full_served = refl;
  full_states = refl;
  full_start = refl;
  full_events = refl;
  start_live = refl;
  start_0 = refl;
  start_1 = refl;
  nowhere_dead = refl;
  beside_live = refl;
  beside_0 = refl;
  beside_1 = refl;
}

-- of two events both lead back to x: 2^r sequences from there; one does: a single sequence
module _ (M : Automaton) (x : ℕ) (l : live M x ≡ true) (es : M.events ≡ 0 ∷ 1 ∷ []) (stay : M.next x 0 ≡ x) where
  N_doubles : M.next x 1 ≡ x → (r : ℕ) → N M r x ≡ 2 ^ r
  unfolding N
  N_doubles q zero = rw (l, pow-zero)
  N_doubles q (suc r) = rw (l, es, stay, q, N_doubles q r, pow-suc) (omega arith)

  N_single : (y : ℕ) → M.next x 1 ≡ y → live M y ≡ false → (r : ℕ) → N M r x ≡ 1
  unfolding N
  N_single y q dead zero = rw l
  N_single y q dead (suc r) = rw (l, es, stay, q, N_single y q dead r, N_dead M r y dead)

-- N is 1 at every horizon
pub full-total : (h : ℕ) → total full_cell h ≡ 1
unfolding total
full-total h = rw values.full_start (N_single (rig_automaton full_cell) 0 values.start_live values.full_events values.start_0 2 values.start_1 values.nowhere_dead h)

-- but at horizon 64 the cell of state 1 is full
pub full-row : In most (rows (rig_automaton full_cell) (64 + 1))
unfolding cell most
full-row = subst (λ v. In v (rows M (64 + 1))) is_full (get_or-in (rows M (64 + 1)) (64 * M.states + 1) 0 (rw (length_rows, values.full_states) (omega arith)))
  where
    M : Automaton
    M = rig_automaton full_cell

    is_full : get_or (rows M (64 + 1)) (64 * M.states + 1) 0 ≡ most
    is_full = get_or-rows M (64 + 1) 64 1 (omega arith) (rw values.full_states (omega arith)) ∙ ap (λ n. min n most) (N_doubles M 1 values.beside_live values.full_events values.beside_0 values.beside_1 64)
