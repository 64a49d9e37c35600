-- One step along a scenario, by a row of cells. Why: where the count of a state is no more than the largest number, the cells that its live events lead
-- to are exact, so the counts read are those of the definitions; an event's part of the indices begins at the sum of the counts before it.
-- Assumes nothing.
use mathlib.Core.Path.{◌≡◌, refl, sym, ap, ◌∙◌, subst}
use mathlib.Core.Logic.{◌≢◌}
use mathlib.Core.Bool.{true, false}
use mathlib.Core.List.{List, [], ◌∷◌, Memᴰ as In}
use Prim.Native.Nat.{ℕ, zero, suc, ◌+◌, ◌*◌, ◌/◌, ◌%◌, ◌^◌, ◌-◌, ◌≤◌, ◌<◌, min}
use native.Mathlib.Omega.{arith}
use native.Mathlib.Numerals.{add-one}
use lib.ListN.{length, get_or, take}
use lib.Seq.{get_or-take}
use borrow.Author.Tests.{eq-eqb, ne_eqb}
use Rattle.std.specs.Prelude.{Some, None}
use Rattle.std.proofs.Common.{below_more}
use Rattle.lists.specs.Lists.{sum, Pairwise, more}
use Rattle.lists.proofs.Tests.{case}
use Rattle.lists.proofs.Members.{get_or-in}
use Rattle.lists.proofs.Distinct.{in_place}
use Rattle.automaton.specs.Automaton.{Automaton}
use Rattle.automaton.specs.Pruning.{live}
use Rattle.automaton.specs.Counting.{N, most, cell}
use Rattle.automaton.specs.Ranking.{choose, before, unrank}
use Rattle.automaton.specs.Table.{no_entry, live_events}
use Rattle.automaton.proofs.Counting.{N_step, N_dead}
use Rattle.automaton.proofs.Ranking.{choose-back}
use Rattle.automaton.proofs.Table.{EntryAt, before_live, live_in, live_at, live_events_distinct}
use Rattle.counting.specs.Tabled.{Tabled, HoldsRow}
use Rattle.counting.proofs.Sums.{up_to, up_to_suc, up_to_total, up_to_least, tabled_few, tabled_some, tabled_none, entry_state, beside}
use Rattle.ranking.specs.declared.Choice.{Choice}
use Rattle.ranking.specs.Ranks.{Chosen, ChosenOrNone, FoundOrNot}

-- the counts before the event at place k are those of the k events before it
before_at : (f : ℕ → ℕ) (l : List ℕ) → Pairwise ◌≢◌ l → (k : ℕ) → k < length l → before f l (get_or l k 0) ≡ sum f (take k l)
unfolding before
before_at f [] u k h = absurd (omega arith)
before_at f (d ∷ l) u zero h = rw (eq-eqb d d refl)
before_at f (d ∷ l) (more g u) (suc k) h =
    let lt : k < length l = omega arith in
    rw (ne_eqb d (get_or l k 0) (g (get_or l k 0) (get_or-in l k 0 lt))) (ap (λ (n : ℕ). f d + n) (before_at f l u k lt))

module _ (A : Automaton) (p : ℕ) (t : List ℕ) (tabled : Tabled A p t) (few : p ≤ 1024) (x : ℕ) (hx : x < p) where
  state : x < A.states
  state = let n : A.states ≡ p = tabled.states in omega arith

  -- the counts before the live event at place c
  before_up_to : (r c : ℕ) → c < length (live_events A x) → before (λ d. N A r (A.next x d)) A.events (get_or (live_events A x) c 0) ≡ up_to A r x c
  unfolding up_to
  before_up_to r c h =
      let f : ℕ → ℕ = λ d. N A r (A.next x d) in
      sym (before_live A x f (λ e d. N_dead A r (A.next x e) d) (get_or (live_events A x) c 0) (live_at A x c h).1)
      ∙ before_at f (live_events A x) (live_events_distinct A x tabled.distinct) c h

  -- what is not found among the live events leads to no live state
  pub not_found : (e : ℕ) → ((k : ℕ) → k < length (live_events A x) → get_or (live_events A x) k 0 ≡ e → ⊥) → live A (A.next x e) ≡ false
  not_found e none = case (live A (A.next x e)) (λ l. tabled.only_events x e state (λ i. let (k, lt, q) = in_place 0 (live_in A x i l) in none k lt q)) (λ d. d)

  -- all columns passed, or an empty entry: no live event is left
  pub past_all : (c : ℕ) → 16 ≤ c → length (live_events A x) ≤ c
  past_all c h = omega (arith, tabled_few A p t tabled x)

  pub past_last : (c v : ℕ) → c < 16 → v ≡ get_or t (x * 16 + c) 0 → v ≡ no_entry → length (live_events A x) ≤ c
  unfolding no_entry
  past_last c v hc read q = tabled_none A p t tabled few x c hx hc (sym read ∙ q)

  -- one turn in the code's own values: v is the entry read in column c, with the event e to the state y
  module _ (c v : ℕ) (hc : c < 16) (read : v ≡ get_or t (x * 16 + c) 0) (entered : v ≡ no_entry → ⊥) (e y : ℕ) (event_is : e ≡ v / 1024) (state_is : y ≡ v % 1024) where
    is_entry : EntryAt A x c v
    unfolding no_entry
    is_entry = tabled_some A p t tabled few x c hx hc v read entered

    event : e ≡ get_or (live_events A x) c 0
    event = event_is ∙ is_entry.event_is

    leads : y ≡ A.next x (get_or (live_events A x) c 0)
    leads = state_is ∙ is_entry.state_is

    pub within : y < p
    within = omega (arith, entry_state A p t tabled x c v is_entry)

    module _ (r : ℕ) (cells : List ℕ) (holds : HoldsRow A r cells) (n : ℕ) (count : n ≡ get_or (take p cells) y 0) where
      up_to_next : up_to A r x (c + 1) ≡ up_to A r x c + N A r y
      up_to_next = up_to_suc A r x c is_entry.within ∙ ap (λ (k : ℕ). up_to A r x c + N A r k) (sym leads)

      -- what is read is the event's count
      count_exact : N A (r + 1) x ≤ most → n ≡ N A r y
      unfolding cell
      count_exact le =
          let q : n ≡ min (N A r y) most =
          count ∙ get_or-take p cells y 0 within ∙ ap (λ (k : ℕ). get_or cells k 0) state_is ∙ beside A p t tabled r cells holds x c v is_entry ∙ ap (cell A r) (sym leads) in
          omega (arith, up_to_next, up_to_least A r x (c + 1) state)

      -- stepping over the event
      pub step_over : (left i : ℕ) → N A (r + 1) x ≤ most → left + up_to A r x c ≡ i → n ≤ left → left - n + up_to A r x (c + 1) ≡ i
      step_over left i le s h = omega (arith, up_to_next, count_exact le)

      pub add_on : (sum q : ℕ) → N A (r + 1) x ≤ most → sum ≡ up_to A r x c → q ≡ min (sum + n) (2 ^ 64 - 1) → q ≡ up_to A r x (c + 1)
      unfolding most
      add_on sum q le s e = omega (arith, up_to_next, count_exact le, up_to_least A r x (c + 1) state)

      -- the index is in the event's part: the step that is chosen
      pub choose_here : (left i : ℕ) → (N A (r + 1) x ≤ most → left + up_to A r x c ≡ i) → i ≤ most → left < n
          → ChosenOrNone A r x i (Some (record { event = e; left = left; state = y }))
      choose_here left i so_far small h =
          record {
            some = λ lt exact.
                let at = live_at A x c is_entry.within in
                record {
                  is_event = rw event at.0;
                  leads = leads ∙ ap (A.next x) (sym event);
                  taken_off = rw (event, before_up_to r c is_entry.within) (omega (arith, so_far (omega arith)));
                  is_below = omega (arith, count_exact (omega arith));
                };
            none = λ le. absurd (omega (arith, so_far (omega arith), count_exact (omega arith), up_to_next, up_to_least A r x (c + 1) state));
          }

    -- the event is found: how a scenario goes on with it
    pub found_here : (d r sum : ℕ) → e ≡ d → sum ≡ up_to A r x c → FoundOrNot A r x d (Some (record { before = sum; state = y }))
    found_here d r sum q s =
        let here : get_or (live_events A x) c 0 ≡ d = sym event ∙ q in
        let at = live_at A x c is_entry.within in
        record {
          goes_on = record {
            is_event = subst (λ (k : ℕ). In k A.events) here at.0;
            is_live = subst (λ (k : ℕ). live A (A.next x k) ≡ true) here at.1;
            leads = leads ∙ ap (A.next x) here;
            passed = s ∙ sym (before_up_to r c is_entry.within) ∙ ap (before (λ k. N A r (A.next x k)) A.events) here;
          };
          not_live = tt;
        }

    -- it is none of the events passed
    pub found_later : (d : ℕ) → ((k : ℕ) → k < c → get_or (live_events A x) k 0 ≡ d → ⊥) → (e ≡ d → ⊥) → (k : ℕ) → k < c + 1 → get_or (live_events A x) k 0 ≡ d → ⊥
    found_later d before ne = below_more _ _ before (λ q. ne (event ∙ q))

  module _ (c : ℕ) (past : length (live_events A x) ≤ c) where
    -- the index is in no event's part
    pub choose_none : (r left i : ℕ) → (N A (r + 1) x ≤ most → left + up_to A r x c ≡ i) → ChosenOrNone A r x i None
    choose_none r left i so_far =
        record {
          some = λ lt exact. absurd (omega (arith, so_far (omega arith), up_to_total A r x c state past));
          none = λ le. refl;
        }

    pub found_nowhere : (e r : ℕ) → ((k : ℕ) → k < c → get_or (live_events A x) k 0 ≡ e → ⊥) → FoundOrNot A r x e None
    found_nowhere e r none = record { goes_on = tt; not_live = not_found e (λ k lt. none k (omega arith)) }

-- the scenario goes on from the step that is chosen
module _ (A : Automaton) (r x i : ℕ) (c : Choice) (is : Chosen A r x i c) where
  pub chosen_unrank : unrank A (r + 1) x i ≡ c.event ∷ unrank A r c.state c.left
  unfolding unrank
  chosen_unrank =
      let f : ℕ → ℕ = λ e. N A r (A.next x e) in
      let g : ℕ → ℕ → List ℕ = λ e j. unrank A r (A.next x e) j in
      let below : c.left < N A r (A.next x c.event) = rw is.leads at is.is_below in
      rw add-one
      (ap (choose f g A.events) (sym is.taken_off) ∙ (choose-back f g is.is_event c.left below).0
      ∙ ap (λ (y : ℕ). c.event ∷ unrank A r y c.left) (sym is.leads))

  pub chosen_least : live A x ≡ true → N A r c.state ≤ N A (r + 1) x
  chosen_least l = rw (is.leads, add-one r) (N_step A r x c.event l is.is_event)
