-- A rig whose states are renumbered has the same scenarios, in the same order.
-- Why: a monitor moves along the renumbered lines just as it did along its own, so the same sequences belong; and their list in order is one. Assumes nothing.
use mathlib.Core.Path.{◌≡◌, refl, sym, ap, ap₂, ◌∙◌, subst, fun_ext}
use mathlib.Core.Logic.{◌⊎◌, inl, inr, ◌↔◌}
use mathlib.Core.List.Memᴰ
use mathlib.Core.List.Memᴰ.{head as here}
use mathlib.Core.List.Memᴰ.{map as map-in}
use mathlib.Core.List.Memᴰ.{tail as there}
use mathlib.Core.List.{List, [], ◌∷◌, map, Memᴰ as In}
use mathlib.Core.Option
use mathlib.Core.Option.{or_else}
use Prim.Native.Nat.{ℕ, ◌<◌}
use native.Mathlib.Omega.{arith}
use lib.IntN.{pos}
use lib.ListN.{length, get_or}
use lib.Dec.{eqb}
use borrow.Author.Tests.{eq-eqb, eqb-true}
use Rattle.lists.specs.Lists.{pick, index_of, first_of, Pairwise}
use Rattle.lists.proofs.Tests.{case}
use Rattle.lists.proofs.Members.{in_map}
use Rattle.lists.proofs.Ordered.{same_ordered}
use Rattle.lists.proofs.Permutations.{permutation_length}
use Rattle.automaton.specs.Counting as counting
use Rattle.automaton.proofs.Counting.{scenarios_ordered}
use Rattle.automaton.proofs.Ranking.{unrank_at}
use Rattle.promises.specs.Answer.{served}
use Rattle.promises.specs.Text.{onto, split_on, init, lines, fields, digits_value, number, ahead, numbers, same, field, end_or, end, one, two, three, four, one_or_two, any_number, form, decode, Kind, mon, gap, reply, bal, day, Part, go, stop, amp, opens, IsBal, Monitor, add_part, extended, monitors_from, monitors, decoded, start_of, events_of, order_of, Readable, Case7, Case8}
use Rattle.promises.specs.Meaning.{Leads, step_in, step_of, HasHours, InHours, OnTime, Says, Ends, Admits, MayStop, BelowE, AllAdmit, AllMayStop, Belongs, Earlier}
use Rattle.promises.specs.Rig.{rig_automaton, start}
use Rattle.promises.specs.Calls.{total, count}
use Rattle.promises.specs.Demand3.{Gives}
use Rattle.promises.specs.Generator.{generator}
use Rattle.promises.specs.Examples.{A_from_1, A_exchanged}
use Rattle.promises.specs.Starts.{renumbered_kind, renumbered_part, renumbered, Renumbered, Starts}
use Rattle.promises.proofs.Meaning.{all, belong_alike, order_permutes, events_ordered}
use Rattle.promises.proofs.Order.{comes_lex, order}
use Rattle.promises.proofs.Answers.{belongs_listed, scenario_of, count-told, same_total, same_count}
use Rattle.promises.proofs.Demand3.{gives_scenario, gives_only}

-- ---- one monitor

module _ (f : ℕ → ℕ) (injective : (s t : ℕ) → f s ≡ f t → s ≡ t) where
  -- a move of the renumbered lines is one of the lines, renumbered
  move_back : (ps : List Part) (s e v : ℕ) → In (go (f s) e v) (map (renumbered_part f) ps) → (t : ℕ) × In (go s e t) ps × (v ≡ f t)
  move_back ps s e v i = let (p, j, q) = in_map (renumbered_part f) ps i in back p j q
    where
      back : (p : Part) → In p ps → go (f s) e v ≡ renumbered_part f p → (t : ℕ) × In (go s e t) ps × (v ≡ f t)
      back (go x y z) j q =
          let q' : go (f s) e v ≡ go (f x) y (f z) = unfold renumbered_part in q in
          let a : x ≡ s = sym (injective s x cc) in
          let b : y ≡ e = cc in
          (z, subst (λ p. In p ps) (ap₂ (λ x y. go x y z) a b) j, cc)
      back (stop x) j q =
          let q' : go (f s) e v ≡ stop (f x) = unfold renumbered_part in q in
          let z : ◌≡◌ {A = ℕ} 0 1 = cc in
          absurd (omega arith)
      back (amp x d) j q =
          let q' : go (f s) e v ≡ amp x d = unfold renumbered_part in q in
          let z : ◌≡◌ {A = ℕ} 0 1 = cc in
          absurd (omega arith)
      back (opens x a b) j q =
          let q' : go (f s) e v ≡ opens x a b = unfold renumbered_part in q in
          let z : ◌≡◌ {A = ℕ} 0 1 = cc in
          absurd (omega arith)

  -- so is a mark
  mark_back : (ps : List Part) (s : ℕ) → In (stop (f s)) (map (renumbered_part f) ps) → In (stop s) ps
  mark_back ps s i = let (p, j, q) = in_map (renumbered_part f) ps i in back p j q
    where
      back : (p : Part) → In p ps → stop (f s) ≡ renumbered_part f p → In (stop s) ps
      back (go x y z) j q =
          let q' : stop (f s) ≡ go (f x) y (f z) = unfold renumbered_part in q in
          let z : ◌≡◌ {A = ℕ} 0 1 = cc in
          absurd (omega arith)
      back (stop x) j q =
          let q' : stop (f s) ≡ stop (f x) = unfold renumbered_part in q in
          subst (λ x. In (stop x) ps) (sym (injective s x cc)) j
      back (amp x d) j q =
          let q' : stop (f s) ≡ amp x d = unfold renumbered_part in q in
          let z : ◌≡◌ {A = ℕ} 0 1 = cc in
          absurd (omega arith)
      back (opens x a b) j q =
          let q' : stop (f s) ≡ opens x a b = unfold renumbered_part in q in
          let z : ◌≡◌ {A = ℕ} 0 1 = cc in
          absurd (omega arith)

  -- and hours
  hours_back : (ps : List Part) (e a b : ℕ) → In (opens e a b) (map (renumbered_part f) ps) → In (opens e a b) ps
  hours_back ps e a b i = let (p, j, q) = in_map (renumbered_part f) ps i in back p j q
    where
      back : (p : Part) → In p ps → opens e a b ≡ renumbered_part f p → In (opens e a b) ps
      back (go x y z) j q =
          let q' : opens e a b ≡ go (f x) y (f z) = unfold renumbered_part in q in
          let z : ◌≡◌ {A = ℕ} 0 1 = cc in
          absurd (omega arith)
      back (stop x) j q =
          let q' : opens e a b ≡ stop (f x) = unfold renumbered_part in q in
          let z : ◌≡◌ {A = ℕ} 0 1 = cc in
          absurd (omega arith)
      back (amp x d) j q =
          let q' : opens e a b ≡ amp x d = unfold renumbered_part in q in
          let z : ◌≡◌ {A = ℕ} 0 1 = cc in
          absurd (omega arith)
      back (opens x y z) j q =
          let q' : opens e a b ≡ opens x y z = unfold renumbered_part in q in
          subst (λ p. In p ps) (sym q') j

  hours_on : (ps : List Part) (e a b : ℕ) → In (opens e a b) ps → In (opens e a b) (map (renumbered_part f) ps)
  unfolding renumbered_part
  hours_on ps e a b i = map-in (renumbered_part f) i

  -- and a step stays as it is
  step_same : (e : ℕ) (ps : List Part) → first_of (step_in e) (map (renumbered_part f) ps) ≡ first_of (step_in e) ps
  unfolding first_of step_in renumbered_part or_else
  step_same e [] = refl
  step_same e (go a b c ∷ ps) = step_same e ps
  step_same e (stop a ∷ ps) = step_same e ps
  step_same e (amp a d ∷ ps) = ap (or_else (step_in e (amp a d))) (step_same e ps)
  step_same e (opens a b c ∷ ps) = step_same e ps

  steps_same : (ps : List Part) → step_of (map (renumbered_part f) ps) ≡ step_of ps
  unfolding step_of
  steps_same ps = fun_ext (λ e. ap (λ o. Option.get_or o (pos 0)) (step_same e ps))

  leads_on : (ps : List Part) (s : ℕ) (w : List ℕ) (u : ℕ) → Leads ps s w u → Leads (map (renumbered_part f) ps) (f s) w (f u)
  unfolding Leads renumbered_part
  leads_on ps s [] u q = ap f q
  leads_on ps s (e ∷ w) u (t, i, a) = (f t, map-in (renumbered_part f) i, leads_on ps t w u a)

  leads_back : (ps : List Part) (s : ℕ) (w : List ℕ) (v : ℕ) → Leads (map (renumbered_part f) ps) (f s) w v → (u : ℕ) × Leads ps s w u × (v ≡ f u)
  unfolding Leads
  leads_back ps s [] v q = (s, refl, sym q)
  leads_back ps s (e ∷ w) v (r, i, a) =
      let (t, j, q) = move_back ps s e r i in
      let (u, b, p) = leads_back ps t w v (rw q at a) in
      (u, (t, j, b), p)

  -- one clause a kind
  says : (w : List ℕ) (k : Kind) (ps : List Part) → Says k ps (start_of k) w ↔ Says (renumbered_kind f k) (map (renumbered_part f) ps) (start_of (renumbered_kind f k)) w
  unfolding Says start_of renumbered_kind
  says w (mon S a) ps = (λ (u, l). (f u, leads_on ps a w u l), λ (v, l). let (u, m, q) = leads_back ps a w v l in (u, m))
  says w (gap e n) ps = (λ p. p, λ p. p)
  says w (reply a b lo hi) ps = (λ p. p, λ p. p)
  says w (bal lo hi) ps = rw (steps_same ps) (λ p. p, λ p. p)
  says w (day T) ps = unfold OnTime HasHours InHours in (
    λ o i e t (a, b, h). let (c, d, k, l, r) = o i e t (a, b, hours_back ps e a b h) in (c, d, hours_on ps e c d k, l, r),
    λ o i e t (a, b, h). let (c, d, k, l, r) = o i e t (a, b, hours_on ps e a b h) in (c, d, hours_back ps e c d k, l, r),
  )

  ends : (w : List ℕ) (k : Kind) (ps : List Part) → Ends k ps (start_of k) w ↔ Ends (renumbered_kind f k) (map (renumbered_part f) ps) (start_of (renumbered_kind f k)) w
  unfolding Ends start_of renumbered_kind renumbered_part
  ends w (mon S a) ps = (
    λ (u, l, i). (f u, leads_on ps a w u l, map-in (renumbered_part f) i),
    λ (v, l, i). let (u, m, q) = leads_back ps a w v l in (u, m, mark_back ps u (rw q at i)),
  )
  ends w (gap e n) ps = (λ p. p, λ p. p)
  ends w (reply a b lo hi) ps = (λ p. p, λ p. p)
  ends w (bal lo hi) ps = (λ p. p, λ p. p)
  ends w (day T) ps = (λ p. p, λ p. p)

-- ---- all monitors

-- what holds of a monitor exactly when it holds of it renumbered, holds of all monitors exactly when it holds of all of them renumbered
all_of : (Q : Monitor → Type 0) → ((f : ℕ → ℕ) → ((s t : ℕ) → f s ≡ f t → s ≡ t) → (m : Monitor) → Q m ↔ Q (renumbered f m))
    → (ms ns : List Monitor) → Renumbered ms ns → ((m : Monitor) → In m ms → Q m) ↔ ((n : Monitor) → In n ns → Q n)
unfolding Renumbered
all_of Q same [] [] r = (λ a. a, λ a. a)
all_of Q same [] (n ∷ ns) r = absurd r
all_of Q same (m ∷ ms) [] r = absurd r
all_of Q same (m ∷ ms) (n ∷ ns) ((f, injective, q), r) =
    let (to, from) = same f injective m in
    let (ts, fs) = all_of Q same ms ns r in
    rw q (λ a. all Q (to (a m (here refl))) (ts (λ k i. a k (there i))), λ a. all Q (from (a (renumbered f m) (here refl))) (fs (λ k i. a k (there i))))

-- ---- the text

module _ (t u : List ℕ) (n : Renumbered (monitors (decoded t)) (monitors (decoded u))) (ev : events_of (decoded t) ≡ events_of (decoded u)) where
  all_admit : (w : List ℕ) → AllAdmit t w ↔ AllAdmit u w
  unfolding BelowE Admits
  all_admit w =
      let (to, from) = all_of (λ m. Admits m (start_of m.kind) w) (λ f i m. says f i w m.kind m.parts) (monitors (decoded t)) (monitors (decoded u)) n in (
        λ a. record { events = rw ev at a.events; each = to a.each },
        λ a. record { events = rw ev a.events; each = from a.each },
      )

  all_may_stop : (w : List ℕ) → AllMayStop t w ↔ AllMayStop u w
  unfolding AllMayStop MayStop
  all_may_stop w = all_of (λ m. MayStop m (start_of m.kind) w) (λ f i m. ends f i w m.kind m.parts) (monitors (decoded t)) (monitors (decoded u)) n

  same_belong : (h : ℕ) (w : List ℕ) → Belongs t h w ↔ Belongs u h w
  same_belong = belong_alike t u all_admit all_may_stop

  module _ (r : Readable t) (s : Readable u) (h : ℕ) where
    counts_same : total t h ≡ total u h
    counts_same = same_total t u h r s (same_belong h)

    module _ (o : order_of (decoded t) ≡ order_of (decoded u)) where
      -- both lists of scenarios are in the order of events
      same_list : counting.scenarios (rig_automaton t) h (start t) ≡ counting.scenarios (rig_automaton u) h (start u)
      unfolding Earlier
      same_list =
          same_ordered (λ v w a b. order.irreflexive t v (order.transitive t v w v (rw comes_lex a) (rw comes_lex b)))
          (scenarios_ordered (rig_automaton t) (Earlier (decoded t)) (events_ordered t r) h (start t))
          (scenarios_ordered (rig_automaton u) (Earlier (decoded t)) (subst (λ es. Pairwise (λ a b. index_of es a < index_of es b) (rig_automaton u).events) (sym o) (events_ordered u s)) h (start u))
          (λ w i. (belongs_listed u h s w).0 ((same_belong h w).0 ((belongs_listed t h r w).1 i)))
          (λ w i. (belongs_listed t h r w).0 ((same_belong h w).1 ((belongs_listed u h s w).1 i)))

      same_scenario : (i : ℕ) → i < total t h → scenario_of t h i ≡ scenario_of u h i
      unfolding total
      same_scenario i l =
          unrank_at (rig_automaton t) h (start t) i l ∙ ap (λ ws. get_or ws i []) same_list ∙ sym (unrank_at (rig_automaton u) h (start u) i (rw (← counts_same) l))

    module _ (c7 : Case7 h → ⊥) (cells : List ℕ) (c8 : Case8 t h cells → ⊥) (m p : ℕ) (q : count t h cells ≡ served (m ∷ p ∷ [])) where
      same_given : order_of (decoded t) ≡ order_of (decoded u) → (i : ℕ) → i < m → (w : List ℕ) → Gives generator t h i w → Gives generator u h i w
      same_given o i l w g =
          let k = count-told t h cells m p r c7 c8 q in
          let e : total u h ≡ m = sym counts_same ∙ k.total_is in
          let lt : i < total t h = rw k.total_is l in
          let v : w ≡ scenario_of u h i = gives_only t h r c7 (rw k.total_is k.some) (rw k.total_is k.few) i w lt g ∙ same_scenario o i lt in
          rw v (gives_scenario u h s c7 (rw e k.some) (rw e k.few) i (rw e l))

-- an order of events tells how many there are
same_events : (t u : List ℕ) → Readable t → Readable u → order_of (decoded t) ≡ order_of (decoded u) → events_of (decoded t) ≡ events_of (decoded u)
same_events t u r s o = sym (permutation_length _ _ (order_permutes t r)) ∙ ap length o ∙ permutation_length _ _ (order_permutes u s)

-- ---- every `mon` from 0

-- the numbers a and 0 exchanged
abbrev exchanged : ℕ → ℕ → ℕ
exchanged a s = pick (eqb s a) 0 (pick (eqb s 0) a s)

exchanged_twice : (a s : ℕ) → exchanged a (exchanged a s) ≡ s
exchanged_twice a s =
    case (eqb s a)
    (λ p. rw p (case (eqb 0 a) (λ q. rw q (eqb-true 0 a q ∙ sym (eqb-true s a p))) (λ q. rw q (sym (eqb-true s a p)))))
    (λ p. case (eqb s 0) (λ q. rw (p, q, eq-eqb a a refl) (sym (eqb-true s 0 q))) (λ q. rw (p, q, p, q)))

exchanged_injective : (a s t : ℕ) → exchanged a s ≡ exchanged a t → s ≡ t
exchanged_injective a s t q = sym (exchanged_twice a s) ∙ ap (exchanged a) q ∙ exchanged_twice a t

start-exchanged : (k : Kind) → (start_of (renumbered_kind (exchanged (start_of k)) k) ≡ 0) ⊎ IsBal (renumbered_kind (exchanged (start_of k)) k)
unfolding start_of renumbered_kind IsBal
start-exchanged (mon S a) = inl (rw (eq-eqb a a refl))
start-exchanged (gap e n) = inl refl
start-exchanged (reply a b lo hi) = inl refl
start-exchanged (bal lo hi) = inr (lo, hi, refl)
start-exchanged (day T) = inl refl

from_0 : (ms : List Monitor) → (ns : List Monitor) × Renumbered ms ns × ((n : Monitor) → In n ns → (start_of n.kind ≡ 0) ⊎ IsBal n.kind)
unfolding Renumbered
from_0 [] = ([], tt, λ n i. absurd (Memᴰ.not-nil i))
from_0 (m ∷ ms) =
    let (ns, r, z) = from_0 ms in
    let f = exchanged (start_of m.kind) in
    (renumbered f m ∷ ns, ((f, exchanged_injective (start_of m.kind), refl), r), each ns z)
  where
    each : (ns : List Monitor) → ((n : Monitor) → In n ns → (start_of n.kind ≡ 0) ⊎ IsBal n.kind) → (n : Monitor) → In n (renumbered (exchanged (start_of m.kind)) m ∷ ns) → (start_of n.kind ≡ 0) ⊎ IsBal n.kind
    each ns z n (here q) = subst (λ n. (start_of n.kind ≡ 0) ⊎ IsBal n.kind) (sym q) (start-exchanged m.kind)
    each ns z n (there i) = z n i

-- ---- two texts

-- the monitors of both, read from their lines
record Lines : Type 0 where
  of_A : monitors (decoded A_from_1) ≡ record { kind = mon 2 1; parts = go 0 0 0 ∷ go 0 1 1 ∷ go 1 0 0 ∷ [] } ∷ []
  of_exchanged : monitors (decoded A_exchanged) ≡ record { kind = mon 2 0; parts = go 1 0 1 ∷ go 1 1 0 ∷ go 0 0 1 ∷ [] } ∷ []

lines_of : Lines
unfolding decoded lines split_on onto init decode fields form one two three four one_or_two any_number field end_or end number numbers ahead digits_value same monitors monitors_from extended add_part
lines_of = record { of_A = refl; of_exchanged = refl }

pub starts : Starts
unfolding Renumbered renumbered_kind renumbered_part
starts = record {
  from_0 = from_0;
  same_belong = same_belong;
  same_count = λ t u r s n ev h c7 cells others c8 d8 m p q. same_count t u h r s (same_belong t u n ev h) c7 cells others c8 d8 m p q;
  same_given = λ t u r s n o h c7 cells c8 m p q i l w. same_given t u n (same_events t u r s o) r s h c7 cells c8 m p q o i l w;
  renumbered_A = rw (lines_of.of_A, lines_of.of_exchanged) ((exchanged 1, exchanged_injective 1, refl), tt);
}
