-- What a `stop` line is, and what it changes.
-- Why: its cases are those of the line; where a run may stop no further event is needed; a monitor has the further lines that the text has, so without a
-- `stop` line no state is marked, and then no joint state may stop. Assumes nothing.
use mathlib.Core.Path.{◌≡◌, refl, ap, subst}
use mathlib.Core.Logic.{◌⊎◌, inl, inr, ◌↔◌, ⊎_elim}
use mathlib.Core.List.Memᴰ
use mathlib.Core.List.Memᴰ.{append_cases as in-append}
use mathlib.Core.List.Memᴰ.{head as here}
use mathlib.Core.List.Memᴰ.{tail as there}
use mathlib.Core.List.{List, [], ◌∷◌, ◌++◌, append-nil, Memᴰ as In}
use mathlib.Core.Option.{some, none-ne-some}
use Prim.Native.Nat.{ℕ, zero, suc, ◌≤◌, ◌<◌}
use native.Mathlib.Omega.{arith}
use lib.ListN.{length}
use Rattle.automaton.specs.Counting.{N}
use Rattle.automaton.proofs.Counting.{live_count, scenarios_sound, stays_live, carried_plain}
use Rattle.automaton.proofs.Ranking.{index_belongs}
use Rattle.promises.specs.Text.{Kind, Part, stop, Line, rig, ord, begins, continues, other, Monitor, extended, monitors_from, monitors, latest, states_of, never, continuing, IsMon, cases, Case1, AllSound, Readable, Fault, decoded}
use Rattle.promises.specs.Meaning.{Ends, MayStop, AllAdmit, AllMayStop, CarriedOn, Belongs}
use Rattle.promises.specs.Rig.{rig_automaton, start}
use Rattle.promises.specs.Demand2.{Endless}
use Rattle.promises.specs.Sentences.{Continues}
use Rattle.promises.specs.Stopping.{Stopping}
use Rattle.promises.proofs.Lines.{in_add_part}
use Rattle.promises.proofs.Continuing.{wrong_kind, out_of_range, given_again}
use Rattle.promises.proofs.Meaning.{text_admits, text_carried, text_belongs, endless_never_stops}
use Rattle.promises.proofs.Answers.{belongs_listed}
use Rattle.promises.proofs.Examples.{words}

-- ---- refusals

abbrev out : ℕ → Monitor → Type 0
out s m = states_of m.kind ≤ s

abbrev given : ℕ → Monitor → Type 0
given s m = In (stop s) m.parts

are : (front : List Line) (s : ℕ) → cases front (continues (stop s)) ≡ continuing front IsMon (out s) never (given s)
unfolding cases
are front s = refl

module _ (t : List ℕ) (front : List Line) (s : ℕ) (back : List Line) (short : Case1 t → ⊥) (q : decoded t ≡ front ++ (continues (stop s) ∷ back)) (sound : AllSound [] front) where
  line : Continues t front (stop s)
  line = record { short = short; back = back; lines_are = q; sound = sound }

  before_mon : monitors front ≡ [] → Fault t 5 (suc (length front))
  unfolding latest
  before_mon none = wrong_kind front (stop s) _ _ _ _ (are front s) t line (λ m last is. none-ne-some m (rw none at last))

  module _ (m : Monitor) (last : latest (monitors front) ≡ some m) (is : IsMon m.kind) where
    not_below_lem : states_of m.kind ≤ s → Fault t 3 (suc (length front))
    not_below_lem h = out_of_range front (stop s) _ _ _ _ (are front s) t line m last is h

    marked_twice : s < states_of m.kind → In (stop s) m.parts → Fault t 4 (suc (length front))
    marked_twice below i = given_again front (stop s) _ _ _ _ (are front s) t line m last is (λ h. omega arith) (λ n h. h) i

-- ---- what belongs

to_stoppable : (t w : List ℕ) → AllAdmit t w → AllMayStop t w → Belongs t (length w) w
unfolding CarriedOn
to_stoppable t w a s = record { long = refl; admitted = a; carried_on = on }
  where
    on : (k : ℕ) → CarriedOn t w k
    on zero = ([], rw append-nil a, inl refl)
    on (suc k) = ([], rw append-nil a, inr (omega arith, rw append-nil s))

-- a further line of a monitor is a line of the text, or it was there before
parts_from : (ms : List Monitor) (ls : List Line) (m : Monitor) (p : Part) → In m (monitors_from ms ls) → In p m.parts → ((k : Monitor) × In k ms × In p k.parts) ⊎ In (continues p) ls
unfolding monitors_from extended
parts_from ms [] m p i j = inl (m, i, j)
parts_from ms (l ∷ ls) m p i j = ⊎_elim (λ (k, a, b). before l k a b) (λ a. inr (there a)) (parts_from (extended ms l) ls m p i j)
  where
    before : (l : Line) (k : Monitor) → In k (extended ms l) → In p k.parts → ((k : Monitor) × In k ms × In p k.parts) ⊎ In (continues p) (l ∷ ls)
    before (rig E) k a b = inl (k, a, b)
    before (ord es) k a b = inl (k, a, b)
    before (begins kind) k a b = ⊎_elim (λ c. inl (k, c, b)) (λ c. absurd (Memᴰ.not-nil (subst (λ k. In p k.parts) (Memᴰ.eq_of_singleton c) b))) (in-append ms a)
    before (continues r) k a b = ⊎_elim (λ c. inl (k, c, b)) (λ (o, e, c, d). latest_has o c (in-append o.parts (subst (λ k. In p k.parts) d b))) (in_add_part r ms k a)
      where
        latest_has : (o : Monitor) → In o ms → In p o.parts ⊎ In p (r ∷ []) → ((k : Monitor) × In k ms × In p k.parts) ⊎ In (continues p) (continues r ∷ ls)
        latest_has o c (inl b) = inl (o, c, b)
        latest_has o c (inr b) = inr (here (ap continues (Memᴰ.eq_of_singleton b)))
    before other k a b = inl (k, a, b)

-- a `mon` without a `stop` line may stop in no state
unmarked : (k : Kind) (ps : List Part) → IsMon k → ((s : ℕ) → In (stop s) ps → ⊥) → (s : ℕ) → Ends k ps s [] → ⊥
unfolding IsMon Ends
unmarked k ps (S, a, q) nowhere s e = let (u, l, i) = subst (λ k. Ends k ps s []) q e in nowhere u i

endless_by_one : (t : List ℕ) (m : Monitor) → In m (monitors (decoded t)) → IsMon m.kind → ((s : ℕ) → In (stop s) m.parts → ⊥) → Endless t
unfolding Endless MayStop
endless_by_one t m i is nowhere = (m, i, λ s l. unmarked m.kind m.parts is nowhere s)

pub without_stop : (t : List ℕ) (m : Monitor) → In m (monitors (decoded t)) → IsMon m.kind → ((s : ℕ) → In (continues (stop s)) (decoded t) → ⊥) → Endless t
unfolding monitors
without_stop t m i is nowhere = endless_by_one t m i is (λ s j. ⊎_elim (λ (k, a, b). Memᴰ.not-nil a) (nowhere s) (parts_from [] (decoded t) m (stop s) i j))

module _ (t : List ℕ) (r : Readable t) (e : Endless t) where
  plain : (w : List ℕ) (k : ℕ) → CarriedOn t w k ↔ ((v : List ℕ) × (length v ≡ k) × AllAdmit t (w ++ v))
  plain w k =
      let (to, from) = carried_plain (rig_automaton t) (endless_never_stops t r e) k (start t) w in (
        λ c. let (v, a, l) = to ((text_carried t r w k).0 c) in (v, l, (text_admits t r (w ++ v)).1 a),
        λ (v, l, a). (text_carried t r w k).1 (from (v, (text_admits t r (w ++ v)).0 a, l)),
      )

  endless_belongs : (h : ℕ) (w : List ℕ) → Belongs t h w ↔ ((length w ≡ h) × AllAdmit t w × ((k : ℕ) → (v : List ℕ) × (length v ≡ k) × AllAdmit t (w ++ v)))
  endless_belongs h w = (
    λ b. (b.long, b.admitted, λ k. (plain w k).0 (b.carried_on k)),
    λ (l, a, c). record { long = l; admitted = a; carried_on = λ k. (plain w k).1 (c k) },
  )

  -- a live start has a scenario of every length
  endless_none : (h k : ℕ) → ((w : List ℕ) → Belongs t h w → ⊥) → (w : List ℕ) → Belongs t k w → ⊥
  endless_none h k none w b =
      let live = stays_live (rig_automaton t) (start t) w (scenarios_sound (rig_automaton t) k (start t) w ((belongs_listed t k r w).0 b)).1 in
      let some : 0 < N (rig_automaton t) h (start t) = live_count (rig_automaton t) (endless_never_stops t r e) h (start t) live in
      none _ ((text_belongs t r h _).1 (index_belongs (rig_automaton t) h (start t) 0 some))

pub stopping : Stopping
stopping = record {
  before_mon = before_mon;
  not_below_lem = not_below_lem;
  marked_twice = marked_twice;
  to_stoppable = to_stoppable;
  endless_by_one = endless_by_one;
  without_stop = without_stop;
  endless_belongs = endless_belongs;
  endless_none = endless_none;
  closes_readable = words.readable_closes;
  closes_at_1 = words.belongs_closes;
  closed_at_2 = words.none_closed;
}
