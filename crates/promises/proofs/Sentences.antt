-- What `gap` and `reply` lines are.
-- Why: each kind's automaton agrees with its sentence, so every monitor of a readable text does; what comes after the place i of a sequence stands i + 1 places later
-- in it; a line's cases are those of its kind. Assumes nothing.
use mathlib.Core.Path.{◌≡◌, refl, sym, ap, ◌∙◌, subst}
use mathlib.Core.Logic.{◌⊎◌, inl, inr, ◌↔◌, ⊎_elim, ⊎_map}
use mathlib.Core.List.Memᴰ.{append_cases as in-append}
use mathlib.Core.List.{List, [], ◌∷◌, ◌++◌, Memᴰ as In}
use mathlib.Core.Option.{some}
use Prim.Native.Nat.{ℕ, zero, suc, ◌+◌, ◌-◌, ◌*◌, ◌≤◌, ◌<◌}
use native.Mathlib.Omega.{arith}
use lib.ListN.{length, drop, length-drop}
use Rattle.automaton.specs.Automaton as automaton
use Rattle.automaton.specs.Automaton.{Automaton, bounded, Over, walk}
use Rattle.automaton.proofs.Joint.{admits-last}
use Rattle.automaton.proofs.Counting.{walk_append, admits_append}
use Rattle.promises.specs.Text.{Kind, gap, reply, Part, go, stop, amp, opens, Line, begins, Monitor, monitors, latest, states_of, start_of, events_of, product, order_of, decoded, Readable, OutOfRange, Equal, beginning, IsMon, cases, Case1, Case2, Case5, Case3, Case16, Case17, Case18, Case4, Case6, AllSound, LineFault, Fault}
use Rattle.promises.specs.Meaning.{Stands, Apart, Answered, StillDue, Replied, Says, Admits, Ends, MayStop, BelowE}
use Rattle.promises.specs.Rig.{monitor_of}
use Rattle.promises.specs.Sentences.{Agrees, RepliedAt, Begins, Continues, OfMon, Sentences}
use Rattle.promises.proofs.Lines.{readable-formed}
use Rattle.promises.proofs.Reading.{bad_line}
use Rattle.promises.proofs.Gap.{free, gap_agrees}
use Rattle.promises.proofs.Reply.{marked, reply_agrees}
use Rattle.promises.proofs.Meaning.{monitor_agrees, over_iff}
use Rattle.promises.proofs.Continuing.{wrong_kind}

-- ---- the sentences in other states

over-append : (es v w : List ℕ) → Over es v → Over es w → Over es (v ++ w)
unfolding Over
over-append es v w a b e i = ⊎_elim (a e) (b e) (in-append v i)

module _ (t : List ℕ) (r : Readable t) (m : Monitor) (i : In m (monitors (decoded t))) where
  agrees : Agrees (order_of (decoded t)) m
  agrees = monitor_agrees _ _ m ((readable-formed t r).monitored.each m i)

  abbrev table : Automaton
  table = monitor_of (order_of (decoded t)) m

  -- in a state, what is said of events is what is admitted
  said : (s : ℕ) (w : List ℕ) → s < table.states → Over (order_of (decoded t)) w → Admits m s w ↔ automaton.Admits table s w
  unfolding monitor_of bounded
  said s w h o = let (to, from) = agrees.admits s w h in (λ p. from (o, p), λ a. (to a).1)

  continued : (s : ℕ) (v w : List ℕ) → s < states_of m.kind → BelowE t v → BelowE t w → Admits m s (v ++ w) ↔ (Admits m s v × Admits m (walk table s v) w)
  continued s v w h b c =
      let a = (over_iff t r v).1 b in
      let o = (over_iff t r w).1 c in
      let start : s < table.states = unfold monitor_of bounded in h in
      let (part, join) = admits_append table s v w in
      let (to, from) = said s v start a in
      let (tos, froms) = said s (v ++ w) start (over-append _ v w a o) in (
        λ p. let (x, y) = part (tos p) in (from x, (said (walk table s v) w (admits-last table s v x) o).1 y),
        λ (p, q). let x = to p in froms (join (x, (said (walk table s v) w (admits-last table s v x) o).0 q)),
      )

  continued_stops : (s : ℕ) (v w : List ℕ) → s < states_of m.kind → BelowE t v → BelowE t w → Admits m s (v ++ w) → MayStop m s (v ++ w) ↔ MayStop m (walk table s v) w
  continued_stops s v w h b c p =
      let start : s < table.states = unfold monitor_of bounded in h in
      let a = (said s (v ++ w) start (over-append _ v w ((over_iff t r v).1 b) ((over_iff t r w).1 c))).0 p in
      let (to, from) = agrees.stops s (v ++ w) a in
      let (tos, froms) = agrees.stops (walk table s v) w ((admits_append table s v w).0 a).1 in
      let q : walk table s (v ++ w) ≡ walk table (walk table s v) w = walk_append table s v w in
      (λ x. tos (ap table.stop (sym q) ∙ from x), λ x. to (ap table.stop q ∙ froms x))

-- ---- the sentences in the start state

gap_plain : (e n : ℕ) (ps : List Part) (w : List ℕ) → Admits (record { kind = gap e n; parts = ps }) (start_of (gap e n)) w ↔ Apart e n w
unfolding Admits Says start_of
gap_plain e n ps w = (λ (b, a). a, λ a. (free e n w, a))

-- what stands after place i
stands_after : (e : ℕ) (w : List ℕ) (i j : ℕ) → Stands e (drop (suc i) w) j ↔ Stands e w (suc (i + j))
unfolding Stands
stands_after e [] i j = (λ t. t, λ t. t)
stands_after e (u ∷ w) zero j = let q : 0 + j ≡ j = omega arith in rw q (λ t. t, λ t. t)
stands_after e (u ∷ w) (suc i) j = let q : suc i + j ≡ suc (i + j) = omega arith in rw q (stands_after e w i j)

stands_below : (e : ℕ) (w : List ℕ) (i : ℕ) → Stands e w i → i < length w
unfolding Stands
stands_below e [] i t = absurd t
stands_below e (u ∷ w) zero t = omega arith
stands_below e (u ∷ w) (suc i) t = omega (arith, stands_below e w i t)

-- a place k after i, counted from what stands there
counted : (i k : ℕ) → i < k → k ≡ suc (i + (k - suc i))
counted i k h = omega arith

module _ (a b lo hi : ℕ) (w : List ℕ) (i : ℕ) where
  answered_at : 1 ≤ lo → Answered a b lo hi 1 (drop (suc i) w) ↔ ((j : ℕ) × (i + lo ≤ j) × (j ≤ i + hi) × Stands b w j × ((k : ℕ) → i < k → k < j → ¬ Stands a w k))
  unfolding Answered
  answered_at pos = (
    λ (j, l, h, t, n). (suc (i + j), omega arith, omega arith, (stands_after b w i j).0 t, λ k x y s. n (k - suc i) (omega arith) ((stands_after a w i (k - suc i)).1 (subst (Stands a w) (counted i k x) s))),
    λ (j, l, h, t, n). from j l h t n,
  )
    where
      from : (j : ℕ) → i + lo ≤ j → j ≤ i + hi → Stands b w j → ((k : ℕ) → i < k → k < j → ¬ Stands a w k) → Answered a b lo hi 1 (drop (suc i) w)
      from j l h t n =
          let q : j ≡ suc (i + (j - suc i)) = counted i j (omega arith) in
          (j - suc i, omega arith, omega arith, (stands_after b w i (j - suc i)).1 (subst (Stands b w) q t), λ k y s. n (suc (i + k)) (omega arith) (omega arith) ((stands_after a w i k).0 s))

  due_at : i < length w → StillDue a b lo hi 1 (drop (suc i) w) ↔ ((length w ≤ i + hi) × ((k : ℕ) → i < k → ¬ Stands a w k))
  unfolding StillDue
  due_at below =
      let q : length (drop (suc i) w) ≡ length w - suc i = length-drop (suc i) w in (
        λ (l, n). (omega arith, λ k x s. n (k - suc i) ((stands_after a w i (k - suc i)).1 (subst (Stands a w) (counted i k x) s))),
        λ (l, n). (omega arith, λ k s. n (suc (i + k)) (omega arith) ((stands_after a w i k).0 s)),
      )

reply_plain : (a b lo hi : ℕ) (ps : List Part) (w : List ℕ) → 1 ≤ lo → Admits (record { kind = reply a b lo hi; parts = ps }) (start_of (reply a b lo hi)) w ↔ RepliedAt a b lo hi w
unfolding Admits Says start_of Replied RepliedAt
reply_plain a b lo hi ps w pos = (
  λ (z, r) i t. ⊎_map (answered_at a b lo hi w i pos).0 (due_at a b lo hi w i (stands_below a w i t)).0 (r i t),
  λ r. (λ z. absurd (omega arith), λ i t. ⊎_map (answered_at a b lo hi w i pos).1 (due_at a b lo hi w i (stands_below a w i t)).1 (r i t)),
)

-- ---- refusals

-- a line that begins a monitor
module _ (t : List ℕ) (front : List Line) (k : Kind) (z : Begins t front k) where
  bad : (n : ℕ) → LineFault front (begins k) n → Fault t n (suc (length front))
  bad n f = bad_line t front (begins k) z.back n z.short z.lines_are z.sound f

  out_of_range : OutOfRange (events_of front) k ⊎ (4 ≤ length (monitors front)) → Fault t 3 (suc (length front))
  unfolding LineFault Case2 Case5 Case3 cases beginning
  out_of_range o = bad 3 (inr (λ h. h, inr (z.not_first, inl (o, refl))))

  module _ (ranged : OutOfRange (events_of front) k → ⊥) (few : length (monitors front) < 4) where
    in_range : OutOfRange (events_of front) k ⊎ (4 ≤ length (monitors front)) → ⊥
    in_range (inl o) = ranged o
    in_range (inr h) = omega arith

    equal : Equal k → Fault t 17 (suc (length front))
    unfolding LineFault Case2 Case5 Case3 Case16 Case17 cases beginning
    equal e = bad 17 (inr (λ h. h, inr (z.not_first, inr (in_range, inr (λ (q, s). omega arith, inl ((refl, e), refl))))))

    too_many : (Equal k → ⊥) → 1024 < product (monitors front) * states_of k → Fault t 6 (suc (length front))
    unfolding LineFault Case2 Case5 Case3 Case16 Case17 Case18 Case4 Case6 cases beginning
    too_many e p = bad 6 (inr (λ h. h, inr (z.not_first, inr (in_range, inr (λ (q, s). omega arith, inr (λ (q, s). e s, inr (λ (q, s). omega arith, inr (λ h. h, inl (p, refl)))))))))

not_first : (t : List ℕ) (k : Kind) (back : List Line) → (Case1 t → ⊥) → decoded t ≡ begins k ∷ back → Fault t 5 1
unfolding LineFault Case2 Case5 cases beginning AllSound
not_first t k back short q = bad_line t [] (begins k) back 5 short q tt (inr (λ h. h, inl (refl, refl)))

-- a line of the latest monitor
not_mon : (t : List ℕ) (front : List Line) (p : Part) → OfMon p → Continues t front p → ((m : Monitor) → latest (monitors front) ≡ some m → IsMon m.kind → ⊥) → Fault t 5 (suc (length front))
unfolding OfMon cases
not_mon t front (go s e u) o z isn't = wrong_kind front (go s e u) IsMon _ _ _ refl t z isn't
not_mon t front (stop s) o z isn't = wrong_kind front (stop s) IsMon _ _ _ refl t z isn't
not_mon t front (amp e d) o z isn't = absurd o
not_mon t front (opens e a b) o z isn't = absurd o

pub sentences : Sentences
unfolding MayStop Ends
sentences = record {
  gaps = λ es e n ps. gap_agrees e n es ps;
  replies = λ es a b lo hi ps one le ne. reply_agrees a b lo hi one le ne es ps;
  each = agrees;
  continued = continued;
  continued_stops = continued_stops;
  gap_plain = gap_plain;
  reply_plain = reply_plain;
  gap_marked = λ e n ps s. tt;
  reply_marked = λ a b lo hi ps s. marked a b lo hi ps s;
  not_first = not_first;
  out_of_range = λ t front k z o. out_of_range t front k z (inl o);
  fifth = λ t front k z h. out_of_range t front k z (inr h);
  equal = equal;
  too_many = too_many;
  not_mon = not_mon;
}
