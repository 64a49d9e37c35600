-- A `reply` monitor admits just the sequences in which every a has its reply or may still have it, and is in its marked state just where none is due.
-- Why: the state counts the steps since an a without reply, so the sentence of u ∷ w in state s is that of w in the next state.
--   Kept late s w      == an a that stood s steps before w has its reply in w; or, where `late`, it is still due
--   Due late s w       == so has the a that the state s tells of, and every a of w
-- With Unit for `late` this is the sentence, with ⊥ it is that none is due. Assumes nothing.
use mathlib.Core.Path.{◌≡◌, refl, sym, ◌∙◌}
use mathlib.Core.Logic.{◌⊎◌, inl, inr, ◌≢◌, ◌↔◌, ⊎_elim, ⊎_map}
use mathlib.Core.Bool.{◌&&◌}
use mathlib.Core.List.{List, [], ◌∷◌}
use Prim.Native.Nat.{ℕ, zero, suc, ◌+◌, ◌≤◌, ◌<◌}
use native.Mathlib.Numerals.{add-one}
use native.Mathlib.Omega.{arith}
use lib.ListN.{drop}
use lib.Dec.{eqb, leb}
use borrow.Author.Tests.{eqb-true, eqb-false, eq-eqb, ne_eqb, leb-true, le-leb}
use Rattle.lists.proofs.Tests.{case, contra, and_left, and_right, and_intro}
use Rattle.automaton.proofs.Sentences.{Steps}
use Rattle.promises.specs.Text.{reply, Part, states_of}
use Rattle.promises.specs.Meaning.{Stands, Answered, StillDue, Replied, NoneDue, Says, Admits, Ends, MayStop}
use Rattle.promises.specs.Rig.{reply_next, next_of, marked_of}
use Rattle.promises.specs.Sentences.{Agrees}
use Rattle.promises.proofs.Agreeing.{ending, agrees}

module _ (a b lo hi : ℕ) where
  -- ---- one event in front

  answered_now : (s u : ℕ) (w : List ℕ) → u ≡ b → lo ≤ s → s ≤ hi → Answered a b lo hi s (u ∷ w)
  unfolding Answered Stands
  answered_now s u w q l h = (0, omega arith, omega arith, q, λ k z. absurd (omega arith))

  answered_later : (s u : ℕ) (w : List ℕ) → ¬ (u ≡ b × lo ≤ s) → Answered a b lo hi s (u ∷ w) ↔ (u ≢ a × Answered a b lo hi (suc s) w)
  unfolding Answered Stands
  answered_later s u w early = (λ p. to p, λ (d, (j, l, h, t, n)). (suc j, omega arith, omega arith, t, before d j n))
    where
      to : Answered a b lo hi s (u ∷ w) → u ≢ a × Answered a b lo hi (suc s) w
      to (zero, l, h, t, n) = absurd (early (t, omega arith))
      to (suc j, l, h, t, n) = (n 0 (omega arith), (j, omega arith, omega arith, t, λ k q. n (suc k) (omega arith)))

      before : u ≢ a → (j : ℕ) → ((k : ℕ) → k < j → ¬ Stands a w k) → (k : ℕ) → k < suc j → ¬ Stands a (u ∷ w) k
      before d j n zero q = d
      before d j n (suc k) q = n k (omega arith)

  due_later : (s u : ℕ) (w : List ℕ) → StillDue a b lo hi s (u ∷ w) ↔ (u ≢ a × StillDue a b lo hi (suc s) w)
  unfolding StillDue Stands
  due_later s u w = (λ (l, n). (n 0, (omega arith, λ k. n (suc k))), λ (d, (l, n)). (omega arith, after d n))
    where
      after : u ≢ a → ((k : ℕ) → ¬ Stands a w k) → (k : ℕ) → ¬ Stands a (u ∷ w) k
      after d n zero = d
      after d n (suc k) = n k

  -- ---- the sentence in a state, and how it steps

  Kept : Type 0 → ℕ → List ℕ → Type 0
  Kept late s w = Answered a b lo hi s w ⊎ (StillDue a b lo hi s w × late)

  Due : Type 0 → ℕ → List ℕ → Type 0
  Due late s w = (0 < s → Kept late s w) × ((i : ℕ) → Stands a w i → Kept late 1 (drop (suc i) w))

  module _ (late : Type 0) where
    kept_later : (s u : ℕ) (w : List ℕ) → ¬ (u ≡ b × lo ≤ s) → Kept late s (u ∷ w) ↔ (u ≢ a × Kept late (suc s) w)
    unfolding Kept
    kept_later s u w early =
        let (at, af) = answered_later s u w early in
        let (dt, df) = due_later s u w in
        (⊎_elim (λ p. ((at p).0, inl (at p).1)) (λ (p, l). ((dt p).0, inr ((dt p).1, l))), λ (d, p). ⊎_map (λ q. af (d, q)) (λ (q, l). (df (d, q), l)) p)

    kept_in_time : (s : ℕ) (w : List ℕ) → Kept late s w → s ≤ hi
    unfolding Kept Answered StillDue
    kept_in_time s w = ⊎_elim (λ (j, l, h, t, n). omega arith) (λ ((l, n), p). omega arith)

    -- every a of u ∷ w: the first event, and those of w
    places : (u : ℕ) (w : List ℕ) → ((i : ℕ) → Stands a (u ∷ w) i → Kept late 1 (drop (suc i) (u ∷ w))) ↔ ((u ≡ a → Kept late 1 w) × ((i : ℕ) → Stands a w i → Kept late 1 (drop (suc i) w)))
    unfolding Stands
    places u w = (λ k. (λ q. k 0 q, λ i t. k (suc i) t), λ (f, k). from f k)
      where
        from : (u ≡ a → Kept late 1 w) → ((i : ℕ) → Stands a w i → Kept late 1 (drop (suc i) w)) → (i : ℕ) → Stands a (u ∷ w) i → Kept late 1 (drop (suc i) (u ∷ w))
        from f k zero q = f q
        from f k (suc i) t = k i t

    step : 0 < lo → lo ≤ hi → a ≢ b → (s u : ℕ) (w : List ℕ) → s < hi + 1
        → Due late s (u ∷ w) ↔ ((reply_next a b lo hi s u < hi + 1) × Due late (reply_next a b lo hi s u) w)
    unfolding Due reply_next
    step pos le ne zero u w h =
        let (to, from) = places u w in
        case (eqb u a)
        (λ t. rw t (
          λ (k, r). let (f, m) = to r in (omega arith, (λ z. f (eqb-true u a t), m)),
          λ (l, (k, m)). (λ z. absurd (omega arith), from (λ q. k (omega arith), m)),
        ))
        (λ t. rw t (
          λ (k, r). (omega arith, (λ z. absurd (omega arith), (to r).1)),
          λ (l, (k, m)). (λ z. absurd (omega arith), from (λ q. absurd (eqb-false u a t q), m)),
        ))
    step pos le ne (suc s) u w h =
        let (to, from) = places u w in
        rw (ne_eqb (suc s) 0 (λ q. omega arith), add-one (suc s)) (
        case (eqb u a)
        (λ t. rw t (
          λ (k, r). absurd (((kept_later (suc s) u w (λ (q, l). ne (sym (eqb-true u a t) ∙ q))).0 (k (omega arith))).0 (eqb-true u a t)),
          λ (l, p). absurd (omega arith),
        ))
        (λ t. rw t (case (eqb u b && leb lo (suc s))
        (λ v. rw v (
          λ (k, r). (omega arith, (λ z. absurd (omega arith), (to r).1)),
          λ (l, (k, m)). (
            λ z. unfold Kept in inl (answered_now (suc s) u w (eqb-true u b (and_left (eqb u b) _ v)) (leb-true lo (suc s) (and_right (eqb u b) _ v)) (omega arith)),
            from (λ q. absurd (eqb-false u a t q), m),
          ),
        ))
        (λ v.
        let (on, off) = kept_later (suc s) u w (λ (q, l). contra (and_intro (eq-eqb u b q) (le-leb lo (suc s) l)) v) in
        rw v (
          λ (k, r). let next = (on (k (omega arith))).1 in (omega (arith, kept_in_time (suc (suc s)) w next), (λ z. next, (to r).1)),
          λ (l, (k, m)). (λ z. off (eqb-false u a t, k (omega arith)), from (λ q. absurd (eqb-false u a t q), m)),
        )))))

  -- ---- the sentence, and where none is due

  says : (ps : List Part) (s : ℕ) (w : List ℕ) → Says (reply a b lo hi) ps s w ↔ Due (Unit {0}) s w
  unfolding Says Due Kept Replied
  says ps s w = (
    λ (k, r). (λ z. ⊎_map (λ q. q) (λ q. (q, tt)) (k z), λ i t. ⊎_map (λ q. q) (λ q. (q, tt)) (r i t)),
    λ (k, r). (λ z. ⊎_map (λ q. q) (λ (q, l). q) (k z), λ i t. ⊎_map (λ q. q) (λ (q, l). q) (r i t)),
  )

  ends : (ps : List Part) (s : ℕ) (w : List ℕ) → Ends (reply a b lo hi) ps s w ↔ Due ⊥ s w
  unfolding Ends Due Kept NoneDue
  ends ps s w = (
    λ (k, r). (λ z. inl (k z), λ i t. inl (r i t)),
    λ (k, r). (λ z. ⊎_elim (λ t. t) (λ (t, l). absurd l) (k z), λ i t. ⊎_elim (λ t. t) (λ (t, l). absurd l) (r i t)),
  )

  -- after nothing, none is due in state 0 alone
  pub marked : (ps : List Part) (s : ℕ) → Ends (reply a b lo hi) ps s [] ↔ (s ≡ 0)
  unfolding Ends NoneDue Answered Stands
  marked ps zero = (λ p. refl, λ q. (λ z. absurd (omega arith), λ i t. absurd t))
  marked ps (suc s) = (λ (k, r). let (j, l, h, t, n) = k (omega arith) in absurd t, λ q. absurd (omega arith))

  module _ (pos : 0 < lo) (le : lo ≤ hi) (ne : a ≢ b) (es : List ℕ) (ps : List Part) where
    pub reply_agrees : Agrees es (record { kind = reply a b lo hi; parts = ps })
    unfolding Steps next_of marked_of states_of Admits MayStop
    reply_agrees =
        agrees es (record { kind = reply a b lo hi; parts = ps })
        (λ s u w h. stepping (Unit {0}) s u w (says ps) (step (Unit {0}) pos le ne s u w h))
        (λ s h. (says ps s []).1 (nothing s h))
        (ending es (record { kind = reply a b lo hi; parts = ps }) (λ s u w h. stepping ⊥ s u w (ends ps) (step ⊥ pos le ne s u w h))
        (λ s h. let (to, from) = marked ps s in (λ q. from (eqb-true s 0 q), λ p. eq-eqb s 0 (to p))))
      where
        -- what is Due in every state steps as it does
        stepping : {Φ : ℕ → List ℕ → Type 0} (late : Type 0) (s u : ℕ) (w : List ℕ) → ((s : ℕ) (w : List ℕ) → Φ s w ↔ Due late s w)
            → Due late s (u ∷ w) ↔ ((reply_next a b lo hi s u < hi + 1) × Due late (reply_next a b lo hi s u) w)
            → Φ s (u ∷ w) ↔ ((reply_next a b lo hi s u < hi + 1) × Φ (reply_next a b lo hi s u) w)
        stepping late s u w same (to, from) = (
          λ p. let (h, d) = to ((same s (u ∷ w)).0 p) in (h, (same (reply_next a b lo hi s u) w).1 d),
          λ (h, d). (same s (u ∷ w)).1 (from (h, (same (reply_next a b lo hi s u) w).0 d)),
        )

        nothing : (s : ℕ) → s < hi + 1 → Due (Unit {0}) s []
        nothing s h = unfold Due Kept StillDue Stands in (λ z. inr ((omega arith, λ k t. t), tt), λ i t. absurd t)
