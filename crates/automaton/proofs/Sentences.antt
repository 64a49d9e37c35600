-- What an automaton admits, said by a sentence: a sentence that changes with each event as the automaton's state does says what is admitted, and a bounded
-- automaton admits what it did without bounds. Assumes nothing.
--   Steps A Φ          == Φ s w, what a sentence says of w in state s, holds of u ∷ w just if u leads to a state in which it holds of w
use mathlib.Core.Path.{◌≡◌, refl, sym, subst}
use mathlib.Core.Logic.{◌↔◌}
use mathlib.Core.Bool.{◌&&◌}
use mathlib.Core.List.Memᴰ
use mathlib.Core.List.Memᴰ.{head as here}
use mathlib.Core.List.Memᴰ.{tail as there}
use mathlib.Core.List.{List, [], ◌∷◌, Memᴰ as In}
use Prim.Native.Nat.{ℕ, ◌<◌}
use native.Mathlib.Omega.{arith}
use lib.Dec.{eqb, ltb}
use borrow.Author.Tests.{eq-eqb, lt-ltb, ltb-true}
use Rattle.lists.specs.Lists.{any}
use Rattle.lists.proofs.Tests.{case, and_right}
use Rattle.lists.proofs.Members.{any_in}
use Rattle.automaton.specs.Automaton.{Automaton, bounded, Over, walk, Admits}
use Rattle.automaton.proofs.Joint.{admits-state, admits-last}

-- ---- events

over_nil : (es : List ℕ) → Over es []
unfolding Over
over_nil es e i = absurd (Memᴰ.not-nil i)

over_cons : (es : List ℕ) (e : ℕ) (s : List ℕ) → Over es (e ∷ s) ↔ (In e es × Over es s)
unfolding Over
over_cons es e s = (λ o. (o e (here refl), λ d i. o d (there i)), λ o. both o)
  where
    both : In e es × Over es s → (d : ℕ) → In d (e ∷ s) → In d es
    both o d (here q) = subst (λ d. In d es) (sym q) o.0
    both o d (there i) = o.1 d i

-- ---- sentences

unfoldable pub Steps : Automaton → (ℕ → List ℕ → Type 0) → Type 0
Steps A Φ = (x e : ℕ) (s : List ℕ) → x < A.states → Φ x (e ∷ s) ↔ ((A.next x e < A.states) × Φ (A.next x e) s)

module _ (A : Automaton) (Φ : ℕ → List ℕ → Type 0) (step : Steps A Φ) where
  -- it holds of a sequence of events just if that is admitted, and leads to a state in which it holds of nothing further
  pub says_walk : (x : ℕ) (s : List ℕ) → x < A.states → (Over A.events s × Φ x s) ↔ (Admits A x s × Φ (walk A x s) [])
  unfolding Steps Admits walk
  says_walk x [] h = (λ p. (h, p.1), λ p. (over_nil A.events, p.1))
  says_walk x (e ∷ s) h = (
    λ (o, p).
        let (i, o') = (over_cons A.events e s).0 o in
        let (k, q) = (step x e s h).0 p in
        let (a, r) = (says_walk (A.next x e) s k).0 (o', q) in
        ((h, i, a), r),
    λ ((l, i, a), r).
        let k = admits-state A (A.next x e) s a in
        let (o, q) = (says_walk (A.next x e) s k).1 (a, r) in
        ((over_cons A.events e s).1 (i, o), (step x e s h).1 (k, q)),
  )

  -- so where it holds of nothing further in every state, it says what is admitted
  pub says_admits : ((x : ℕ) → x < A.states → Φ x []) → (x : ℕ) (s : List ℕ) → x < A.states → Admits A x s ↔ (Over A.events s × Φ x s)
  says_admits end x s h = (λ a. (says_walk x s h).1 (a, end (walk A x s) (admits-last A x s a)), λ p. ((says_walk x s h).0 p).0)

-- what is admitted is made of events
pub admits-over : (A : Automaton) (x : ℕ) (s : List ℕ) → Admits A x s → Over A.events s
unfolding Admits
admits-over A x [] a = over_nil A.events
admits-over A x (e ∷ s) (h, i, a) = (over_cons A.events e s).1 (i, admits-over A (A.next x e) s a)

-- ---- bounds

module _ (A : Automaton) where
  -- from a state on an event, a move to a state is as it was, and no other becomes one
  bounded_next : (x e : ℕ) → x < A.states → In e A.events → A.next x e < A.states → (bounded A).next x e ≡ A.next x e
  unfolding bounded
  bounded_next x e h i k = rw (lt-ltb x A.states h, any_in (eqb e) i (eq-eqb e e refl), lt-ltb (A.next x e) A.states k)

  bounded_state : (x e : ℕ) → (bounded A).next x e < A.states → A.next x e < A.states
  unfolding bounded
  bounded_state x e h =
      case ((ltb x A.states && any (eqb e) A.events) && ltb (A.next x e) A.states)
      (λ p. ltb-true (A.next x e) A.states (and_right (ltb x A.states && any (eqb e) A.events) _ p))
      (λ p. let k : A.states < A.states = rw p at h in absurd (omega arith))

  pub bounded_admits : (x : ℕ) (s : List ℕ) → Admits (bounded A) x s ↔ Admits A x s
  bounded_admits x [] = unfold Admits bounded in (λ h. h, λ h. h)
  bounded_admits x (e ∷ s) = step (bounded_admits (A.next x e) s)
    where
      step : Admits (bounded A) (A.next x e) s ↔ Admits A (A.next x e) s → Admits (bounded A) x (e ∷ s) ↔ Admits A x (e ∷ s)
      step (to, from) = unfold Admits in (λ (h, i, a). on (unfold bounded in h) (unfold bounded in i) a, λ (h, i, a). (unfold bounded in h, unfold bounded in i, rw (bounded_next x e h i (admits-state A (A.next x e) s a)) (from a)))
        where
          on : x < A.states → In e A.events → Admits (bounded A) ((bounded A).next x e) s → (x < A.states) × In e A.events × Admits A (A.next x e) s
          on h i a = (h, i, to (rw (bounded_next x e h i (bounded_state x e (unfold bounded in admits-state (bounded A) ((bounded A).next x e) s a))) at a))

  pub bounded_walk : (x : ℕ) (s : List ℕ) → Admits A x s → walk (bounded A) x s ≡ walk A x s
  unfolding Admits walk
  bounded_walk x [] a = refl
  bounded_walk x (e ∷ s) (h, i, a) = rw (bounded_next x e h i (admits-state A (A.next x e) s a)) (bounded_walk (A.next x e) s a)

  pub bounded_stop : (x : ℕ) → x < A.states → (bounded A).stop x ≡ A.stop x
  unfolding bounded
  bounded_stop x h = rw (lt-ltb x A.states h)
