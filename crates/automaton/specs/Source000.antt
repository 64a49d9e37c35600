-- Source document 000 in its own words: safe states (definition 3), the scenario generator (4), ext and ξ (5), nb_traces and trace (algorithm 1).
-- The monitor is an automaton; its inputs are the events, compared by their order in the list.
--   f A x u           == the transition function, which is partial
--   Safe A Φ          == Φ is the greatest solution of equation (1)
--   fgen A Φ x u      == the transition function of the scenario generator
--   ext, ξ            == definition 5
--   nb_traces, trace  == algorithm 1, x₀ the initial state; `none` is its error 'index out of bounds'
-- Assumes nothing.
use Rattle.std.specs.Prelude.{◌≡◌, ◌↔◌, Bool, true, ℕ, zero, suc, ◌-◌, ◌<◌, ltb, leb}
use Rattle.std.proofs.Math.Option.{Option, none, some}
use mathlib.Core.List.{List, [], ◌∷◌, Memᴰ as In}
use Rattle.lists.specs.Lists.{pick, any, sum}
use Rattle.automaton.specs.Automaton.{Automaton}
use Rattle.automaton.specs.Ranking.{before}

-- max{u | t u}: the last event, by their order in the list, that passes the test
unfoldable pub greatest : (ℕ → Bool) → List ℕ → ℕ
greatest t [] = 0
greatest t (u ∷ l) = pick (any t l) (greatest t l) u

-- the use of a partial value: 0 where there is none
abbrev pub or_zero : (ℕ → ℕ) → Option ℕ → ℕ
or_zero g none = 0
or_zero g (some y) = g y

abbrev pub restrict : (ℕ → Bool) → Option ℕ → Option ℕ
restrict Φ none = none
restrict Φ (some y) = pick (Φ y) (some y) none

module _ (A : Automaton) where
  open A use {states, events, next}

  unfoldable pub f : ℕ → ℕ → Option ℕ
  f x u = pick (ltb (next x u) states) (some (next x u)) none

  -- the right side of equation (1): 'exists u, x' with x' = f(x, u) and Φ(x')'
  unfoldable pub Goes : (ℕ → Bool) → ℕ → Type 0
  Goes Φ x = (u : ℕ) × (y : ℕ) × In u events × (f x u ≡ some y) × (Φ y ≡ true)

  unfoldable pub Solves : (ℕ → Bool) → Type 0
  Solves Φ = (x : ℕ) → x < states → Φ x ≡ true ↔ Goes Φ x

  -- definition 3
  pub record Safe (Φ : ℕ → Bool) : Type 0 where
    pub solves : Solves Φ
    pub greatest_of : (Ψ : ℕ → Bool) → Solves Ψ → (x : ℕ) → x < states → Ψ x ≡ true → Φ x ≡ true

  module _ (Φ : ℕ → Bool) where
    -- definition 4: 'f(x, u) if f(x, u) is defined and Φ(f(x, u)) = true, and undefined otherwise'
    unfoldable pub fgen : ℕ → ℕ → Option ℕ
    fgen x u = restrict Φ (f x u)

    -- definition 5
    unfoldable pub ext : ℕ → ℕ → ℕ
    ext x zero = 1
    ext x (suc k) = sum (λ u. or_zero (λ y. ext y k) (fgen x u)) events

    -- the sum of ext(fgen(x, û), k) over the û before u
    unfoldable pub ξ : ℕ → ℕ → ℕ → ℕ
    ξ x u k = before (λ v. or_zero (λ y. ext y k) (fgen x v)) events u

    -- algorithm 1, lines 6 to 10
    unfoldable pub nb_traces : ℕ → ℕ → ℕ
    nb_traces x₀ h = ext x₀ h

    -- lines 14 to 19: k events are left, from x, and m is what is left of the index
    unfoldable pub trace_from : ℕ → ℕ → ℕ → List ℕ
    trace_from x zero m = []
    trace_from x (suc k) m =
        let u = greatest (λ u. leb (ξ x u k) m) events in
        u ∷ trace_from (or_zero (λ y. y) (fgen x u)) k (m - ξ x u k)

    -- lines 11 to 13
    unfoldable pub trace : ℕ → ℕ → ℕ → Option (List ℕ)
    trace x₀ i h = pick (leb (nb_traces x₀ h) i) none (some (trace_from x₀ h i))
