-- The automaton of a monitor agrees with the monitor's sentence where the sentence changes with each event as the state does. Assumes nothing.
--   unbounded es m     == what the kind of m says, not yet bounded
use mathlib.Core.Path.{◌≡◌, sym, ◌∙◌}
use mathlib.Core.Logic.{◌↔◌}
use mathlib.Core.Bool.{true}
use mathlib.Core.List.{List, []}
use Prim.Native.Nat.{ℕ, ◌<◌}
use Rattle.automaton.specs.Automaton as automaton
use Rattle.automaton.specs.Automaton.{Automaton, walk}
use Rattle.automaton.proofs.Joint.{admits-state, admits-last}
use Rattle.automaton.proofs.Sentences.{Steps, says_walk, says_admits, admits-over, bounded_admits, bounded_walk, bounded_stop}
use Rattle.promises.specs.Text.{Monitor, states_of}
use Rattle.promises.specs.Meaning.{Admits, MayStop}
use Rattle.promises.specs.Rig.{next_of, marked_of, monitor_of}
use Rattle.promises.specs.Sentences.{Agrees}

abbrev pub unbounded : List ℕ → Monitor → Automaton
unbounded es m = record { states = states_of m.kind; events = es; next = next_of m.kind m.parts; stop = marked_of m.kind m.parts }

module _ (es : List ℕ) (m : Monitor) where
  -- what is admitted leads to a marked state just where the monitor may stop, if it may stop after nothing just in its marked states
  pub ending : Steps (unbounded es m) (MayStop m) → ((s : ℕ) → s < states_of m.kind → (marked_of m.kind m.parts s ≡ true) ↔ MayStop m s [])
      → (s : ℕ) (w : List ℕ) → automaton.Admits (unbounded es m) s w → (marked_of m.kind m.parts (walk (unbounded es m) s w) ≡ true) ↔ MayStop m s w
  ending steps marked s w a =
      let (to, from) = says_walk (unbounded es m) (MayStop m) steps s w (admits-state (unbounded es m) s w a) in
      let (on, back) = marked (walk (unbounded es m) s w) (admits-last (unbounded es m) s w a) in
      (λ q. (from (a, on q)).1, λ p. back (to (admits-over (unbounded es m) s w a, p)).1)

  pub agrees : Steps (unbounded es m) (Admits m) → ((s : ℕ) → s < states_of m.kind → Admits m s [])
      → ((s : ℕ) (w : List ℕ) → automaton.Admits (unbounded es m) s w → (marked_of m.kind m.parts (walk (unbounded es m) s w) ≡ true) ↔ MayStop m s w) → Agrees es m
  unfolding monitor_of
  agrees steps end stops = record {
    admits = λ s w h.
        let (to, from) = says_admits (unbounded es m) (Admits m) steps end s w h in
        let (less, more) = bounded_admits (unbounded es m) s w in
        (λ a. to (less a), λ p. more (from p));
    stops = λ s w a.
        let b = (bounded_admits (unbounded es m) s w).0 a in
        let q = bounded_stop (unbounded es m) (walk (unbounded es m) s w) (admits-last (unbounded es m) s w b) in
        let (to, from) = stops s w b in
        rw (bounded_walk (unbounded es m) s w b) (λ t. to (sym q ∙ t), λ p. q ∙ from p);
  }
