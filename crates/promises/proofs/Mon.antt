-- A `mon` monitor admits just the sequences that its `go` lines lead along, and may stop just where they lead to a marked state.
-- Why: the lines have at most one move for a state and an event, so the sentence of e ∷ w in state s is that of w in the state that they move to. Assumes nothing.
use mathlib.Core.Path.{◌≡◌, refl, sym, ap, ◌∙◌, subst}
use mathlib.Core.Logic.{◌↔◌}
use mathlib.Core.Option.{Option, none, some, get_or}
use mathlib.Core.List.{List, ◌∷◌, Memᴰ as In}
use Prim.Native.Nat.{ℕ, ◌<◌}
use native.Mathlib.Omega.{arith}
use Rattle.lists.proofs.Tells.{tells_true}
use Rattle.automaton.proofs.Sentences.{Steps}
use Rattle.promises.specs.Text.{mon, Part, go, stop, Monitor, states_of}
use Rattle.promises.specs.Meaning.{Leads, Says, Admits, Ends, MayStop}
use Rattle.promises.specs.Reading.{move_by}
use Rattle.promises.specs.Rig.{next_of, marked_of}
use Rattle.promises.specs.Sentences.{Agrees}
use Rattle.promises.proofs.Lines.{Once, PartRanged, Kept}
use Rattle.promises.proofs.Reading.{moved, moves, tells_marked}
use Rattle.promises.proofs.Agreeing.{ending, agrees}

-- where the lines of a monitor move, they move to one state only
move_is : (E : ℕ) (m : Monitor) → Kept E m → (s e t : ℕ) → In (go s e t) m.parts → move_by m.parts s e ≡ some t
unfolding Once
move_is E m k s e t i = let (u, q) = moves m.parts s e t i in q ∙ ap some (k.move_once s e u t (moved m.parts s e u q) i)

module _ (E S a : ℕ) (ps : List Part) (k : Kept E (record { kind = mon S a; parts = ps })) where
  -- w leads to a state of which Q holds
  abbrev LeadsTo : (ℕ → Type 0) → ℕ → List ℕ → Type 0
  LeadsTo Q s w = (u : ℕ) × Leads ps s w u × Q u

  target_state : (s e t : ℕ) → In (go s e t) ps → t < S
  unfolding PartRanged states_of
  target_state s e t i = (k.parts_ranged (go s e t) i).3

  step : (Q : ℕ → Type 0) (s e : ℕ) (w : List ℕ) → LeadsTo Q s (e ∷ w) ↔ ((get_or (move_by ps s e) S < S) × LeadsTo Q (get_or (move_by ps s e) S) w)
  unfolding Leads
  step Q s e w = (λ (u, (t, i, l), q). along u t i l q, λ (h, (u, l, q)). (u, back (move_by ps s e) refl h u l, q))
    where
      along : (u t : ℕ) → In (go s e t) ps → Leads ps t w u → Q u → (get_or (move_by ps s e) S < S) × LeadsTo Q (get_or (move_by ps s e) S) w
      along u t i l q = rw (move_is E (record { kind = mon S a; parts = ps }) k s e t i) (target_state s e t i, (u, l, q))

      back : (o : Option ℕ) → move_by ps s e ≡ o → get_or (move_by ps s e) S < S → (u : ℕ) → Leads ps (get_or (move_by ps s e) S) w u → (t : ℕ) × In (go s e t) ps × Leads ps t w u
      back none q h u l = let lt : S < S = rw q at h in absurd (omega arith)
      back (some t) q h u l = (t, moved ps s e t q, rw q at l)

  pub mon_agrees : (es : List ℕ) → Agrees es (record { kind = mon S a; parts = ps })
  unfolding Steps next_of marked_of states_of Admits Says MayStop Ends Leads
  mon_agrees es =
      agrees es (record { kind = mon S a; parts = ps })
      (λ s e w h. let (to, from) = step (λ u. Unit {0}) s e w in (
        λ (u, l). let (k, (v, m, q)) = to (u, l, tt) in (k, (v, m)),
        λ (k, (u, l)). let (v, m, q) = from (k, (u, l, tt)) in (v, m),
      ))
      (λ s h. (s, refl))
      (ending es (record { kind = mon S a; parts = ps }) (λ s e w h. step (λ u. In (stop u) ps) s e w)
      (λ s h. (λ q. (s, refl, (tells_marked ps s).yes q), λ (u, q, i). tells_true (tells_marked ps s) (subst (λ u. In (stop u) ps) (sym q) i))))
