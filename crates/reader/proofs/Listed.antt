-- The events of an `ord` line in the reader's list, where decoding has left them as bytes: the reader's tests on them are the paper's.
-- Why: no event is past a byte, so a number that is cut is none either way. Assumes nothing.
use mathlib.Core.Path.{◌≡◌, refl, sym, ap, ap₂, ◌∙◌}
use mathlib.Core.Logic.{⊎_elim}
use mathlib.Core.Bool.{false, ◌||◌}
use mathlib.Core.List.{List, [], ◌∷◌, ◌++◌, map}
use Prim.Native.Nat.{ℕ, suc, ◌≤◌, min}
use native.Mathlib.Omega.{arith}
use native.Mathlib.Nat.{min-eq_left, min-eq_right}
use lib.ListN.{length, take, drop, length-map}
use lib.Seq.{take_at}
use lib.Dec.{eqb, leb}
use borrow.Author.Tests.{eq-eqb, ne_eqb, eqb-true, eqb-false, le-leb, leb-false}
use Rattle.lists.specs.Lists.{pick, any}
use Rattle.lists.proofs.Tests.{case, or_left, or-rest, split}
use Rattle.promises.specs.Text.{Line, ord, events_of}
use Rattle.promises.specs.Reading.{repeats, tests, line_case}
use Rattle.decoding.specs.Forms.{over}
use Rattle.taking.specs.declared.Sizes.{Sizes}
use Rattle.taking.specs.Taking.{ord_case}

abbrev cut : List ℕ → List ℕ
cut es = map (λ e. min e 255) es

over_cut : (es os : List ℕ) → length es ≤ length os → over es os ≡ cut es ++ drop (length es) os
unfolding over
over_cut [] os h = refl
over_cut (e ∷ es) [] h = absurd (omega arith)
over_cut (e ∷ es) (o ∷ os) h = ap (λ l. min e 255 ∷ l) (over_cut es os (omega arith))

-- a number is cut only where it is no event
module _ (E : ℕ) (few : E ≤ 16) where
  cut_past : (e : ℕ) → leb E (min e 255) ≡ leb E e
  cut_past e = ⊎_elim
      (λ h. ap (leb E) (min-eq_left h))
      (λ h. ap (leb E) (min-eq_right (omega arith)) ∙ le-leb E 255 (omega arith) ∙ sym (le-leb E e (omega arith)))
      (split e 255)

  cut_any : (es : List ℕ) → any (leb E) (cut es) ≡ any (leb E) es
  cut_any [] = refl
  cut_any (e ∷ es) = ap₂ ◌||◌ (cut_past e) (cut_any es)

  cut_none : (es : List ℕ) → any (leb E) es ≡ false → cut es ≡ es
  cut_none [] h = refl
  cut_none (e ∷ es) h = ap₂ ◌∷◌ (min-eq_left (omega (arith, leb-false E e (or_left (leb E e) _ h)))) (cut_none es (or-rest (leb E e) _ h))

  -- the list afterwards, where all are events
  pub over_events : (es os : List ℕ) → length es ≤ length os → any (leb E) es ≡ false → over es os ≡ es ++ drop (length es) os
  over_events es os h none = over_cut es os h ∙ ap (λ l. l ++ drop (length es) os) (cut_none es none)

  over_front : (es os : List ℕ) → length es ≤ length os → take (length es) (over es os) ≡ cut es
  over_front es os h = ap (take (length es)) (over_cut es os h) ∙ take_at (cut es) (drop (length es) os) (length es) (length-map es (λ e. min e 255))

  pub front_any : (es os : List ℕ) → length es ≤ length os → any (leb E) (take (length es) (over es os)) ≡ any (leb E) es
  front_any es os h = ap (any (leb E)) (over_front es os h) ∙ cut_any es

  front_repeats : (es os : List ℕ) → length es ≤ length os → any (leb E) es ≡ false → repeats (take (length es) (over es os)) ≡ repeats es
  front_repeats es os h none = ap repeats (over_front es os h ∙ cut_none es none)

-- the reader's tests are the paper's
module _ (ls : List Line) (z : Sizes) (line : ℕ) (es os : List ℕ) (E-is : events_of ls ≡ z.events) (few : z.events ≤ 16) (counted : suc (length ls) ≡ line) (wide : length os ≡ 16) where
  -- on line 2, with as many numbers as events
  on_second : length es ≡ z.events
      → ◌≡◌ {A = ℕ} (pick (any (leb z.events) (take (length es) (over es os))) 3 (pick (repeats (take (length es) (over es os))) 16 0)) (pick (any (leb z.events) es) 3 (pick (repeats es) 16 0))
  on_second full =
      let room : length es ≤ length os = omega arith in
      rw (front_any z.events few es os room)
      (case (any (leb z.events) es) (λ p. rw p) (λ p. rw (p, front_repeats z.events few es os room p)))

  pub ord_case_lem : ord_case (over es os) z line (length es) ≡ line_case ls (ord es)
  unfolding ord_case line_case tests
  ord_case_lem = rw E-is (case (eqb (length ls) 1)
      (λ p. rw (p, eq-eqb line 2 (omega (arith, eqb-true (length ls) 1 p))) (case (eqb (length es) z.events) (λ q. rw q (on_second (eqb-true (length es) z.events q))) (λ q. rw q)))
      (λ p. rw (p, ne_eqb line 2 (λ q. eqb-false (length ls) 1 p (omega arith)))))
