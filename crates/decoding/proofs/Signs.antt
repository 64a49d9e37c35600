-- Signed numbers. Assumes nothing.
use mathlib.Core.Path.{◌≡◌, refl, sym, ap}
use mathlib.Core.Bool.{Bool, true, false}
use mathlib.Core.List.{List, [], ◌∷◌}
use mathlib.Core.Option.{Option, none, some, none-ne-some}
use Prim.Native.Nat.{ℕ, zero, suc, ◌≤◌, ◌<◌}
use native.Mathlib.Omega.{arith}
use lib.IntN.{ℤ, pos, negsuc, ◌-ℤ◌, +ℤ_idl}
use lib.ListN.{length, take, drop}
use lib.Dec.{eqb}
use borrow.Author.Tests.{ne_eqb, eqb-true}
use mir.Syntax.{w64}
use mir.Val.{SFits}
use Rattle.std.specs.Cmp.Lexicographic.{pointwise}
use Rattle.lists.specs.Lists.{index_of}
use Rattle.lists.proofs.Tests.{contra, case}
use Rattle.promises.specs.Text.{number, minus, plus, signed}
use Rattle.promises.proofs.Spelling.{spelling}
use Rattle.decoding.proofs.Numbers.{number-free}

-- ---- signed numbers

pub number_small : (f : List ℕ) (n : ℕ) → some n ≡ number f → n < 100000
number_small f n q = ((spelling.numbers f n).0 (sym q)).1

-- −n, as the code works it out
pub minus_fits : (n : ℕ) → n < 100000 → SFits w64 (pos 0 -ℤ pos n)
minus_fits zero h = record { sfits = omega arith }
minus_fits (suc n) h = rw (+ℤ_idl (negsuc n)) (record { sfits = omega arith })

pub minus-some : (n : ℕ) → (n ≡ 0 → ⊥) → some (pos 0 -ℤ pos n) ≡ minus (some n)
unfolding minus
minus-some zero h = absurd (h refl)
minus-some (suc n) h = ap some (+ℤ_idl (negsuc n))

-- by whether a minus sign comes first
abbrev pub signed-first : List ℕ → Bool
signed-first s = pointwise eqb (take 1 s) (45 ∷ [])

pub signed-plus : (s : List ℕ) → signed-first s ≡ false → signed s ≡ plus (number s)
unfolding signed plus number
signed-plus [] q = refl
signed-plus (b ∷ s) q = case (eqb b 45) (λ p. contra (rw p) q) (λ p. rw p)

pub signed-minus : (s : List ℕ) → signed-first s ≡ true → signed s ≡ minus (number (drop 1 s))
unfolding signed
signed-minus [] q = contra q refl
signed-minus (b ∷ s) q = case (eqb b 45) (λ p. rw p) (λ p. contra q (rw p))

pub signed-free : (f : List ℕ) (x : ℤ) → some x ≡ signed f → length f ≤ index_of f 9
unfolding signed index_of minus plus
signed-free [] x q = omega arith
signed-free (b ∷ f) x q = case (eqb b 45)
    (λ p. rw (ne_eqb b 9 (λ e. omega (arith, eqb-true b 45 p))) (minus-free (number f) refl (rw p at q)))
    (λ p. plus-free (number (b ∷ f)) refl (rw p at q))
  where
    minus-free : (o : Option ℕ) → number f ≡ o → some x ≡ minus o → suc (length f) ≤ suc (index_of f 9)
    minus-free none e h = absurd (none-ne-some x (sym h))
    minus-free (some n) e h = omega (arith, number-free f n (sym e))

    plus-free : (o : Option ℕ) → number (b ∷ f) ≡ o → some x ≡ plus o → length (b ∷ f) ≤ index_of (b ∷ f) 9
    plus-free none e h = absurd (none-ne-some x (sym h))
    plus-free (some n) e h = number-free (b ∷ f) n (sym e)
