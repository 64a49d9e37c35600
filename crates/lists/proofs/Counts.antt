-- How many numbers pass a test. Assumes nothing.
use mathlib.Core.Path.{◌≡◌, refl, ap, ◌∙◌}
use mathlib.Core.Logic.{◌⊎◌, inl, inr}
use mathlib.Core.Bool.{Bool, true, false}
use Prim.Native.Nat.{ℕ, zero, suc, ◌+◌, ◌≤◌, ◌<◌}
use native.Mathlib.Omega.{arith}
use native.Mathlib.Nat.{eq-or-lt_of_le, le_of_suc-le-suc}
use Rattle.lists.specs.Lists.{pick, count}
use Rattle.lists.proofs.Tests.{contra}

pub count_mono : (f g : ℕ → Bool) (n : ℕ) → ((x : ℕ) → f x ≡ true → g x ≡ true) → count f n ≤ count g n
count_mono f g zero h = omega arith
count_mono f g (suc n) h = go (f n) (g n) (h n) (count_mono f g n h)
  where
    go : (a b : Bool) → (a ≡ true → b ≡ true) → count f n ≤ count g n → pick a 1 0 + count f n ≤ pick b 1 0 + count g n
    go false true k ih = omega arith
    go false false k ih = omega arith
    go true b k ih = rw (k refl) (omega arith)

-- a part as large as the whole is the whole
pub count_same : (f g : ℕ → Bool) (n : ℕ) → ((x : ℕ) → f x ≡ true → g x ≡ true) → count f n ≡ count g n → (x : ℕ) → x < n → g x ≡ true → f x ≡ true
count_same f g zero h e x lt p = absurd (omega arith)
count_same f g (suc n) h e x lt p = go (f n) (g n) refl refl (h n) (count_mono f g n h) e (λ e' q. count_same f g n h e' x q p) (eq-or-lt_of_le (le_of_suc-le-suc lt))
  where
    go : (a b : Bool) → f n ≡ a → g n ≡ b → (f n ≡ true → g n ≡ true) → count f n ≤ count g n → pick a 1 0 + count f n ≡ pick b 1 0 + count g n
        → (count f n ≡ count g n → x < n → f x ≡ true) → (x ≡ n) ⊎ (x < n) → f x ≡ true
    go true b u v m le k ih (inl q) = cc
    go false true u v m le k ih (inl q) = absurd (omega arith)
    go false false u v m le k ih (inl q) = contra p (ap g q ∙ v)
    go true true u v m le k ih (inr q) = ih (omega arith) q
    go true false u v m le k ih (inr q) = contra (m u) v
    go false true u v m le k ih (inr q) = absurd (omega arith)
    go false false u v m le k ih (inr q) = ih (omega arith) q
