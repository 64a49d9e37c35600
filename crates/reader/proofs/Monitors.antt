-- The monitors of some lines with one line more. Assumes nothing.
use mathlib.Core.Path.{◌≡◌, refl, sym, ap, ◌∙◌}
use mathlib.Core.Logic.{◌⊎◌, inl, inr}
use mathlib.Core.Bool.{true, false}
use mathlib.Core.List.{List, [], ◌∷◌, ◌++◌}
use mathlib.Core.Option.{some}
use Prim.Native.Nat.{ℕ, zero, suc, ◌<◌}
use native.Mathlib.Omega.{arith}
use lib.ListN.{length, get_or, length-append, get_or-append, get_or-eq_default}
use lib.Seq.{get_or_at}
use lib.Dec.{eqb}
use borrow.Author.Tests.{ne_eqb}
use Rattle.lists.proofs.Tests.{contra, ℕ_trichotomy}
use Rattle.promises.specs.Text.{Part, Line, Monitor, add_part, latest, events_of}
use Rattle.promises.specs.Reading.{empty}
use Rattle.promises.proofs.Lines.{events_of-more}
use Rattle.reader.specs.Reading.{nobody}

abbrev pub monitor_at : List Monitor → ℕ → Monitor
monitor_at ms k = get_or ms k nobody

-- ---- one line more

pub events_snoc : (ls : List Line) (l : Line) → empty ls ≡ false → events_of (ls ++ (l ∷ [])) ≡ events_of ls
events_snoc [] l h = contra refl h
events_snoc (k ∷ ls) l h = events_of-more k ls (l ∷ [])

pub empty_nil : {A : Type 0} (l : List A) → empty l ≡ true → l ≡ []
empty_nil [] h = refl
empty_nil (x ∷ l) h = contra h refl

pub empty_snoc : {A : Type 0} (l : List A) (x : A) → empty (l ++ (x ∷ [])) ≡ false
empty_snoc [] x = refl
empty_snoc (y ∷ l) x = refl

pub empty-length : {A : Type 0} (l : List A) → empty l ≡ eqb (length l) 0
empty-length [] = refl
empty-length (x ∷ l) = sym (ne_eqb (suc (length l)) 0 (λ q. omega arith))

-- ---- a line of the latest monitor

module _ (p : Part) where
  pub add_part_at : (ms : List Monitor) (k : ℕ) → suc k ≡ length ms
      → monitor_at (add_part p ms) k ≡ record { kind = (monitor_at ms k).kind; parts = (monitor_at ms k).parts ++ (p ∷ []) }
  unfolding add_part
  add_part_at [] k q = absurd (omega arith)
  add_part_at (m ∷ []) zero q = refl
  add_part_at (m ∷ []) (suc k) q = absurd (omega arith)
  add_part_at (m ∷ (n ∷ ms)) zero q = absurd (omega arith)
  add_part_at (m ∷ (n ∷ ms)) (suc k) q = add_part_at (n ∷ ms) k (omega arith)

  pub add_part_beside : (ms : List Monitor) (k : ℕ) → (suc k ≡ length ms → ⊥) → monitor_at (add_part p ms) k ≡ monitor_at ms k
  unfolding add_part
  add_part_beside [] k q = refl
  add_part_beside (m ∷ []) zero q = absurd (q refl)
  add_part_beside (m ∷ []) (suc k) q = refl
  add_part_beside (m ∷ (n ∷ ms)) zero q = refl
  add_part_beside (m ∷ (n ∷ ms)) (suc k) q = add_part_beside (n ∷ ms) k (λ e. q (ap suc e))

pub latest_at : (ms : List Monitor) (k : ℕ) → suc k ≡ length ms → latest ms ≡ some (monitor_at ms k)
unfolding latest
latest_at [] k q = absurd (omega arith)
latest_at (m ∷ []) zero q = refl
latest_at (m ∷ []) (suc k) q = absurd (omega arith)
latest_at (m ∷ (n ∷ ms)) zero q = absurd (omega arith)
latest_at (m ∷ (n ∷ ms)) (suc k) q = latest_at (n ∷ ms) k (omega arith)

-- ---- a new monitor

module _ (ms : List Monitor) (m : Monitor) where
  pub new_before : (k : ℕ) → k < length ms → monitor_at (ms ++ (m ∷ [])) k ≡ monitor_at ms k
  new_before k h = get_or-append ms (m ∷ []) nobody k h

  pub new_at : (k : ℕ) → k ≡ length ms → monitor_at (ms ++ (m ∷ [])) k ≡ m
  new_at k q = get_or_at ms m [] nobody k (sym q)

  pub new_after : (k : ℕ) → length ms < k → monitor_at (ms ++ (m ∷ [])) k ≡ monitor_at ms k
  new_after k h = get_or-eq_default (ms ++ (m ∷ [])) nobody {n = k} (rw length-append (omega arith)) ∙ sym (get_or-eq_default ms nobody {n = k} (omega arith))

  -- it has no further line yet, as what stands past the last has none
  pub new_parts : m.parts ≡ [] → (k : ℕ) → (monitor_at (ms ++ (m ∷ [])) k).parts ≡ (monitor_at ms k).parts
  new_parts none k = go (ℕ_trichotomy k (length ms))
    where
      go : (k < length ms) ⊎ ((k ≡ length ms) ⊎ (length ms < k)) → (monitor_at (ms ++ (m ∷ [])) k).parts ≡ (monitor_at ms k).parts
      go (inl h) = ap (λ m. m.parts) (new_before k h)
      go (inr (inl q)) = ap (λ m. m.parts) (new_at k q) ∙ none ∙ sym (ap (λ m. m.parts) (get_or-eq_default ms nobody {n = k} (omega arith)))
      go (inr (inr h)) = ap (λ m. m.parts) (new_after k h)
