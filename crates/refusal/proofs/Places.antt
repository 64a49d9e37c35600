-- The first number of a list that is not below n, as the library's `position` finds it, and what a place that is there, or is not, tells.
-- Assumes nothing.
use mathlib.Core.Path.{◌≡◌, refl, sym, ◌∙◌}
use mathlib.Core.Bool.{Bool, true, false, cond}
use mathlib.Core.List.{List, [], ◌∷◌}
use Prim.Native.Nat.{ℕ, suc, ◌+◌, ◌<◌, ◌≤◌}
use native.Mathlib.Omega.{arith}
use native.Mathlib.Nat.{zero-add, add-zero}
use lib.Dec.{leb, ltb}
use borrow.Author.Tests.{ltb-true, ltb-false, lt-ltb, le-ltb}
use Rattle.std.specs.Prelude.{Some, None}
use Rattle.std.specs.List.{position_or_len}
use Rattle.lists.proofs.Tests.{case}
use Rattle.promises.specs.Calls.{not_below, first_bad_from, first_bad}
use Rattle.refusal.specs.Places.{place_in}

first_from : (n p : ℕ) (l : List ℕ) → first_bad_from (not_below n) p l ≡ p + position_or_len (leb n) l
unfolding first_bad_from
first_from n p [] = sym (add-zero p)
first_from n p (x ∷ l) = case (leb n x) (λ q. rw q (sym (add-zero p))) (λ q. rw (q, first_from n (suc p) l) (omega arith))

pub position-first_bad : (n : ℕ) (l : List ℕ) → position_or_len (leb n) l ≡ first_bad (not_below n) l
unfolding first_bad
position-first_bad n l = sym (first_from n 0 l ∙ zero-add (position_or_len (leb n) l))

-- ---- places

pub place_here : (n p : ℕ) → p < n → Some p ≡ place_in n p
place_here n p h = rw (lt-ltb p n h)

pub place_nowhere : (n p : ℕ) → n ≤ p → None ≡ place_in n p
place_nowhere n p h = rw (le-ltb p n h)

pub place_found : (n p k : ℕ) → Some k ≡ place_in n p → (k ≡ p) × (p < n)
place_found n p k = go (ltb p n) refl
  where
    go : (b : Bool) → ltb p n ≡ b → Some k ≡ cond b (Some p) None → (k ≡ p) × (p < n)
    go true t q = (cc, ltb-true p n t)
    go false t q = cc

pub place_missing : (n p : ℕ) → None ≡ place_in n p → n ≤ p
place_missing n p = go (ltb p n) refl
  where
    go : (b : Bool) → ltb p n ≡ b → None ≡ cond b (Some p) None → n ≤ p
    go true t q = cc
    go false t q = ltb-false p n t

pub place_there : (n p k : ℕ) → place_in n p ≡ Some k → (p < n) × (k ≡ p)
place_there n p k e = let t = place_found n p k (sym e) in (t.1, t.0)

pub place_none : (n p : ℕ) → place_in n p ≡ None → n ≤ p
place_none n p e = place_missing n p (sym e)
