-- The check of the draws. Where none is bad the draws are valid. Assumes nothing.
use Rattle.std.proofs.Common.{◌≡◌, ℕ, suc, ◌+◌, ◌<◌, ◌≤◌, Bool, false, ltb, List, [], ◌∷◌, length, sym, ◌∙◌, add-one, arith, ltb-false, leb-false}
use native.Mathlib.Nat.{zero-add, add-zero}
use Rattle.std.specs.List.{position_or_len, enumerate_from}
use Rattle.lists.proofs.Tests.{case, contra}
use Rattle.automaton.specs.Shuffle.{Valid}
use Rattle.promises.specs.Calls.{bad_draw, first_bad, first_bad_from}
use Rattle.promises.proofs.Answers.{valid_at}

-- ---- the first bad one, as the library's `position` finds it

first_from : (bad : ℕ → ℕ → Bool) (p : ℕ) (ds : List ℕ) → first_bad_from bad p ds ≡ p + position_or_len (λ (q : ℕ × ℕ). bad q.0 q.1) (enumerate_from p ds)
unfolding first_bad_from
first_from bad p [] = sym (add-zero p)
first_from bad p (d ∷ ds) = case (bad p d) (λ t. rw t (sym (add-zero p))) (λ t. rw (t, add-one p, first_from bad (suc p) ds) (omega arith))

pub position-bad_draw : (bad : ℕ → ℕ → Bool) (ds : List ℕ) → position_or_len (λ (q : ℕ × ℕ). bad q.0 q.1) (enumerate_from 0 ds) ≡ first_bad bad ds
unfolding first_bad
position-bad_draw bad ds = sym (first_from bad 0 ds ∙ zero-add (position_or_len (λ (q : ℕ × ℕ). bad q.0 q.1) (enumerate_from 0 ds)))

-- ---- the draw's test

good_draw : (n i d : ℕ) → bad_draw n i d ≡ false → (i ≤ d) × (d < n)
unfolding bad_draw
good_draw n i d q = case (ltb d i)
    (λ t. contra (rw t) q)
    (λ t. (ltb-false d i t, leb-false n d (rw t at q)))

-- ---- valid draws

bad_from : (bad : ℕ → ℕ → Bool) (p : ℕ) (ds : List ℕ) → p ≤ first_bad_from bad p ds
unfolding first_bad_from
bad_from bad p [] = omega arith
bad_from bad p (d ∷ ds) = let h = bad_from bad (suc p) ds in case (bad p d) (λ t. rw t (omega arith)) (λ t. rw t (omega arith))

valid_from : (n p : ℕ) (ds : List ℕ) → p + length ds ≤ first_bad_from (bad_draw n) p ds → Valid n p ds
unfolding first_bad_from Valid
valid_from n p [] h = tt
valid_from n p (d ∷ ds) h = case (bad_draw n p d)
    (λ t. let k : p + suc (length ds) ≤ p = rw t at h in absurd (omega arith))
    (λ t. let k : p + suc (length ds) ≤ first_bad_from (bad_draw n) (suc p) ds = rw t at h in
    let g = good_draw n p d t in
    (g.0, g.1, valid_from n (suc p) ds (omega arith)))

pub draws-valid : (n : ℕ) (ds : List ℕ) → length ds ≤ first_bad (bad_draw n) ds → Valid n 0 ds
unfolding first_bad
draws-valid n ds h = valid_from n 0 ds (omega arith)

-- as many draws as there are numbers at most
pub valid-few : (n : ℕ) (ds : List ℕ) → Valid n 0 ds → length ds ≤ n
valid-few n [] v = omega arith
valid-few n (d ∷ ds) v = let r = valid_at n 0 (d ∷ ds) v (length ds) (omega arith) in let a = r.0 in let b = r.1 in omega arith
