-- The start that two scenarios share, in blocks and event by event, and the scenarios of a list. Assumes nothing.
use mathlib.Core.Path.{◌≡◌, refl, sym, ap₂, ◌∙◌}
use mathlib.Core.Logic.{◌≢◌}
use mathlib.Core.Bool.{Bool, true}
use mathlib.Core.List.{List, [], ◌∷◌, ◌++◌, head-eq_of_cons-eq, tail-eq_of_cons-eq}
use Prim.Native.Nat.{ℕ, zero, suc, ◌+◌, ◌-◌, ◌*◌, ◌≤◌, ◌<◌}
use native.Mathlib.Numerals.{add-one}
use native.Mathlib.Omega.{arith}
use native.Mathlib.Nat.{zero-add, suc-mul}
use lib.Dec.{eqb}
use lib.ListN.{length, get_or, take, drop, length-drop}
use lib.Seq.{take-suc, take-add, take_all}
use borrow.Author.Tests.{eq-eqb}
use Rattle.std.proofs.Common.{nat_eq}
use Rattle.std.specs.Cmp.Lexicographic.{pointwise, same_text}
use Rattle.std.specs.List.{prefix_len, zip}
use Rattle.std.specs.Simd.{first_chunks}
use Rattle.lists.proofs.Tests.{case}
use Rattle.promises.specs.Sheets.{shared, previous}

-- ---- the blocks of sixteen that two lists begin with alike

abbrev pub same_block : List ℕ × List ℕ → Bool
same_block p = pointwise nat_eq p.0 p.1

abbrev pub alike_blocks : ℕ → ℕ → List ℕ → List ℕ → ℕ
alike_blocks n m a b = prefix_len same_block (zip (first_chunks 16 n a) (first_chunks 16 m b))

pub blocks_within : (n m : ℕ) (a b : List ℕ) → (alike_blocks n m a b ≤ n) × (alike_blocks n m a b ≤ m)
blocks_within zero m a b = (omega arith, omega arith)
blocks_within (suc n) zero a b = (omega arith, omega arith)
blocks_within (suc n) (suc m) a b =
    let (l, r) = blocks_within n m (drop 16 a) (drop 16 b) in
    case (same_block (take 16 a, take 16 b)) (λ t. rw t (omega arith, omega arith)) (λ t. rw t (omega arith, omega arith))

pub blocks_alike : (n m : ℕ) (a b : List ℕ) → take (16 * alike_blocks n m a b) a ≡ take (16 * alike_blocks n m a b) b
blocks_alike zero m a b = refl
blocks_alike (suc n) zero a b = refl
blocks_alike (suc n) (suc m) a b =
    let k = alike_blocks n m (drop 16 a) (drop 16 b) in
    case (same_block (take 16 a, take 16 b))
    (λ t.
    let q : 16 * (1 + k) ≡ 16 + 16 * k = omega arith in
    rw (t, q) (take-add 16 (16 * k) a ∙ ap₂ ◌++◌ (same_text (take 16 a) (take 16 b) (sym t)) (blocks_alike n m (drop 16 a) (drop 16 b)) ∙ sym (take-add 16 (16 * k) b)))
    (λ t. rw t refl)

pub same_itself : (a : List ℕ) → pointwise nat_eq a a ≡ true
same_itself [] = refl
same_itself (x ∷ a) = rw (eq-eqb x x refl) (same_itself a)

pub alike_more : (a b : List ℕ) (i : ℕ) → i < length a → i < length b → take i a ≡ take i b → get_or a i 0 ≡ get_or b i 0 → take (i + 1) a ≡ take (i + 1) b
alike_more a b i l r q e = rw (add-one i, take-suc a i 0 l, take-suc b i 0 r, q, e)

-- ---- event by event

abbrev pub same_pair : ℕ × ℕ → Bool
same_pair p = nat_eq p.0 p.1

pub shared_zip : (a b : List ℕ) → shared a b ≡ prefix_len same_pair (zip a b)
unfolding shared
shared_zip [] b = refl
shared_zip (x ∷ a) [] = refl
shared_zip (x ∷ a) (y ∷ b) = case (eqb x y) (λ t. rw (t, shared_zip a b) (omega arith)) (λ t. rw t)

-- what is alike is skipped
shared_skip : (k : ℕ) (a b : List ℕ) → k ≤ length a → k ≤ length b → take k a ≡ take k b → shared a b ≡ k + shared (drop k a) (drop k b)
unfolding shared
shared_skip zero a b l r q = sym (zero-add (shared a b))
shared_skip (suc k) [] b l r q = absurd (omega arith)
shared_skip (suc k) (x ∷ a) [] l r q = absurd (omega arith)
shared_skip (suc k) (x ∷ a) (y ∷ b) l r q = rw (eq-eqb x y (head-eq_of_cons-eq q)) (omega (arith, shared_skip k a b (omega arith) (omega arith) (tail-eq_of_cons-eq q)))

pub shared_rest : (k : ℕ) (a b : List ℕ) → k ≤ length a → k ≤ length b → take k a ≡ take k b → (r : ℕ) → r ≡ shared (take (length a - k) (drop k a)) (take (length b - k) (drop k b)) → k + r ≡ shared a b
shared_rest k a b l r q n e =
    let rest = λ (s : List ℕ). take_all (length s - k) (drop k s) (rw length-drop (omega arith)) in
    rw (e, rest a, rest b) (sym (shared_skip k a b l r q))

pub previous-next : (ss : ℕ → List ℕ) (k : ℕ) → k ≢ 0 → ss (k - 1) ≡ previous ss k
unfolding previous
previous-next ss zero n = absurd (n refl)
previous-next ss (suc k) n = let q : suc k - 1 ≡ k = omega arith in rw q

-- it ends where number k begins
pub previous-within : (k h : ℕ) → k ≢ 0 → (k - 1) * h + h ≡ k * h
previous-within zero h n = absurd (n refl)
previous-within (suc k) h n = let q : suc k - 1 ≡ k = omega arith in rw q (sym (suc-mul k h))
