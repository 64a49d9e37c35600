-- The checks that the answers are made of: which refusal is said, and when none is. Assumes nothing.
use mathlib.Core.Path.{◌≡◌, sym, ap, ◌∙◌}
use mathlib.Core.Logic.{◌⊎◌, inl, inr, ◌↔◌, ◌≢◌}
use mathlib.Core.Bool.{Bool, true, false}
use mathlib.Core.List.{List, [], ◌∷◌}
use Prim.Native.Nat.{ℕ, zero, suc, ◌+◌, ◌*◌, ◌≤◌, ◌<◌}
use native.Mathlib.Omega.{arith}
use native.Mathlib.Nat.{zero-add, add-zero}
use native.Mathlib.Numerals.{add-one}
use lib.ListN.{length, get_or, drop, drop_of_length-le}
use lib.Seq.{drop-cons}
use lib.Dec.{ltb, leb, eqb}
use borrow.Author.Tests.{le-leb, lt-leb}
use Rattle.lists.specs.Lists.{any}
use Rattle.lists.proofs.Tests.{contra, case, split}
use Rattle.lists.proofs.Members.{any_some, any_in, get_or-in}
use Rattle.lists.proofs.Distinct.{in_place}
use Rattle.lists.proofs.Tells.{tells_true, tells_false, tells_lt, tells_le, tells_eq}
use Rattle.automaton.specs.Counting.{most}
use Rattle.promises.specs.Answer.{Answer, served, refused, SaysNone, unless}
use Rattle.promises.specs.Text.{Readable, Fault, Case7, Case8, joint_states}
use Rattle.promises.specs.Calls.{not_below, first_bad_from, first_bad, unless_at, sized_for, sized, total, counted}
use Rattle.promises.proofs.Reading.{readable-said, fault_said, OfText, fault_number, readable-or_fault}

-- ---- the first bad place of a list

-- the list is passed over as long as nothing is bad
first_from : (bad : ℕ → ℕ → Bool) (p : ℕ) (l : List ℕ)
    → ((first_bad_from bad p l ≡ p + length l) × ((k : ℕ) → k < length l → bad (p + k) (get_or l k 0) ≡ false))
    ⊎ ((k : ℕ) × (k < length l) × (first_bad_from bad p l ≡ p + k) × (bad (p + k) (get_or l k 0) ≡ true) × ((j : ℕ) → j < k → bad (p + j) (get_or l j 0) ≡ false))
unfolding first_bad_from
first_from bad p [] = inl (sym (add-zero p), λ k h. absurd (omega arith))
first_from bad p (x ∷ l) =
    case (bad p x)
    (λ q. inr (0, omega arith, rw (q, add-zero), rw add-zero q, λ j h. absurd (omega arith)))
    (λ q. rw q (on q (first_from bad (suc p) l)))
  where
    shift : (k : ℕ) → suc p + k ≡ p + suc k
    shift k = omega arith

    good : bad p x ≡ false → (n : ℕ) → ((k : ℕ) → k < n → bad (suc p + k) (get_or l k 0) ≡ false) → (k : ℕ) → k < suc n → bad (p + k) (get_or (x ∷ l) k 0) ≡ false
    good q n g zero h = rw add-zero q
    good q n g (suc k) h = rw (shift k) at (g k (omega arith))

    on : bad p x ≡ false
        → ((first_bad_from bad (suc p) l ≡ suc p + length l) × ((k : ℕ) → k < length l → bad (suc p + k) (get_or l k 0) ≡ false))
        ⊎ ((k : ℕ) × (k < length l) × (first_bad_from bad (suc p) l ≡ suc p + k) × (bad (suc p + k) (get_or l k 0) ≡ true) × ((j : ℕ) → j < k → bad (suc p + j) (get_or l j 0) ≡ false))
        → ((first_bad_from bad (suc p) l ≡ p + length (x ∷ l)) × ((k : ℕ) → k < length (x ∷ l) → bad (p + k) (get_or (x ∷ l) k 0) ≡ false))
        ⊎ ((k : ℕ) × (k < length (x ∷ l)) × (first_bad_from bad (suc p) l ≡ p + k) × (bad (p + k) (get_or (x ∷ l) k 0) ≡ true) × ((j : ℕ) → j < k → bad (p + j) (get_or (x ∷ l) j 0) ≡ false))
    on q (inl (e, g)) = inl (e ∙ shift (length l), good q (length l) g)
    on q (inr (k, lt, e, b, g)) = inr (suc k, omega arith, e ∙ shift k, rw (shift k) at b, good q k g)

-- numbers that are to be below n, stepped over
module _ (n : ℕ) (l : List ℕ) (k : ℕ) where
  pub bad_here : k < length l → n ≤ get_or l k 0 → first_bad_from (not_below n) k (drop k l) ≡ k
  unfolding first_bad_from
  bad_here h b = rw (drop-cons l k 0 h, le-leb n (get_or l k 0) b)

  pub bad_later : k < length l → get_or l k 0 < n → first_bad_from (not_below n) k (drop k l) ≡ first_bad_from (not_below n) (k + 1) (drop (k + 1) l)
  unfolding first_bad_from
  bad_later h b = rw (drop-cons l k 0 h, lt-leb n (get_or l k 0) b, add-one k)

  pub bad_nowhere : length l ≤ k → first_bad_from (not_below n) k (drop k l) ≡ k
  unfolding first_bad_from
  bad_nowhere h = ap (first_bad_from (not_below n) k) (drop_of_length-le l h)

-- there is a bad place where some number is not below n
pub bad_any : (n : ℕ) (l : List ℕ) → ltb (first_bad (not_below n) l) (length l) ≡ any (leb n) l
unfolding first_bad
bad_any n l = go (first_from (not_below n) 0 l)
  where
    go : ((first_bad_from (not_below n) 0 l ≡ 0 + length l) × ((k : ℕ) → k < length l → leb n (get_or l k 0) ≡ false))
        ⊎ ((k : ℕ) × (k < length l) × (first_bad_from (not_below n) 0 l ≡ 0 + k) × (leb n (get_or l k 0) ≡ true) × ((j : ℕ) → j < k → leb n (get_or l j 0) ≡ false))
        → ltb (first_bad_from (not_below n) 0 l) (length l) ≡ any (leb n) l
    go (inl (e, g)) = rw (e, zero-add, tells_false (tells_lt (length l) (length l)) (λ h. omega arith)) (sym (case (any (leb n) l) (λ q. let (d, i, p) = any_some (leb n) l q in let (k, lt, r) = in_place 0 i in contra (rw (← r) at p) (g k lt)) (λ q. q)))
    go (inr (k, lt, e, b, g)) = rw (e, zero-add k, tells_true (tells_lt k (length l)) lt) (sym (any_in (leb n) (get_or-in l k 0 lt) b))

-- every element is good, or there is a first that is bad
pub checked_list : (n : ℕ) (bad : ℕ → ℕ → Bool) (l : List ℕ) (a : Answer)
    → ((unless_at n bad l a ≡ a) × ((k : ℕ) → k < length l → bad k (get_or l k 0) ≡ false))
    ⊎ ((k : ℕ) × (k < length l) × (unless_at n bad l a ≡ refused n k) × (bad k (get_or l k 0) ≡ true) × ((j : ℕ) → j < k → bad j (get_or l j 0) ≡ false))
unfolding unless_at first_bad
checked_list n bad l a = go (first_from bad 0 l)
  where
    go : ((first_bad_from bad 0 l ≡ 0 + length l) × ((k : ℕ) → k < length l → bad (0 + k) (get_or l k 0) ≡ false))
        ⊎ ((k : ℕ) × (k < length l) × (first_bad_from bad 0 l ≡ 0 + k) × (bad (0 + k) (get_or l k 0) ≡ true) × ((j : ℕ) → j < k → bad (0 + j) (get_or l j 0) ≡ false))
        → ((unless n (first_bad_from bad 0 l) (ltb (first_bad_from bad 0 l) (length l)) a ≡ a) × ((k : ℕ) → k < length l → bad k (get_or l k 0) ≡ false))
        ⊎ ((k : ℕ) × (k < length l) × (unless n (first_bad_from bad 0 l) (ltb (first_bad_from bad 0 l) (length l)) a ≡ refused n k) × (bad k (get_or l k 0) ≡ true) × ((j : ℕ) → j < k → bad j (get_or l j 0) ≡ false))
    go (inl (e, g)) = inl (rw (e, tells_false (tells_lt (0 + length l) (length l)) (λ h. omega arith)), λ k h. rw zero-add at (g k h))
    go (inr (k, lt, e, b, g)) = inr (k, lt, rw (e, zero-add k, tells_true (tells_lt k (length l)) lt), rw zero-add at b, λ j h. rw zero-add at (g j h))

-- ---- a check that passes, and one that does not

pub check_passed : (n p : ℕ) (bad : Bool) (a : Answer) → bad ≡ false → unless n p bad a ≡ a
check_passed n p bad a q = rw q

pub check_failed : (n p : ℕ) (bad : Bool) (a : Answer) → bad ≡ true → unless n p bad a ≡ refused n p
check_failed n p bad a q = rw q

-- ---- the rows of the table up to 8

pub sized_for_on : (t : List ℕ) (rows h : ℕ) (cells : List ℕ) (a : Answer) → Readable t → (Case7 h → ⊥) → (length cells < rows * joint_states t → ⊥) → sized_for t rows h cells a ≡ a
unfolding sized_for Case7
sized_for_on t rows h cells a r c7 c8 =
    rw (readable-said t r)
    (check_passed 7 0 (ltb 1000 h) _ (tells_false (tells_lt 1000 h) c7)
    ∙ check_passed 8 0 (ltb (length cells) (rows * joint_states t)) a (tells_false (tells_lt (length cells) (rows * joint_states t)) c8))

pub sized_on : (t : List ℕ) (h : ℕ) (cells : List ℕ) (a : Answer) → Readable t → (Case7 h → ⊥) → (Case8 t h cells → ⊥) → sized t h cells a ≡ a
unfolding Case8
sized_on t h cells a r c7 c8 = sized_for_on t (h + 1) h cells a r c7 c8

-- and those that apply say their number
module _ (t : List ℕ) (rows h : ℕ) (cells : List ℕ) (a : Answer) where
  pub sized_for_text : (n p : ℕ) → Fault t n p → sized_for t rows h cells a ≡ refused n p
  unfolding sized_for
  sized_for_text n p f = rw (fault_said t n p f)

  pub sized_for_7 : Readable t → Case7 h → sized_for t rows h cells a ≡ refused 7 0
  unfolding sized_for Case7
  sized_for_7 r c = rw (readable-said t r, tells_true (tells_lt 1000 h) c)

  pub sized_for_8 : Readable t → (Case7 h → ⊥) → length cells < rows * joint_states t → sized_for t rows h cells a ≡ refused 8 0
  unfolding sized_for Case7
  sized_for_8 r c7 c = rw (readable-said t r, tells_false (tells_lt 1000 h) c7, tells_true (tells_lt (length cells) (rows * joint_states t)) c)

-- the rows go on alike for two needs that are met
pub sized_for_alike : (t : List ℕ) (rows others h : ℕ) (cells enough : List ℕ) (a : Answer) → (length cells < rows * joint_states t → ⊥) → (length enough < others * joint_states t → ⊥)
    → sized_for t rows h cells a ≡ sized_for t others h enough a
unfolding sized_for
sized_for_alike t rows others h cells enough a c d = rw (tells_false (tells_lt (length cells) (rows * joint_states t)) c, tells_false (tells_lt (length enough) (others * joint_states t)) d)

-- ---- a number that is never said

-- m is not the number of the refusal a
abbrev pub Avoids : ℕ → Answer → Type 0
Avoids m a = (p : ℕ) → a ≡ refused m p → ⊥

pub avoids_served : (m : ℕ) (vs : List ℕ) → Avoids m (served vs)
avoids_served m vs p q = let z : ◌≡◌ {A = ℕ} 0 1 = cc in omega arith

pub avoids_check : (m n p : ℕ) (bad : Bool) (a : Answer) → n ≢ m → Avoids m a → Avoids m (unless n p bad a)
avoids_check m n p true a ne v k q = ne cc
avoids_check m n p false a ne v k q = v k q

-- the rows up to 8 and from 16 on say no number between
pub avoids_sized : (m : ℕ) (t : List ℕ) (rows h : ℕ) (cells : List ℕ) (a : Answer) → 8 < m → m < 16 → Avoids m a → Avoids m (sized_for t rows h cells a)
unfolding sized_for
avoids_sized m t rows h cells a ge lt v = go (readable-or_fault t)
  where
    other : (n : ℕ) → OfText n → n ≢ m
    other n (inl le) q = omega arith
    other n (inr le) q = omega arith

    go : Readable t ⊎ ((n : ℕ) × (p : ℕ) × Fault t n p) → Avoids m (sized_for t rows h cells a)
    go (inl r) = rw (readable-said t r) (avoids_check m 7 0 (ltb 1000 h) _ (λ q. omega arith) (avoids_check m 8 0 (ltb (length cells) (rows * joint_states t)) a (λ q. omega arith) v))
    go (inr (n, p, f)) = rw (fault_said t n p f) (λ k q. other n (fault_number t n p f) cc)

-- 9 and 10 say no number above
pub avoids_counted : (m : ℕ) (t : List ℕ) (h : ℕ) (a : Answer) → 10 < m → Avoids m a → Avoids m (counted t h a)
unfolding counted
avoids_counted m t h a gt v = avoids_check m 9 0 (eqb (total t h) 0) _ (λ q. omega arith) (avoids_check m 10 0 (leb most (total t h)) a (λ q. omega arith) v)

-- ---- 9 and 10

module _ (t : List ℕ) (h : ℕ) where
  pub counted_none : (a : Answer) → total t h ≡ 0 → counted t h a ≡ refused 9 0
  unfolding counted
  counted_none a q = check_failed 9 0 (eqb (total t h) 0) _ (tells_true (tells_eq (total t h) 0) q)

  pub counted_most : (a : Answer) → most ≤ total t h → counted t h a ≡ refused 10 0
  unfolding counted most
  counted_most a le =
      check_passed 9 0 (eqb (total t h) 0) _ (tells_false (tells_eq (total t h) 0) (λ q. omega arith))
      ∙ check_failed 10 0 (leb most (total t h)) a (tells_true (tells_le most (total t h)) le)

  pub counted_on : (a : Answer) → 1 ≤ total t h → total t h < most → counted t h a ≡ a
  unfolding counted
  counted_on a le lt =
      check_passed 9 0 (eqb (total t h) 0) _ (tells_false (tells_eq (total t h) 0) (λ q. omega arith))
      ∙ check_passed 10 0 (leb most (total t h)) a (tells_false (tells_le most (total t h)) (λ q. omega arith))

  -- 9 is said exactly where N is 0, whatever comes after, if that does not say 9
  pub says_none : (a : Answer) → (SaysNone a → ⊥) → SaysNone (counted t h a) ↔ (total t h ≡ 0)
  unfolding SaysNone
  says_none a other = (λ s. which s (split 1 (total t h)) (split most (total t h)), λ q. (0, counted_none a q))
    where
      which : (p : ℕ) × (counted t h a ≡ refused 9 p) → (1 ≤ total t h) ⊎ (total t h < 1) → (most ≤ total t h) ⊎ (total t h < most) → total t h ≡ 0
      which s (inr z) m = omega arith
      which (p, q) (inl o) (inl m) = let r : counted t h a ≡ refused 10 0 = counted_most a m in let z : ◌≡◌ {A = ℕ} 9 10 = cc in absurd (omega arith)
      which (p, q) (inl o) (inr m) = absurd (other (p, sym (counted_on a o m) ∙ q))
