-- Numbers read digit by digit, and the forms of a line's fields read field by field. Assumes nothing.
use mathlib.Core.Path.{◌≡◌, refl, sym, ap, ◌∙◌}
use mathlib.Core.Bool.{Bool, true, false}
use mathlib.Core.List.{List, [], ◌∷◌}
use mathlib.Core.Option.{Option, none, some, none-ne-some}
use Prim.Native.Nat.{ℕ, suc, ◌+◌, ◌*◌, ◌-◌, ◌≤◌, ◌<◌}
use Prim.Native.String.{String}
use native.Mathlib.Numerals.{add-one}
use native.Mathlib.Omega.{arith}
use lib.ListN.{length, get_or, take, drop, drop_of_length-le, length-drop}
use lib.Seq.{drop-cons, take_all}
use lib.Dec.{eqb, leb, ltb}
use borrow.Author.Tests.{eq-eqb, ne_eqb, le-leb, lt-leb, leb-true, ltb-true, ltb-false}
use denote.Ref.{Bor}
use Rattle.std.specs.Prelude.{None, Some, MatchBool, is_some, not}
use Rattle.std.specs.Prelude as std
use Rattle.std.specs.Char.{is_ascii_digit}
use Rattle.lists.specs.Lists.{pick, index_of}
use Rattle.std.specs.Cmp.Lexicographic.{pointwise, same_text}
use Rattle.lists.proofs.Tests.{contra, case}
use Rattle.promises.specs.Text.{Line, ord, other, bytes, onto, split_on, same, fields, digits_value, number, field, end_or, end, any_number, form, decode}
use Rattle.promises.proofs.Pieces.{split_on-some}
use Rattle.promises.proofs.Spelling.{same_tells}
use Rattle.decoding.specs.Forms.{value_of, left_of, FieldBy, LastBy, fields_from, leading, listed_in}
use Rattle.decoding.proofs.Parts.{split_on-whole, split_on-first, same_is}

-- ---- digits

module _ (s : List ℕ) (n i : ℕ) where
  pub digits_more : i < length s → true ≡ is_ascii_digit (get_or s i 0) → digits_value n (drop i s) ≡ digits_value (10 * n + (get_or s i 0 - 48)) (drop (i + 1) s)
  unfolding digits_value
  digits_more h digit = rw (drop-cons s i 0 h, ← digit, add-one)

  pub digits_none : i < length s → false ≡ is_ascii_digit (get_or s i 0) → digits_value n (drop i s) ≡ none
  unfolding digits_value
  digits_none h digit = rw (drop-cons s i 0 h, ← digit)

  pub digits_end : length s ≤ i → digits_value n (drop i s) ≡ some n
  unfolding digits_value
  digits_end h = rw (drop_of_length-le s {i = i} h)

-- ---- numbers

pub number-empty : (s : List ℕ) → length s ≡ 0 → number s ≡ none
unfolding number
number-empty [] h = refl
number-empty (a ∷ s) h = absurd (omega arith)

pub number-long : (s : List ℕ) → 5 < length s → number s ≡ none
unfolding number
number-long [] h = absurd (omega arith)
number-long (a ∷ []) h = absurd (omega arith)
number-long (a ∷ (b ∷ s)) h = go (eqb a 48) (leb (length s) 3) (lt-leb (length s) 3 (omega arith))
  where
    go : (x y : Bool) → y ≡ false → pick x none (pick y (digits_value 0 (a ∷ (b ∷ s))) none) ≡ none
    go true y q = refl
    go false y q = rw q

pub number_zero : (s : List ℕ) → 1 < length s → get_or s 0 0 ≡ 48 → number s ≡ none
unfolding number
number_zero [] h q = absurd (omega arith)
number_zero (a ∷ []) h q = absurd (omega arith)
number_zero (a ∷ (b ∷ s)) h q = rw (eq-eqb a 48 q)

pub number-one : (s : List ℕ) → length s ≡ 1 → number s ≡ digits_value 0 s
unfolding number
number-one [] h = absurd (omega arith)
number-one (a ∷ []) h = refl
number-one (a ∷ (b ∷ s)) h = absurd (omega arith)

pub number_digits : (s : List ℕ) → 1 < length s → length s ≤ 5 → (get_or s 0 0 ≡ 48 → ⊥) → number s ≡ digits_value 0 s
unfolding number
number_digits [] h k q = absurd (omega arith)
number_digits (a ∷ []) h k q = absurd (omega arith)
number_digits (a ∷ (b ∷ s)) h k q = rw (ne_eqb a 48 q, le-leb (length s) 3 (omega arith))

-- ---- fields

-- a line has at least one field
pub end_or-more : (k : Line) (more : List (List ℕ) → Line) (l : List ℕ) → end_or k more (fields l) ≡ more (fields l)
unfolding end_or fields
end_or-more k more l = let (p, ps, e) = split_on-some 9 l in rw e

-- the first field, and the fields after the byte 9
pub fields_parted : (s f more : List ℕ) → (index_of s 9 < length s) × (f ≡ take (index_of s 9) s) × (more ≡ drop (index_of s 9 + 1) s) → fields s ≡ f ∷ fields more
unfolding fields
fields_parted s f more h = rw (h.1, h.2) (split_on-first 9 s h.0)

-- a number has no byte 9
digits-free : (n m : ℕ) (f : List ℕ) → some m ≡ digits_value n f → length f ≤ index_of f 9
unfolding digits_value index_of
digits-free n m [] q = omega arith
digits-free n m (b ∷ f) q = case (leb 48 b)
    (λ p. case (leb b 57)
    (λ r. rw (ne_eqb b 9 (λ e. omega (arith, leb-true 48 b p))) (omega (arith, digits-free (10 * n + (b - 48)) m f (rw (p, r) at q))))
    (λ r. absurd (none-ne-some m (sym (rw (p, r) at q)))))
    (λ p. absurd (none-ne-some m (sym (rw p at q))))

pub number-free : (f : List ℕ) (m : ℕ) → some m ≡ number f → length f ≤ index_of f 9
unfolding number
number-free [] m q = omega arith
number-free (b ∷ []) m q = digits-free 0 m (b ∷ []) q
number-free (b ∷ (d ∷ f)) m q = go (eqb b 48) (leb (length f) 3) q
  where
    go : (x y : Bool) → some m ≡ pick x none (pick y (digits_value 0 (b ∷ (d ∷ f))) none) → length (b ∷ (d ∷ f)) ≤ index_of (b ∷ (d ∷ f)) 9
    go true y h = absurd (none-ne-some m (sym h))
    go false true h = digits-free 0 m (b ∷ (d ∷ f)) h
    go false false h = absurd (none-ne-some m (sym h))

-- a field, read, and what becomes of a form
module _ {A : Type 0} (read : List ℕ → Option A) where
  pub field_read : (f : List ℕ) (fs : List (List ℕ)) (o : std.Option A) → value_of o ≡ read f → FieldBy read (f ∷ fs) o fs
  unfolding field
  field_read f fs None q = λ rest h. rw (← q)
  field_read f fs (Some a) q = λ rest. rw (← q)

  -- no field follows
  pub field_alone : (fs gs : List (List ℕ)) → length fs ≤ 1 → FieldBy read fs None gs
  unfolding field
  field_alone [] gs h = λ rest stops. refl
  field_alone (f ∷ []) gs h = λ rest stops. go rest stops (read f) refl
    where
      go : (rest : A → List (List ℕ) → Line) → ((a : A) → rest a [] ≡ other) → (o : Option A) → read f ≡ o → field read rest (f ∷ []) ≡ other
      go rest stops none q = rw q
      go rest stops (some a) q = rw q (stops a)
  field_alone (f ∷ (g ∷ fs)) gs h = absurd (omega arith)

  -- the only field, where what is read has no byte 9
  pub last_read : ((f : List ℕ) (a : A) → some a ≡ read f → length f ≤ index_of f 9) → (s : List ℕ) (o : std.Option A) → value_of o ≡ read s → LastBy read (fields s) o
  unfolding field fields end end_or
  last_read free s (Some a) q = λ l. rw (split_on-whole 9 s (free s a q), ← q)
  last_read free s None q = λ l. case (ltb (index_of s 9) (length s))
      (λ p. rw (split_on-first 9 s (ltb-true _ _ p)) (go l (read (take (index_of s 9) s)) refl))
      (λ p. rw (split_on-whole 9 s (ltb-false _ _ p), ← q))
    where
      go : (l : A → Line) (o : Option A) → read (take (index_of s 9) s) ≡ o → field read (λ a. end (l a)) (take (index_of s 9) s ∷ split_on 9 (drop (index_of s 9 + 1) s)) ≡ other
      go l none p = rw p
      go l (some a) p = rw p (end_or-more (l a) (λ fs. other) (drop (index_of s 9 + 1) s))

-- whether no field is left
pub none_left : (r : std.Option (Bor (List ℕ))) (empty : Bool) → is_some r ≡ not empty → MatchBool empty ((k : Line) → (more : List (List ℕ) → Line) → end_or k more (left_of r) ≡ k) ((k : Line) → (more : List (List ℕ) → Line) → end_or k more (left_of r) ≡ more (left_of r))
unfolding end_or
none_left None true q = λ k more. refl
none_left None false q = contra refl (sym q)
none_left (Some s) true q = contra refl q
none_left (Some s) false q = λ k more. end_or-more k more s.now

-- the part of a list from k on is all that is left
pub rest-whole : (l : List ℕ) (k : ℕ) → take (length l - k) (drop k l) ≡ drop k l
rest-whole l k = take_all (length l - k) (drop k l) (rw length-drop (omega arith))

-- ---- forms, by their word

-- the word is the first field
pub fields-first : (l : List ℕ) → fields l ≡ take (index_of l 9) l ∷ fields_from l (index_of l 9)
unfolding fields fields_from
fields-first l = case (ltb (index_of l 9) (length l))
    (λ p. rw p (split_on-first 9 l (ltb-true (index_of l 9) (length l) p)))
    (λ p. let h = ltb-false (index_of l 9) (length l) p in rw (p, take_all (index_of l 9) l h) (split_on-whole 9 l h))

-- a line has a field
pub fields-some : (l : List ℕ) → fields l ≡ [] → ⊥
unfolding fields
fields-some l q = let (p, ps, e) = split_on-some 9 l in cc

onto-longer : (x : ℕ) (ps : List (List ℕ)) → length (onto x ps) ≤ suc (length ps)
unfolding onto
onto-longer x [] = omega arith
onto-longer x (p ∷ ps) = omega arith

-- at most one field more than there are bytes
pub fields-few : (l : List ℕ) → length (fields l) ≤ suc (length l)
unfolding fields split_on
fields-few [] = omega arith
fields-few (x ∷ l) = case (eqb x 9)
    (λ p. rw p (omega (arith, fields-few l)))
    (λ p. rw p (omega (arith, fields-few l, onto-longer x (split_on 9 l))))

-- a line of the word w and the fields gs
module _ (l w : List ℕ) (gs : List (List ℕ)) (parted : fields l ≡ w ∷ gs) where
  first_parted : take (index_of l 9) l ∷ fields_from l (index_of l 9) ≡ w ∷ gs
  first_parted = sym (fields-first l) ∙ parted

  word_is : take (index_of l 9) l ≡ w
  word_is = let e = first_parted in cc

  rest_is : fields_from l (index_of l 9) ≡ gs
  rest_is = let e = first_parted in cc

  pub decode_ord : same w (bytes "ord") ≡ true → decode l ≡ any_number (λ es. ord es) gs
  unfolding decode form same
  decode_ord p = ap form parted ∙ ap (λ v. form (v ∷ gs)) ((same_tells w (bytes "ord")).yes p)

  pub decode_more : decode l ≡ form (w ∷ gs)
  unfolding decode
  decode_more = ap form parted

  pub listed_ord : same w (bytes "ord") ≡ true → listed_in l ≡ leading gs
  unfolding listed_in
  listed_ord p = rw (word_is, rest_is, p)

  pub listed_none : same w (bytes "ord") ≡ false → listed_in l ≡ []
  unfolding listed_in
  listed_none p = rw (word_is, p)

-- the fields after a word
pub form_named : (w v : List ℕ) (name : String) (fs : List (List ℕ)) → true ≡ pointwise eqb w v → v ≡ bytes name → form (w ∷ fs) ≡ form (bytes name ∷ fs)
form_named w v name fs p q = ap (λ u. form (u ∷ fs)) (same_text w v p ∙ q)

pub same_not : (w v : List ℕ) (name : String) → false ≡ pointwise eqb w v → v ≡ bytes name → same w (bytes name) ≡ false
same_not w v name p q = same_is w (bytes name) ∙ ap (pointwise eqb w) (sym q) ∙ sym p

pub same_so : (w v : List ℕ) (name : String) → true ≡ pointwise eqb w v → v ≡ bytes name → same w (bytes name) ≡ true
same_so w v name p q = same_is w (bytes name) ∙ ap (pointwise eqb w) (sym q) ∙ sym p

pub form_other : (w : List ℕ) (fs : List (List ℕ)) → same w (bytes "rig") ≡ false → same w (bytes "mon") ≡ false → same w (bytes "go") ≡ false → same w (bytes "ord") ≡ false → same w (bytes "stop") ≡ false
    → same w (bytes "gap") ≡ false → same w (bytes "reply") ≡ false → same w (bytes "bal") ≡ false → same w (bytes "amp") ≡ false → same w (bytes "day") ≡ false → same w (bytes "open") ≡ false
    → form (w ∷ fs) ≡ other
unfolding form
form_other w fs p q r o s g y b a d n = rw (p, q, r, o, s, g, y, b, a, d, n)
