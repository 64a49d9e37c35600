-- A line is read as a form exactly if it is that form written out; a text is its lines.
-- Why: parting at a byte and joining with it undo each other where no piece holds the byte; digits without a leading zero are those of their value. Assumes nothing.
use mathlib.Core.Path.{◌≡◌, refl, sym, ap, ap₂, ◌∙◌, subst}
use mathlib.Core.Logic.{◌⊎◌, inl, inr, ◌≢◌, ⊎_elim}
use mathlib.Core.Bool.{true, false, ◌&&◌}
use mathlib.Core.List.{List, [], ◌∷◌, ◌++◌, map}
use mathlib.Core.List.Memᴰ
use mathlib.Core.List.Memᴰ.{append_cases as in-append}
use mathlib.Core.List.Memᴰ.{head as here}
use mathlib.Core.List.Memᴰ.{tail as there}
use mathlib.Core.List.{Memᴰ as In}
use mathlib.Core.Option.{Option, none, some}
use Prim.Native.Nat.{ℕ, zero, suc, ◌+◌, ◌-◌, ◌*◌, ◌≤◌, ◌<◌}
use Prim.Native.String.{String}
use native.Mathlib.Omega.{arith}
use lib.IntN.{ℤ, pos, negsuc, nat_abs}
use lib.ListN.{length, get_or}
use lib.Dec.{eqb, leb}
use borrow.Author.Tests.{eq-eqb, ne_eqb, eqb-true, eqb-false, le-leb, leb-true}
use Rattle.lists.specs.Lists.{any}
use Rattle.lists.specs.Decimal.{decimal, value, value_from, Digit}
use Rattle.lists.proofs.Tests.{contra, case, and_left, and_right, or_left, or-rest, split}
use Rattle.lists.proofs.Tells.{Tells, tells_eq, tells_and}
use Rattle.lists.proofs.Decimal.{decimal-one, decimal_digit, decimal-some, decimal_lead, decimal-value, value-decimal, decimal-short, decimal-long}
use Rattle.promises.specs.Text.{split_on, init, last_of, lines, unended, fields, digits_value, number, ahead, numbers, minus, plus, signed, same, mon, gap, reply, bal, day, go, stop, amp, opens, Line, rig, ord, begins, continues, other, field, end_or, end, one, two, three, four, one_signed, two_signed, then_signed, one_or_two, any_number, bytes, form, decode}
use Rattle.promises.specs.Spelling.{preceded, written, spelled, Small, SpelledAs, signed_decimal, Spelled, joined, Spelling}
use Rattle.promises.proofs.Pieces.{Free, split_on-some, split_on-joined, split_on_free, split_on_pieces, init-last, in_init, last_in}

-- ---- numbers

-- digits are read as their value, and nothing but digits is
digits_read : (n : ℕ) (bs : List ℕ) → ((b : ℕ) → In b bs → Digit b) → digits_value n bs ≡ some (value_from n bs)
unfolding digits_value value_from
digits_read n [] w = refl
digits_read n (b ∷ bs) w = let (low, high) = w b (here refl) in rw (le-leb 48 b low, le-leb b 57 high) (digits_read (10 * n + (b - 48)) bs (λ x i. w x (there i)))

digits_are : (n m : ℕ) (bs : List ℕ) → digits_value n bs ≡ some m → ((b : ℕ) → In b bs → Digit b) × (value_from n bs ≡ m)
unfolding digits_value value_from
digits_are n m [] q = (λ b i. absurd (Memᴰ.not-nil i), cc)
digits_are n m (b ∷ bs) q =
    case (leb 48 b && leb b 57)
    (λ p. let (w, v) = digits_are (10 * n + (b - 48)) m bs (rw p at q) in (each (leb-true 48 b (and_left (leb 48 b) _ p), leb-true b 57 (and_right (leb 48 b) _ p)) w, v))
    (λ p. let z = rw p at q in let y : ◌≡◌ {A = ℕ} 0 1 = cc in absurd (omega arith))
  where
    each : Digit b → ((x : ℕ) → In x bs → Digit x) → (x : ℕ) → In x (b ∷ bs) → Digit x
    each d w x (here e) = subst Digit (sym e) d
    each d w x (there i) = w x i

number-reads : (n : ℕ) → n < 100000 → (f : List ℕ) → f ≡ decimal n → number f ≡ some n
unfolding number value
number-reads n h f q = go f q (rw (← q) at (decimal-short 5 n h (omega arith))) (digits_read 0 f (λ b i. decimal_digit n b (subst (In b) q i)) ∙ ap some (ap value q ∙ value-decimal n))
  where
    go : (f : List ℕ) → f ≡ decimal n → length f ≤ 5 → digits_value 0 f ≡ some n → number f ≡ some n
    go [] q l v = absurd (omega (arith, decimal-some n, ap length q))
    go (b ∷ []) q l v = v
    go (b ∷ (c ∷ bs)) q l v = rw (ne_eqb b 48 lead, le-leb (length bs) 3 (omega arith)) v
      where
        lead : b ≢ 48
        lead e =
            let z : n ≡ 0 = decimal_lead n (ap (λ f. get_or f 0 48) (sym q) ∙ e) in
            omega (arith, ap length (q ∙ ap decimal z ∙ decimal-one 0 (omega arith)))

number_is : (f : List ℕ) (n : ℕ) → number f ≡ some n → (f ≡ decimal n) × (n < 100000)
unfolding number value value_from
number_is [] n q = let y : ◌≡◌ {A = ℕ} 0 1 = cc in absurd (omega arith)
number_is (b ∷ []) n q =
    let (w, v) = digits_are 0 n (b ∷ []) q in
    let (low, high) = w b (here refl) in
    let small : n < 10 = omega arith in
    let digit : 48 + n ≡ b = omega arith in
    (sym (decimal-one n small ∙ rw digit), omega arith)
number_is (b ∷ (c ∷ bs)) n q =
    case (eqb b 48)
    (λ z. let y = rw z at q in let x : ◌≡◌ {A = ℕ} 0 1 = cc in absurd (omega arith))
    (λ z. case (leb (length bs) 3)
    (λ s. let (w, v) = digits_are 0 n (b ∷ (c ∷ bs)) (rw (z, s) at q) in below (leb-true (length bs) 3 s) (sym (sym (ap decimal v) ∙ decimal-value b (c ∷ bs) (eqb-false b 48 z) w)))
    (λ s. let y = rw (z, s) at q in let x : ◌≡◌ {A = ℕ} 0 1 = cc in absurd (omega arith)))
  where
    below : length bs ≤ 3 → (b ∷ (c ∷ bs)) ≡ decimal n → ((b ∷ (c ∷ bs)) ≡ decimal n) × (n < 100000)
    below l e = (e, ⊎_elim (λ h. absurd (omega (arith, decimal-long 5 n h, ap length e))) (λ h. h) (split 100000 n))

-- a field that is a signed number is that number written out
signed_is : (f : List ℕ) (x : ℤ) → signed f ≡ some x → (f ≡ signed_decimal x) × (nat_abs x < 100000)
unfolding signed
signed_is [] x q = let y : ◌≡◌ {A = ℕ} 0 1 = cc in absurd (omega arith)
signed_is (b ∷ f) x q =
    case (eqb b 45)
    (λ t. negative (number f) refl (rw t at q) (eqb-true b 45 t))
    (λ t. positive (number (b ∷ f)) refl (rw t at q))
  where
    negative : (o : Option ℕ) → number f ≡ o → minus (number f) ≡ some x → b ≡ 45 → ((b ∷ f) ≡ signed_decimal x) × (nat_abs x < 100000)
    negative none e r s = let z : none ≡ some x = unfold minus in rw e at r in let y : ◌≡◌ {A = ℕ} 0 1 = cc in absurd (omega arith)
    negative (some zero) e r s = let z : none ≡ some x = unfold minus in rw e at r in let y : ◌≡◌ {A = ℕ} 0 1 = cc in absurd (omega arith)
    negative (some (suc n)) e r s =
        let z : some (negsuc n) ≡ some x = unfold minus in rw e at r in
        let y : negsuc n ≡ x = cc in
        let (w, h) = number_is f (suc n) e in
        rw (← y) (ap₂ ◌∷◌ s w, h)

    positive : (o : Option ℕ) → number (b ∷ f) ≡ o → plus (number (b ∷ f)) ≡ some x → ((b ∷ f) ≡ signed_decimal x) × (nat_abs x < 100000)
    positive none e r = let z : none ≡ some x = unfold plus in rw e at r in let y : ◌≡◌ {A = ℕ} 0 1 = cc in absurd (omega arith)
    positive (some n) e r =
        let z : some (pos n) ≡ some x = unfold plus in rw e at r in
        let y : pos n ≡ x = cc in
        rw (← y) (number_is (b ∷ f) n e)

signed_reads : (x : ℤ) → nat_abs x < 100000 → signed (signed_decimal x) ≡ some x
unfolding signed minus plus
signed_reads (negsuc n) h = rw (number-reads (suc n) h (decimal (suc n)) refl)
signed_reads (pos n) h = go (decimal n) refl
  where
    go : (f : List ℕ) → f ≡ decimal n → signed f ≡ some (pos n)
    go [] q = absurd (omega (arith, decimal-some n, ap length q))
    go (b ∷ f) q =
        let digit = decimal_digit n b (subst (In b) q (here refl)) in
        rw (ne_eqb b 45 (λ e. omega arith), number-reads n h (b ∷ f) q)

-- ---- words

pub same_tells : (u v : List ℕ) → Tells (same u v) (u ≡ v)
unfolding same
same_tells [] [] = record { yes = λ q. refl; no = λ q h. contra refl q }
same_tells [] (b ∷ v) = record { yes = λ q. contra q refl; no = λ q h. omega (arith, ap length h) }
same_tells (a ∷ u) [] = record { yes = λ q. contra q refl; no = λ q h. omega (arith, ap length h) }
same_tells (a ∷ u) (b ∷ v) =
    let both : Tells (eqb a b && same u v) ((a ≡ b) × (u ≡ v)) = tells_and (tells_eq a b) (same_tells u v) in
    record {
      yes = λ q. let (x, y) = both.yes q in ap₂ ◌∷◌ x y;
      no = λ q h. let x : a ≡ b = cc in let y : u ≡ v = cc in both.no q (x, y);
    }

-- a byte that a word does not hold
free_any : (b : ℕ) (l : List ℕ) → any (eqb b) l ≡ false → Free b l
free_any b [] q x'' = elim x'' [ ]
free_any b (x ∷ l) q (here e) = contra (eq-eqb b x e) (or_left (eqb b x) _ q)
free_any b (x ∷ l) q (there i) = free_any b l (or-rest (eqb b x) _ q) i

-- ---- fields

small-more : (a : ℕ) (ns : List ℕ) → a < 100000 → Small ns → Small (a ∷ ns)
unfolding Small
small-more a ns h s n (here q) = rw q h
small-more a ns h s n (there i) = s n i

-- each field is its number, written out
all-numbers : (fs : List (List ℕ)) (ns : List ℕ) → numbers fs ≡ some ns → (fs ≡ map decimal ns) × Small ns
unfolding numbers ahead Small
all-numbers [] ns q = let e : [] ≡ ns = cc in rw (← e) (refl, λ n i. absurd (Memᴰ.not-nil i))
all-numbers (f ∷ fs) ns q = go (number f) (numbers fs) refl refl (all-numbers fs)
  where
    go : (o : Option ℕ) (os : Option (List ℕ)) → number f ≡ o → numbers fs ≡ os → ((ms : List ℕ) → numbers fs ≡ some ms → (fs ≡ map decimal ms) × Small ms) → ((f ∷ fs) ≡ map decimal ns) × ((n : ℕ) → In n ns → n < 100000)
    go none os d e ih = let z = rw d at q in let y : ◌≡◌ {A = ℕ} 0 1 = cc in absurd (omega arith)
    go (some a) none d e ih = let z = rw (d, e) at q in let y : ◌≡◌ {A = ℕ} 0 1 = cc in absurd (omega arith)
    go (some a) (some bs) d e ih =
        let z : some (a ∷ bs) ≡ some ns = rw (d, e) at q in
        let y : (a ∷ bs) ≡ ns = cc in
        let (w, s) = number_is f a d in
        let (v, ss) = ih bs e in
        rw (← y) (ap₂ ◌∷◌ w v, small-more a bs s ss)

-- what a form is read from
module _ (k : Line) (ne : k ≢ other) where
  -- the first field, whatever reads it
  field_is : {A : Type 0} (read : List ℕ → Option A) (rest : A → List (List ℕ) → Line) (fs : List (List ℕ)) → field read rest fs ≡ k
      → (f : List ℕ) × (gs : List (List ℕ)) × (a : A) × (fs ≡ f ∷ gs) × (read f ≡ some a) × (rest a gs ≡ k)
  unfolding field
  field_is read rest [] q = absurd (ne (sym q))
  field_is {A} read rest (f ∷ fs) q = go (read f) refl
    where
      go : (o : Option A) → read f ≡ o → (g : List ℕ) × (gs : List (List ℕ)) × (a : A) × ((f ∷ fs) ≡ g ∷ gs) × (read g ≡ some a) × (rest a gs ≡ k)
      go none e = absurd (ne (sym (rw e at q)))
      go (some a) e = (f, fs, a, refl, e, rw e at q)

  number_first : (rest : ℕ → List (List ℕ) → Line) (fs : List (List ℕ)) → field number rest fs ≡ k
      → (n : ℕ) × (gs : List (List ℕ)) × (fs ≡ decimal n ∷ gs) × (n < 100000) × (rest n gs ≡ k)
  number_first rest fs q =
      let (f, gs, n, e, r, m) = field_is number rest fs q in
      let (d, s) = number_is f n r in
      (n, gs, e ∙ ap (λ f. f ∷ gs) d, s, m)

  signed_first : (rest : ℤ → List (List ℕ) → Line) (fs : List (List ℕ)) → field signed rest fs ≡ k
      → (x : ℤ) × (gs : List (List ℕ)) × (fs ≡ signed_decimal x ∷ gs) × (nat_abs x < 100000) × (rest x gs ≡ k)
  signed_first rest fs q =
      let (f, gs, x, e, r, m) = field_is signed rest fs q in
      let (d, s) = signed_is f x r in
      (x, gs, e ∙ ap (λ f. f ∷ gs) d, s, m)

  end_is : (l : Line) (fs : List (List ℕ)) → end l fs ≡ k → (fs ≡ []) × (l ≡ k)
  unfolding end end_or
  end_is l [] q = (refl, q)
  end_is l (f ∷ fs) q = absurd (ne (sym q))

  one_is : (f : ℕ → Line) (fs : List (List ℕ)) → one f fs ≡ k → (a : ℕ) × (fs ≡ map decimal (a ∷ [])) × Small (a ∷ []) × (f a ≡ k)
  unfolding one Small
  one_is f fs q =
      let (a, gs, e, s, r) = number_first (λ a. end (f a)) fs q in
      let (g, h) = end_is (f a) gs r in
      (a, e ∙ ap (λ gs. decimal a ∷ gs) g, small-more a [] s (λ n i. absurd (Memᴰ.not-nil i)), h)

  two_is : (f : ℕ → ℕ → Line) (fs : List (List ℕ)) → two f fs ≡ k → (a : ℕ) × (b : ℕ) × (fs ≡ map decimal (a ∷ b ∷ [])) × Small (a ∷ b ∷ []) × (f a b ≡ k)
  unfolding two
  two_is f fs q =
      let (a, gs, e, s, r) = number_first (λ a. one (f a)) fs q in
      let (b, g, t, h) = one_is (f a) gs r in
      (a, b, e ∙ ap (λ gs. decimal a ∷ gs) g, small-more a _ s t, h)

  three_is : (f : ℕ → ℕ → ℕ → Line) (fs : List (List ℕ)) → three f fs ≡ k
      → (a : ℕ) × (b : ℕ) × (c : ℕ) × (fs ≡ map decimal (a ∷ b ∷ c ∷ [])) × Small (a ∷ b ∷ c ∷ []) × (f a b c ≡ k)
  unfolding three
  three_is f fs q =
      let (a, gs, e, s, r) = number_first (λ a. two (f a)) fs q in
      let (b, c, g, t, h) = two_is (f a) gs r in
      (a, b, c, e ∙ ap (λ gs. decimal a ∷ gs) g, small-more a _ s t, h)

  four_is : (f : ℕ → ℕ → ℕ → ℕ → Line) (fs : List (List ℕ)) → four f fs ≡ k
      → (a : ℕ) × (b : ℕ) × (c : ℕ) × (d : ℕ) × (fs ≡ map decimal (a ∷ b ∷ c ∷ d ∷ [])) × Small (a ∷ b ∷ c ∷ d ∷ []) × (f a b c d ≡ k)
  unfolding four
  four_is f fs q =
      let (a, gs, e, s, r) = number_first (λ a. three (f a)) fs q in
      let (b, c, d, g, t, h) = three_is (f a) gs r in
      (a, b, c, d, e ∙ ap (λ gs. decimal a ∷ gs) g, small-more a _ s t, h)

  one_signed_is : (f : ℤ → Line) (fs : List (List ℕ)) → one_signed f fs ≡ k → (x : ℤ) × (fs ≡ signed_decimal x ∷ []) × (nat_abs x < 100000) × (f x ≡ k)
  unfolding one_signed
  one_signed_is f fs q =
      let (x, gs, e, s, r) = signed_first (λ d. end (f d)) fs q in
      let (g, h) = end_is (f x) gs r in
      (x, e ∙ ap (λ gs. signed_decimal x ∷ gs) g, s, h)

  two_signed_is : (f : ℤ → ℤ → Line) (fs : List (List ℕ)) → two_signed f fs ≡ k
      → (x : ℤ) × (y : ℤ) × (fs ≡ signed_decimal x ∷ signed_decimal y ∷ []) × (nat_abs x < 100000) × (nat_abs y < 100000) × (f x y ≡ k)
  unfolding two_signed
  two_signed_is f fs q =
      let (x, gs, e, s, r) = signed_first (λ a. one_signed (f a)) fs q in
      let (y, g, t, h) = one_signed_is (f x) gs r in
      (x, y, e ∙ ap (λ gs. signed_decimal x ∷ gs) g, s, t, h)

  then_signed_is : (f : ℕ → ℤ → Line) (fs : List (List ℕ)) → then_signed f fs ≡ k
      → (a : ℕ) × (x : ℤ) × (fs ≡ decimal a ∷ signed_decimal x ∷ []) × (a < 100000) × (nat_abs x < 100000) × (f a x ≡ k)
  unfolding then_signed
  then_signed_is f fs q =
      let (a, gs, e, s, r) = number_first (λ a. one_signed (f a)) fs q in
      let (x, g, t, h) = one_signed_is (f a) gs r in
      (a, x, e ∙ ap (λ gs. decimal a ∷ gs) g, s, t, h)

  one_or_two_is : (f : ℕ → Line) (g : ℕ → ℕ → Line) (fs : List (List ℕ)) → one_or_two f g fs ≡ k
      → ((a : ℕ) × (fs ≡ map decimal (a ∷ [])) × Small (a ∷ []) × (f a ≡ k)) ⊎ ((a : ℕ) × (b : ℕ) × (fs ≡ map decimal (a ∷ b ∷ [])) × Small (a ∷ b ∷ []) × (g a b ≡ k))
  unfolding one_or_two end_or Small
  one_or_two_is f g fs q = let (a, gs, e, s, r) = number_first (λ a. end_or (f a) (one (g a))) fs q in whole a gs e s r
    where
      whole : (a : ℕ) (gs : List (List ℕ)) → fs ≡ decimal a ∷ gs → a < 100000 → end_or (f a) (one (g a)) gs ≡ k
          → ((a : ℕ) × (fs ≡ map decimal (a ∷ [])) × Small (a ∷ []) × (f a ≡ k)) ⊎ ((a : ℕ) × (b : ℕ) × (fs ≡ map decimal (a ∷ b ∷ [])) × Small (a ∷ b ∷ []) × (g a b ≡ k))
      whole a [] e s r = inl (a, e, small-more a [] s (λ n i. absurd (Memᴰ.not-nil i)), r)
      whole a (x ∷ gs) e s r = let (b, i, t, j) = one_is (g a) (x ∷ gs) r in inr (a, b, e ∙ ap (λ gs. decimal a ∷ gs) i, small-more a _ s t, j)

  numbers_are : (f : List ℕ → Line) (fs : List (List ℕ)) → any_number f fs ≡ k → (ns : List ℕ) × (fs ≡ map decimal ns) × Small ns × (f ns ≡ k)
  unfolding any_number
  numbers_are f fs q = go (numbers fs) refl
    where
      go : (o : Option (List ℕ)) → numbers fs ≡ o → (ns : List ℕ) × (fs ≡ map decimal ns) × Small ns × (f ns ≡ k)
      go none e = absurd (ne (sym (rw e at q)))
      go (some ns) e = let (d, s) = all-numbers fs ns e in (ns, d, s, rw e at q)

-- what is read as a form
field-reads : (rest : ℕ → List (List ℕ) → Line) (n : ℕ) (gs : List (List ℕ)) → n < 100000 → field number rest (decimal n ∷ gs) ≡ rest n gs
unfolding field
field-reads rest n gs h = rw (number-reads n h (decimal n) refl)

signed-field-reads : (rest : ℤ → List (List ℕ) → Line) (x : ℤ) (gs : List (List ℕ)) → nat_abs x < 100000 → field signed rest (signed_decimal x ∷ gs) ≡ rest x gs
unfolding field
signed-field-reads rest x gs h = rw (signed_reads x h)

one-signed-reads : (f : ℤ → Line) (x : ℤ) → nat_abs x < 100000 → one_signed f (signed_decimal x ∷ []) ≡ f x
unfolding one_signed end end_or
one-signed-reads f x h = signed-field-reads (λ d. end (f d)) x [] h

two-signed-reads : (f : ℤ → ℤ → Line) (x y : ℤ) → nat_abs x < 100000 → nat_abs y < 100000 → two_signed f (signed_decimal x ∷ signed_decimal y ∷ []) ≡ f x y
unfolding two_signed
two-signed-reads f x y h k = signed-field-reads (λ a. one_signed (f a)) x (signed_decimal y ∷ []) h ∙ one-signed-reads (f x) y k

then_signed-reads : (f : ℕ → ℤ → Line) (a : ℕ) (x : ℤ) → a < 100000 → nat_abs x < 100000 → then_signed f (decimal a ∷ signed_decimal x ∷ []) ≡ f a x
unfolding then_signed
then_signed-reads f a x h k = field-reads (λ a. one_signed (f a)) a (signed_decimal x ∷ []) h ∙ one-signed-reads (f a) x k

one-reads : (f : ℕ → Line) (a : ℕ) → Small (a ∷ []) → one f (map decimal (a ∷ [])) ≡ f a
unfolding one end end_or Small
one-reads f a s = field-reads (λ a. end (f a)) a [] (s a (here refl))

two-reads : (f : ℕ → ℕ → Line) (a b : ℕ) → Small (a ∷ b ∷ []) → two f (map decimal (a ∷ b ∷ [])) ≡ f a b
unfolding two Small
two-reads f a b s = field-reads (λ a. one (f a)) a (map decimal (b ∷ [])) (s a (here refl)) ∙ one-reads (f a) b (λ n i. s n (there i))

three-reads : (f : ℕ → ℕ → ℕ → Line) (a b c : ℕ) → Small (a ∷ b ∷ c ∷ []) → three f (map decimal (a ∷ b ∷ c ∷ [])) ≡ f a b c
unfolding three Small
three-reads f a b c s = field-reads (λ a. two (f a)) a (map decimal (b ∷ c ∷ [])) (s a (here refl)) ∙ two-reads (f a) b c (λ n i. s n (there i))

four-reads : (f : ℕ → ℕ → ℕ → ℕ → Line) (a b c d : ℕ) → Small (a ∷ b ∷ c ∷ d ∷ []) → four f (map decimal (a ∷ b ∷ c ∷ d ∷ [])) ≡ f a b c d
unfolding four Small
four-reads f a b c d s = field-reads (λ a. three (f a)) a (map decimal (b ∷ c ∷ d ∷ [])) (s a (here refl)) ∙ three-reads (f a) b c d (λ n i. s n (there i))

one-of-two-reads : (f : ℕ → Line) (g : ℕ → ℕ → Line) (a : ℕ) → Small (a ∷ []) → one_or_two f g (map decimal (a ∷ [])) ≡ f a
unfolding one_or_two end_or Small
one-of-two-reads f g a s = field-reads (λ a. end_or (f a) (one (g a))) a [] (s a (here refl))

two-of-two-reads : (f : ℕ → Line) (g : ℕ → ℕ → Line) (a b : ℕ) → Small (a ∷ b ∷ []) → one_or_two f g (map decimal (a ∷ b ∷ [])) ≡ g a b
unfolding one_or_two end_or Small
two-of-two-reads f g a b s = field-reads (λ a. end_or (f a) (one (g a))) a (map decimal (b ∷ [])) (s a (here refl)) ∙ one-reads (g a) b (λ n i. s n (there i))

pub numbers_read : (ns : List ℕ) → Small ns → numbers (map decimal ns) ≡ some ns
unfolding numbers ahead Small
numbers_read [] s = refl
numbers_read (n ∷ ns) s = rw (number-reads n (s n (here refl)) (decimal n) refl, numbers_read ns (λ m i. s m (there i)))

-- ---- a word and its numbers

decimal_free : (b n : ℕ) → b < 48 → Free b (decimal n)
decimal_free b n h i = omega (arith, (decimal_digit n b i).0)

signed_free : (x : ℤ) → Free 9 (signed_decimal x)
signed_free (pos n) i = decimal_free 9 n (omega arith) i
signed_free (negsuc n) (here e) = omega arith
signed_free (negsuc n) (there i) = decimal_free 9 (suc n) (omega arith) i

decimals_free : (ns : List ℕ) (q : List ℕ) → In q (map decimal ns) → Free 9 q
decimals_free [] q x' = elim x' [ ]
decimals_free (n ∷ ns) q (here e) = subst (Free 9) (sym e) (decimal_free 9 n (omega arith))
decimals_free (n ∷ ns) q (there i) = decimals_free ns q i

two_free : (f g q : List ℕ) → Free 9 f → Free 9 g → In q (f ∷ g ∷ []) → Free 9 q
two_free f g q a b (here e) = subst (Free 9) (sym e) a
two_free f g q a b (there i) = subst (Free 9) (sym (Memᴰ.eq_of_singleton i)) b

fields-written : (w : String) (fs : List (List ℕ)) → any (eqb 9) (bytes w) ≡ false → ((q : List ℕ) → In q fs → Free 9 q) → fields (written w fs) ≡ bytes w ∷ fs
unfolding fields
fields-written w fs q free = split_on_pieces 9 (bytes w) fs (free_any 9 (bytes w) q) free

pub fields-spelled : (w : String) (ns : List ℕ) → any (eqb 9) (bytes w) ≡ false → fields (spelled w ns) ≡ bytes w ∷ map decimal ns
unfolding spelled
fields-spelled w ns q = fields-written w (map decimal ns) q (decimals_free ns)

-- no line end is inside
pub spelled_free : (w : String) (ns : List ℕ) → any (eqb 10) (bytes w) ≡ false → Free 10 (spelled w ns)
unfolding spelled
spelled_free w ns q i = ⊎_elim (free_any 10 (bytes w) q) (numbers_free ns) (in-append (bytes w) i)
  where
    numbers_free : (ns : List ℕ) → Free 10 (preceded 9 (map decimal ns))
    numbers_free [] j = Memᴰ.not-nil j
    numbers_free (n ∷ ns) (here e) = omega arith
    numbers_free (n ∷ ns) (there j) = ⊎_elim (decimal_free 10 n (omega arith)) (numbers_free ns) (in-append (decimal n) j)

written-fields : (w : String) (gs : List (List ℕ)) (l v : List ℕ) (fs : List (List ℕ)) → split_on 9 l ≡ v ∷ fs → same v (bytes w) ≡ true → fs ≡ gs → l ≡ written w gs
written-fields w gs l v fs q t e = split_on-joined 9 l v fs q ∙ ap₂ (λ v fs. v ++ preceded 9 fs) ((same_tells v (bytes w)).yes t) e

spelled-fields : (w : String) (ns l : List ℕ) (v : List ℕ) (fs : List (List ℕ)) → split_on 9 l ≡ v ∷ fs → same v (bytes w) ≡ true → fs ≡ map decimal ns → Small ns → SpelledAs w ns l
unfolding spelled
spelled-fields w ns l v fs q t e s = (written-fields w (map decimal ns) l v fs q t e, s)

-- ---- the forms

form-spelled : (l v : List ℕ) (fs : List (List ℕ)) → split_on 9 l ≡ v ∷ fs → (k : Line) → k ≢ other → form (v ∷ fs) ≡ k → Spelled k l
unfolding form Spelled
form-spelled l v fs e k ne q =
    case (same v (bytes "rig"))
    (λ t. let (a, g, s, r) = one_is k ne (λ E. rig E) fs (rw t at q) in subst (λ k. Spelled k l) r (spelled-fields "rig" (a ∷ []) l v fs e t g s))
    (λ t. case (same v (bytes "mon"))
    (λ u. ⊎_elim
    (λ (a, g, s, r). subst (λ k. Spelled k l) r (inr (refl, spelled-fields "mon" (a ∷ []) l v fs e u g s)))
    (λ (a, b, g, s, r). subst (λ k. Spelled k l) r (inl (spelled-fields "mon" (a ∷ b ∷ []) l v fs e u g s)))
    (one_or_two_is k ne (λ S. begins (mon S 0)) (λ S a. begins (mon S a)) fs (rw (t, u) at q)))
    (λ u. case (same v (bytes "go"))
    (λ x. let (a, b, c, g, s, r) = three_is k ne (λ s e t. continues (go s e t)) fs (rw (t, u, x) at q) in subst (λ k. Spelled k l) r (spelled-fields "go" (a ∷ b ∷ c ∷ []) l v fs e x g s))
    (λ x. case (same v (bytes "ord"))
    (λ y. let (ns, g, s, r) = numbers_are k ne (λ es. ord es) fs (rw (t, u, x, y) at q) in subst (λ k. Spelled k l) r (spelled-fields "ord" ns l v fs e y g s))
    (λ y. case (same v (bytes "stop"))
    (λ z. let (a, g, s, r) = one_is k ne (λ s. continues (stop s)) fs (rw (t, u, x, y, z) at q) in subst (λ k. Spelled k l) r (spelled-fields "stop" (a ∷ []) l v fs e z g s))
    (λ z. case (same v (bytes "gap"))
    (λ m. let (a, b, g, s, r) = two_is k ne (λ e n. begins (gap e n)) fs (rw (t, u, x, y, z, m) at q) in subst (λ k. Spelled k l) r (spelled-fields "gap" (a ∷ b ∷ []) l v fs e m g s))
    (λ m. case (same v (bytes "reply"))
    (λ n. let (a, b, c, d, g, s, r) = four_is k ne (λ a b lo hi. begins (reply a b lo hi)) fs (rw (t, u, x, y, z, m, n) at q) in subst (λ k. Spelled k l) r (spelled-fields "reply" (a ∷ b ∷ c ∷ d ∷ []) l v fs e n g s))
    (λ n. case (same v (bytes "bal"))
    (λ o. let (a, b, g, c, d, r) = two_signed_is k ne (λ lo hi. begins (bal lo hi)) fs (rw (t, u, x, y, z, m, n, o) at q) in subst (λ k. Spelled k l) r (written-fields "bal" (signed_decimal a ∷ signed_decimal b ∷ []) l v fs e o g, c, d))
    (λ o. case (same v (bytes "amp"))
    (λ p. let (a, b, g, c, d, r) = then_signed_is k ne (λ e d. continues (amp e d)) fs (rw (t, u, x, y, z, m, n, o, p) at q) in subst (λ k. Spelled k l) r (written-fields "amp" (decimal a ∷ signed_decimal b ∷ []) l v fs e p g, c, d))
    (λ p. case (same v (bytes "day"))
    (λ i. let (a, g, s, r) = one_is k ne (λ T. begins (day T)) fs (rw (t, u, x, y, z, m, n, o, p, i) at q) in subst (λ k. Spelled k l) r (spelled-fields "day" (a ∷ []) l v fs e i g s))
    (λ i. case (same v (bytes "open"))
    (λ j. let (a, b, c, g, s, r) = three_is k ne (λ e a b. continues (opens e a b)) fs (rw (t, u, x, y, z, m, n, o, p, i, j) at q) in subst (λ k. Spelled k l) r (spelled-fields "open" (a ∷ b ∷ c ∷ []) l v fs e j g s))
    (λ j. absurd (ne (sym (rw (t, u, x, y, z, m, n, o, p, i, j) at q))))))))))))))

spelled_decodes : (k : Line) (l : List ℕ) → Spelled k l → decode l ≡ k
unfolding decode Spelled form same
spelled_decodes (rig E) l (q, s) = rw (q, fields-spelled "rig" (E ∷ []) refl) (one-reads (λ E. rig E) E s)
spelled_decodes (ord es) l (q, s) = unfold any_number in rw (q, fields-spelled "ord" es refl, numbers_read es s)
spelled_decodes (begins (mon S a)) l (inl (q, s)) = rw (q, fields-spelled "mon" (S ∷ a ∷ []) refl) (two-of-two-reads (λ S. begins (mon S 0)) (λ S a. begins (mon S a)) S a s)
spelled_decodes (begins (mon S a)) l (inr (z, (q, s))) = rw (z, q, fields-spelled "mon" (S ∷ []) refl) (one-of-two-reads (λ S. begins (mon S 0)) (λ S a. begins (mon S a)) S s)
spelled_decodes (begins (gap a b)) l (q, s) = rw (q, fields-spelled "gap" (a ∷ b ∷ []) refl) (two-reads (λ e n. begins (gap e n)) a b s)
spelled_decodes (begins (reply a b c d)) l (q, s) = rw (q, fields-spelled "reply" (a ∷ b ∷ c ∷ d ∷ []) refl) (four-reads (λ a b lo hi. begins (reply a b lo hi)) a b c d s)
spelled_decodes (begins (bal lo hi)) l (q, a, b) =
    rw (q, fields-written "bal" (signed_decimal lo ∷ signed_decimal hi ∷ []) refl (λ f. two_free (signed_decimal lo) (signed_decimal hi) f (signed_free lo) (signed_free hi)))
    (two-signed-reads (λ lo hi. begins (bal lo hi)) lo hi a b)
spelled_decodes (begins (day T)) l (q, s) = rw (q, fields-spelled "day" (T ∷ []) refl) (one-reads (λ T. begins (day T)) T s)
spelled_decodes (continues (go a b c)) l (q, s) = rw (q, fields-spelled "go" (a ∷ b ∷ c ∷ []) refl) (three-reads (λ s e t. continues (go s e t)) a b c s)
spelled_decodes (continues (stop a)) l (q, s) = rw (q, fields-spelled "stop" (a ∷ []) refl) (one-reads (λ s. continues (stop s)) a s)
spelled_decodes (continues (amp e d)) l (q, a, b) =
    rw (q, fields-written "amp" (decimal e ∷ signed_decimal d ∷ []) refl (λ f. two_free (decimal e) (signed_decimal d) f (decimal_free 9 e (omega arith)) (signed_free d)))
    (then_signed-reads (λ e d. continues (amp e d)) e d a b)
spelled_decodes (continues (opens a b c)) l (q, s) = rw (q, fields-spelled "open" (a ∷ b ∷ c ∷ []) refl) (three-reads (λ e a b. continues (opens e a b)) a b c s)
spelled_decodes other l never = absurd never

pub spelling : Spelling
unfolding decode fields lines unended
spelling = record {
  forms = λ k ne l. (λ q. let (v, fs, e) = split_on-some 9 l in form-spelled l v fs e k ne (sym (ap form e) ∙ q), spelled_decodes k l);
  numbers = λ f n. (number_is f n, λ (q, h). number-reads n h f q);
  signed_numbers = λ f x. (signed_is f x, λ (q, h). rw q (signed_reads x h));
  whole = λ t. let (p, ps, e) = split_on-some 10 t in ap (λ ps. joined (init ps) ++ last_of ps) e ∙ init-last p ps ∙ sym (split_on-joined 10 t p ps e);
  inside_line = λ t l i. split_on_free 10 t l (in_init l (split_on 10 t) i);
  inside_rest = λ t. let (p, ps, e) = split_on-some 10 t in split_on_free 10 t (last_of (split_on 10 t)) (rw e (last_in p ps));
}
