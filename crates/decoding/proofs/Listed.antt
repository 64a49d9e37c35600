-- The numbers of an `ord` line, read one by one and written over the front of a list. Assumes nothing.
--   Reads fs gs es == of the fields fs the numbers es are read, and gs are left
use mathlib.Core.Path.{◌≡◌, refl, sym, ap, ◌∙◌}
use mathlib.Core.Bool.{true, false}
use mathlib.Core.List.{List, [], ◌∷◌, ◌++◌, map, append-nil, append_assoc}
use mathlib.Core.Option.{Option, none, some, none-ne-some}
use Prim.Native.Nat.{ℕ, suc, ◌+◌, ◌≤◌, ◌<◌, min}
use native.Mathlib.Omega.{arith}
use lib.ListN.{length, take, set, length-append}
use Rattle.lists.specs.Lists.{index_of}
use Rattle.lists.proofs.Tests.{contra, case}
use Rattle.lists.specs.Decimal.{decimal}
use Rattle.lists.proofs.Tells.{tells_true}
use Rattle.promises.specs.Text.{Line, rig, ord, begins, continues, other, bytes, same, fields, number, ahead, numbers, any_number, decode}
use Rattle.promises.specs.Spelling.{Spelled}
use Rattle.promises.proofs.Spelling.{same_tells, fields-spelled, spelling}
use Rattle.decoding.specs.Forms.{over, fields_from, on_first, leading, listed_in}
use Rattle.decoding.proofs.Numbers.{fields-first, decode_ord}

-- ---- the list that is written over

pub length_over : (es os : List ℕ) → length (over es os) ≡ length os
unfolding over
length_over [] os = refl
length_over (e ∷ es) [] = refl
length_over (e ∷ es) (o ∷ os) = ap suc (length_over es os)

-- one number more
pub over-more : (es os : List ℕ) (e : ℕ) → length es < length os → set (over es os) (length es) (min e 255) ≡ over (es ++ (e ∷ [])) os
unfolding over
over-more [] [] e h = absurd (omega arith)
over-more [] (o ∷ os) e h = refl
over-more (d ∷ es) [] e h = absurd (omega arith)
over-more (d ∷ es) (o ∷ os) e h = ap (λ l. min d 255 ∷ l) (over-more es os e (omega arith))

-- one that there is no room for
pub over-past : (es os : List ℕ) (e : ℕ) → length os ≤ length es → over es os ≡ over (es ++ (e ∷ [])) os
unfolding over
over-past [] [] e h = refl
over-past [] (o ∷ os) e h = absurd (omega arith)
over-past (d ∷ es) [] e h = refl
over-past (d ∷ es) (o ∷ os) e h = ap (λ l. min d 255 ∷ l) (over-past es os e (omega arith))

-- ---- the fields that are left

-- the elements of a list after es, where there is one
unfoldable pub prefixed : List ℕ → Option (List ℕ) → Option (List ℕ)
prefixed es none = none
prefixed es (some l) = some (es ++ l)

pub record Reads (fs gs : List (List ℕ)) (es : List ℕ) : Type 0 where
  pub left : numbers fs ≡ prefixed es (numbers gs)
  pub led : leading fs ≡ es ++ leading gs
  pub few : length es + length gs ≡ length fs

pub reads_none : (fs : List (List ℕ)) → Reads fs fs []
unfolding prefixed
reads_none fs = record { left = go (numbers fs); led = refl; few = omega arith }
  where
    go : (o : Option (List ℕ)) → o ≡ prefixed [] o
    go none = refl
    go (some ns) = refl

module _ (fs gs : List (List ℕ)) (es : List ℕ) (R : Reads fs gs es) where
  -- f is the first field of those that are left
  module _ (f : List ℕ) (rest : List (List ℕ)) (parted : gs ≡ f ∷ rest) where
    first_left : numbers gs ≡ ahead (number f) (numbers rest)
    unfolding numbers
    first_left = ap numbers parted

    first_led : leading gs ≡ on_first (number f) (leading rest)
    unfolding leading
    first_led = ap leading parted

    -- one field more
    pub reads_more : (n : ℕ) → some n ≡ number f → Reads fs rest (es ++ (n ∷ []))
    unfolding prefixed ahead on_first
    reads_more n q = record {
      left = R.left ∙ ap (prefixed es) (rw (← q) at first_left) ∙ go (numbers rest);
      led = R.led ∙ ap (λ ns. es ++ ns) (rw (← q) at first_led) ∙ sym (append_assoc es (n ∷ []) (leading rest));
      few = rw length-append (omega (arith, R.few, ap length parted));
    }
      where
        go : (o : Option (List ℕ)) → prefixed es (ahead (some n) o) ≡ prefixed (es ++ (n ∷ [])) o
        go none = refl
        go (some ns) = ap some (sym (append_assoc es (n ∷ []) ns))

    -- one that is no number
    pub reads_bad : none ≡ number f → (any_number (λ es. ord es) fs ≡ other) × (leading fs ≡ es)
    unfolding any_number prefixed ahead on_first
    reads_bad q =
        let z : numbers fs ≡ none = R.left ∙ ap (prefixed es) (rw (← q) at first_left) in
        (rw z, R.led ∙ ap (λ ns. es ++ ns) (rw (← q) at first_led) ∙ append-nil es)

  -- none is left
  pub reads_all : gs ≡ [] → (any_number (λ es. ord es) fs ≡ ord es) × (leading fs ≡ es)
  unfolding any_number prefixed numbers leading
  reads_all h =
      let z : numbers fs ≡ some es = R.left ∙ rw (h, append-nil) in
      (rw z, R.led ∙ rw (h, append-nil))

-- ---- what decoding a line leaves of a list

-- the events of an `ord` line over its front; of a line that is no form only its length is said
abbrev pub Leaves : Line → List ℕ → List ℕ → Type 0
Leaves (rig E) os left = left ≡ os
Leaves (ord es) os left = left ≡ over es os
Leaves (begins k) os left = left ≡ os
Leaves (continues p) os left = left ≡ os
Leaves other os left = length left ≡ length os

leading-numbers : (fs : List (List ℕ)) (ns : List ℕ) → numbers fs ≡ some ns → leading fs ≡ ns
unfolding numbers leading ahead on_first
leading-numbers [] ns q = cc
leading-numbers (f ∷ fs) ns q = go (number f) (numbers fs) refl refl (leading-numbers fs)
  where
    go : (o : Option ℕ) (os : Option (List ℕ)) → number f ≡ o → numbers fs ≡ os → ((ms : List ℕ) → numbers fs ≡ some ms → leading fs ≡ ms) → on_first (number f) (leading fs) ≡ ns
    go none os d e ih = absurd (none-ne-some ns (rw d at q))
    go (some a) none d e ih = absurd (none-ne-some ns (rw (d, e) at q))
    go (some a) (some bs) d e ih = let z : some (a ∷ bs) ≡ some ns = rw (d, e) at q in let y : (a ∷ bs) ≡ ns = cc in rw d (ap (λ ms. a ∷ ms) (ih bs e) ∙ y)

module _ (l os : List ℕ) where
  -- the word of an `ord` line
  ord_word : (es : List ℕ) → decode l ≡ ord es → same (take (index_of l 9) l) (bytes "ord") ≡ true
  unfolding Spelled
  ord_word es q =
      let (e, s) = (spelling.forms (ord es) (λ r. let z : ◌≡◌ {A = ℕ} 0 1 = cc in omega arith) l).0 q in
      let w : take (index_of l 9) l ∷ fields_from l (index_of l 9) ≡ bytes "ord" ∷ map decimal es = sym (fields-first l) ∙ ap fields e ∙ fields-spelled "ord" es refl in
      tells_true (same_tells (take (index_of l 9) l) (bytes "ord")) cc

  pub leaves : Leaves (decode l) os (over (listed_in l) os)
  unfolding listed_in
  leaves = case (same (take (index_of l 9) l) (bytes "ord"))
      (λ p. rw (p, decode_ord l (take (index_of l 9) l) (fields_from l (index_of l 9)) (fields-first l) p) (listed (numbers (fields_from l (index_of l 9))) refl))
      (λ p. rw p (unfold over in others (decode l) refl p))
    where
      listed : (o : Option (List ℕ)) → numbers (fields_from l (index_of l 9)) ≡ o → Leaves (any_number (λ es. ord es) (fields_from l (index_of l 9))) os (over (leading (fields_from l (index_of l 9))) os)
      listed none q = unfold any_number in rw q (length_over (leading (fields_from l (index_of l 9))) os)
      listed (some es) q = unfold any_number in rw q (ap (λ ns. over ns os) (leading-numbers (fields_from l (index_of l 9)) es q))

      others : (k : Line) → decode l ≡ k → same (take (index_of l 9) l) (bytes "ord") ≡ false → Leaves k os os
      others (rig E) q p = refl
      others (ord es) q p = contra (ord_word es q) p
      others (begins k) q p = refl
      others (continues k) q p = refl
      others other q p = refl
