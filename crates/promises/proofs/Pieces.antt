-- The pieces that a byte parts a list into: joined with the byte they are the list again, none of them holds it, and no other pieces are so.
--   Free b l           == byte b is not in l
-- Assumes nothing.
use mathlib.Core.Path.{◌≡◌, refl, sym, ap, ◌∙◌}
use mathlib.Core.Logic.{◌≢◌}
use mathlib.Core.Bool.{Bool, true, false}
use mathlib.Core.List.{List, [], ◌∷◌, ◌++◌, append-nil, append_assoc}
use mathlib.Core.List.Memᴰ
use mathlib.Core.List.Memᴰ.{eq_of_singleton as in_one}
use mathlib.Core.List.Memᴰ.{head as here}
use mathlib.Core.List.Memᴰ.{tail as there}
use mathlib.Core.List.{Memᴰ as In}
use Prim.Native.Nat.{ℕ}
use lib.Dec.{eqb}
use borrow.Author.Tests.{eq-eqb, ne_eqb, eqb-true, eqb-false}
use Rattle.lists.specs.Lists.{pick}
use Rattle.lists.proofs.Tests.{case}
use Rattle.promises.specs.Text.{onto, split_on, init, last_of, lines, unended}
use Rattle.promises.specs.Spelling.{preceded, joined}

abbrev pub Free : ℕ → List ℕ → Type 0
Free b l = In b l → ⊥

-- there is at least one piece
pub split_on-some : (b : ℕ) (l : List ℕ) → (p : List ℕ) × (ps : List (List ℕ)) × (split_on b l ≡ p ∷ ps)
unfolding split_on onto
split_on-some b [] = ([], [], refl)
split_on-some b (x ∷ l) = go (eqb x b) (split_on b l)
  where
    go : (t : Bool) (q : List (List ℕ)) → (p : List ℕ) × (ps : List (List ℕ)) × (pick t ([] ∷ q) (onto x q) ≡ p ∷ ps)
    go true q = ([], q, refl)
    go false [] = (x ∷ [], [], refl)
    go false (p ∷ ps) = (x ∷ p, ps, refl)

-- ---- joined again

-- the first piece, then each other after a byte b
abbrev whole : ℕ → List (List ℕ) → List ℕ
whole b [] = []
whole b (p ∷ ps) = p ++ preceded b ps

whole-onto : (b x : ℕ) (ps : List (List ℕ)) → whole b (onto x ps) ≡ x ∷ whole b ps
unfolding onto
whole-onto b x [] = refl
whole-onto b x (p ∷ ps) = refl

whole-split_on : (b : ℕ) (l : List ℕ) → whole b (split_on b l) ≡ l
unfolding split_on
whole-split_on b [] = refl
whole-split_on b (x ∷ l) =
    let (p, ps, e) = split_on-some b l in
    let ih : whole b (split_on b l) ≡ l = whole-split_on b l in
    case (eqb x b)
    (λ q. rw (q, eqb-true x b q) (ap (preceded b) e ∙ ap (λ m. b ∷ m) (sym (ap (whole b) e) ∙ ih)))
    (λ q. rw q (whole-onto b x (split_on b l) ∙ ap (λ m. x ∷ m) ih))

pub split_on-joined : (b : ℕ) (l p : List ℕ) (ps : List (List ℕ)) → split_on b l ≡ p ∷ ps → l ≡ p ++ preceded b ps
split_on-joined b l p ps q = sym (whole-split_on b l) ∙ ap (whole b) q

-- ---- none holds the byte

onto_free : (b x : ℕ) → x ≢ b → (ps : List (List ℕ)) → ((p : List ℕ) → In p ps → Free b p) → (p : List ℕ) → In p (onto x ps) → Free b p
unfolding onto
onto_free b x ne [] f p i j = ne (sym (in_one (rw (in_one i) at j)))
onto_free b x ne (q ∷ ps) f p (here e) j = first (rw e at j)
  where
    first : In b (x ∷ q) → ⊥
    first (here r) = ne (sym r)
    first (there k) = f q (here refl) k
onto_free b x ne (q ∷ ps) f p (there i) j = f p (there i) j

pub split_on_free : (b : ℕ) (l p : List ℕ) → In p (split_on b l) → Free b p
unfolding split_on
split_on_free b [] p i j = Memᴰ.not-nil (rw (in_one i) at j)
split_on_free b (x ∷ l) p i j =
    case (eqb x b)
    (λ q. first (split_on_free b l p) (rw q at i))
    (λ q. onto_free b x (eqb-false x b q) (split_on b l) (split_on_free b l) p (rw q at i) j)
  where
    first : (In p (split_on b l) → Free b p) → In p ([] ∷ split_on b l) → ⊥
    first ih (here e) = Memᴰ.not-nil (rw e at j)
    first ih (there k) = ih k j

-- ---- and no other pieces are so

free_tail : {b x : ℕ} {l : List ℕ} → Free b (x ∷ l) → Free b l
free_tail f i = f (there i)

free_head : (b x : ℕ) (l : List ℕ) → Free b (x ∷ l) → eqb x b ≡ false
free_head b x l f = ne_eqb x b (λ q. f (here (sym q)))

split_on_alone : (b : ℕ) (p : List ℕ) → Free b p → split_on b p ≡ p ∷ []
unfolding split_on onto
split_on_alone b [] f = refl
split_on_alone b (x ∷ p) f = rw (free_head b x p f, split_on_alone b p (free_tail f))

split_on_at : (b : ℕ) (p l : List ℕ) → Free b p → split_on b (p ++ b ∷ l) ≡ p ∷ split_on b l
unfolding split_on onto
split_on_at b [] l f = rw (eq-eqb b b refl)
split_on_at b (x ∷ p) l f = rw (free_head b x p f, split_on_at b p l (free_tail f))

pub split_on_pieces : (b : ℕ) (p : List ℕ) (ps : List (List ℕ)) → Free b p → ((q : List ℕ) → In q ps → Free b q) → split_on b (p ++ preceded b ps) ≡ p ∷ ps
split_on_pieces b p [] f fs = ap (split_on b) (append-nil p) ∙ split_on_alone b p f
split_on_pieces b p (q ∷ ps) f fs = split_on_at b p (q ++ preceded b ps) f ∙ ap (λ r. p ∷ r) (split_on_pieces b q ps (fs q (here refl)) (λ r i. fs r (there i)))

-- ---- all but the last, and the last

pub init-last : (p : List ℕ) (ps : List (List ℕ)) → joined (init (p ∷ ps)) ++ last_of (p ∷ ps) ≡ p ++ preceded 10 ps
unfolding joined init last_of
init-last p [] = sym (append-nil p)
init-last p (q ∷ ps) = append_assoc p (10 ∷ joined (init (q ∷ ps))) (last_of (q ∷ ps)) ∙ ap (λ m. p ++ 10 ∷ m) (init-last q ps)

pub in_init : (l : List ℕ) (ps : List (List ℕ)) → In l (init ps) → In l ps
unfolding init
in_init l [] i = i
in_init l (p ∷ []) i = absurd (Memᴰ.not-nil i)
in_init l (p ∷ (q ∷ ps)) (here e) = here e
in_init l (p ∷ (q ∷ ps)) (there i) = there (in_init l (q ∷ ps) i)

pub last_in : (p : List ℕ) (ps : List (List ℕ)) → In (last_of (p ∷ ps)) (p ∷ ps)
unfolding last_of
last_in p [] = here refl
last_in p (q ∷ ps) = there (last_in q ps)

-- ---- lines with their line ends are parted into them, and nothing stands after the last

split_on-lines : (ls : List (List ℕ)) → ((l : List ℕ) → In l ls → Free 10 l) → split_on 10 (joined ls) ≡ ls ++ [] ∷ []
unfolding split_on joined
split_on-lines [] f = refl
split_on-lines (l ∷ ls) f = split_on_at 10 l (joined ls) (f l (here refl)) ∙ ap (λ ps. l ∷ ps) (split_on-lines ls (λ m i. f m (there i)))

init_snoc : (ps : List (List ℕ)) (p : List ℕ) → init (ps ++ p ∷ []) ≡ ps
unfolding init
init_snoc [] p = refl
init_snoc (q ∷ []) p = refl
init_snoc (q ∷ (r ∷ ps)) p = ap (λ l. q ∷ l) (init_snoc (r ∷ ps) p)

last_snoc : (ps : List (List ℕ)) (p : List ℕ) → last_of (ps ++ p ∷ []) ≡ p
unfolding last_of
last_snoc [] p = refl
last_snoc (q ∷ []) p = refl
last_snoc (q ∷ (r ∷ ps)) p = last_snoc (r ∷ ps) p

module _ (ls : List (List ℕ)) (free : (l : List ℕ) → In l ls → Free 10 l) where
  pub lines_joined : lines (joined ls) ≡ ls
  unfolding lines
  lines_joined = ap init (split_on-lines ls free) ∙ init_snoc ls []

  pub unended_joined : unended (joined ls) ≡ []
  unfolding unended
  unended_joined = ap last_of (split_on-lines ls free) ∙ last_snoc ls []
