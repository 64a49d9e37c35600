-- Blocks of one length, one after the other: where each stands. Assumes nothing.
use mathlib.Core.Path.{◌≡◌, refl, sym, ap, ◌∙◌}
use mathlib.Core.List.Memᴰ.{head as here}
use mathlib.Core.List.Memᴰ.{tail as there}
use mathlib.Core.List.{List, [], ◌∷◌, ◌++◌, append-nil, append_assoc, Memᴰ as In}
use Prim.Native.Nat.{ℕ, zero, suc, ◌+◌, ◌*◌, ◌<◌}
use native.Mathlib.Omega.{arith}
use native.Mathlib.Nat.{zero-mul, suc-mul, add_comm}
use lib.ListN.{length, get_or, take, drop, length-append}
use lib.Seq.{take_at, take-add, drop-drop, drop-append-add}
use Rattle.lists.specs.Lists.{concat_map}

pub concat_map-append : (f : ℕ → List ℕ) (l m : List ℕ) → concat_map f (l ++ m) ≡ concat_map f l ++ concat_map f m
concat_map-append f [] m = refl
concat_map-append f (i ∷ l) m = ap (λ (w : List ℕ). f i ++ w) (concat_map-append f l m) ∙ sym (append_assoc (f i) (concat_map f l) (concat_map f m))

pub concat_map_snoc : (f : ℕ → List ℕ) (l : List ℕ) (i : ℕ) → concat_map f (l ++ i ∷ []) ≡ concat_map f l ++ f i
concat_map_snoc f l i = concat_map-append f l (i ∷ []) ∙ ap (λ (w : List ℕ). concat_map f l ++ w) (append-nil (f i))

module _ (f : ℕ → List ℕ) (h : ℕ) where
  pub length_blocks : (is : List ℕ) → ((i : ℕ) → In i is → length (f i) ≡ h) → length (concat_map f is) ≡ length is * h
  length_blocks [] w = sym (zero-mul h)
  length_blocks (i ∷ is) w = rw (length-append, w i (here refl), length_blocks is (λ j k. w j (there k)), suc-mul) (add_comm h _)

  -- block n of what stands in a longer list
  pub block_at : (is rest : List ℕ) → ((i : ℕ) → In i is → length (f i) ≡ h) → (n : ℕ) → n < length is → take h (drop (n * h) (concat_map f is ++ rest)) ≡ f (get_or is n 0)
  block_at [] rest w n lt = absurd (omega arith)
  block_at (i ∷ is) rest w zero lt = rw (zero-mul, append_assoc) (take_at (f i) (concat_map f is ++ rest) h (w i (here refl)))
  block_at (i ∷ is) rest w (suc n) lt =
      let on : suc n * h ≡ length (f i) + n * h = omega (arith, suc-mul n h, w i (here refl)) in
      rw (on, append_assoc, drop-append-add) (block_at is rest (λ j k. w j (there k)) n (omega arith))

-- a list whose blocks of w are the lists f i begins with them
pub blocks_are : (f : ℕ → List ℕ) (w : ℕ) (is l : List ℕ) → ((k : ℕ) → k < length is → take w (drop (k * w) l) ≡ f (get_or is k 0)) → take (length is * w) l ≡ concat_map f is
blocks_are f w [] l at = rw (zero-mul w)
blocks_are f w (i ∷ is) l at =
    let e : suc (length is) * w ≡ w + length is * w = omega (arith, suc-mul (length is) w) in
    let here : take w l ≡ f i = ap (λ (k : ℕ). take w (drop k l)) (sym (zero-mul w)) ∙ at 0 (omega arith) in
    let rest : take (length is * w) (drop w l) ≡ concat_map f is = blocks_are f w is (drop w l) (λ k lt. ap (take w) (next k) ∙ at (suc k) (omega arith)) in
    ap (λ (n : ℕ). take n l) e ∙ take-add w (length is * w) l ∙ ap (λ (m : List ℕ). m ++ take (length is * w) (drop w l)) here ∙ ap (λ (m : List ℕ). f i ++ m) rest
  where
    next : (k : ℕ) → drop (k * w) (drop w l) ≡ drop (suc k * w) l
    next k = let e : w + k * w ≡ suc k * w = omega (arith, suc-mul k w) in drop-drop (k * w) w l ∙ ap (λ (n : ℕ). drop n l) e
