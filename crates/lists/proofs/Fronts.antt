-- A list s written at the front of a lent list d, whose rest is kept: s ++ drop (length s) d. One element more, or a list more, is written after it.
-- Assumes nothing.
use mathlib.Core.Path.{◌≡◌, sym}
use mathlib.Core.List.{List, [], ◌∷◌, ◌++◌, append_assoc, append-nil}
use Prim.Native.Nat.{ℕ, suc, ◌+◌, ◌-◌, ◌<◌}
use native.Mathlib.Numerals.{add-one}
use native.Mathlib.Omega.{arith}
use lib.ListN.{length, set, take, drop, length-append, length-drop, drop_of_length-le}
use lib.Seq.{drop-cons, set-append_seam, append_snoc, take-append_seam, drop-append_seam, take_all, drop-drop}

module _ {A : Type 0} (s d : List A) where
  -- the element that is stored next
  pub front_put : (b : A) → length s < length d → set (s ++ drop (length s) d) (length s) b ≡ (s ++ b ∷ []) ++ drop (length (s ++ b ∷ [])) d
  front_put b h =
      rw (drop-cons d (length s) b h, set-append_seam, length-append, add-one)
      (sym (append_snoc s b (drop (suc (length s)) d)))

  -- the list t that is written to the part from there on
  pub front_more : (t out last : List A) → out ≡ s ++ drop (length s) d → last ≡ t ++ drop (length t) (take (length out - length s) (drop (length s) out))
      → take (length s) out ++ (last ++ drop (length out - length s) (drop (length s) out)) ≡ (s ++ t) ++ drop (length (s ++ t)) d
  front_more t out last inv back =
      let all : take (length out - length s) (drop (length s) out) ≡ drop (length s) out = take_all (length out - length s) (drop (length s) out) (rw length-drop (omega arith)) in
      let none : drop (length out - length s) (drop (length s) out) ≡ [] = drop_of_length-le (drop (length s) out) {i = length out - length s} (rw length-drop (omega arith)) in
      let rest : drop (length s) out ≡ drop (length s) d = rw inv (drop-append_seam s (drop (length s) d)) in
      let front : take (length s) out ≡ s = rw inv (take-append_seam s (drop (length s) d)) in
      rw (back, none, append-nil, all, rest, front, drop-drop, length-append) (sym (append_assoc s t (drop (length s + length t) d)))

  -- the same, for a part that begins at a number which is the length of s
  pub front_from : (t out last : List A) (at : ℕ) → at ≡ length s → out ≡ s ++ drop (length s) d → last ≡ t ++ drop (length t) (take (length out - at) (drop at out))
      → take at out ++ (last ++ drop (length out - at) (drop at out)) ≡ (s ++ t) ++ drop (length (s ++ t)) d
  front_from t out last at q inv back = rw q (front_more t out last inv (rw (← q) back))
