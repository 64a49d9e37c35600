-- Bytes placed in a list, and more placed after them. Assumes nothing.
use mathlib.Core.Path.{◌≡◌, sym, ap₂, ◌∙◌}
use mathlib.Core.List.{List, [], ◌++◌, append_assoc, append-nil}
use Prim.Native.Nat.{ℕ, ◌+◌, ◌≤◌}
use native.Mathlib.Omega.{arith}
use native.Mathlib.Nat.{add-zero}
use lib.ListN.{length, take, drop, length-append, length-drop, take-append-drop}
use lib.Seq.{take-append_seam, drop-append-add, drop-drop, length-take-le}
use Rattle.line.specs.Line.{placed}

-- a piece placed where the front ends
pub front_placed : (s t d out : List ℕ) (at : ℕ) → at ≡ length s → out ≡ s ++ drop (length s) d → placed t at out ≡ (s ++ t) ++ drop (length (s ++ t)) d
front_placed s t d out at a e = rw (a, e, take-append_seam, drop-append-add, drop-drop, length-append)

-- no piece, and a piece after a piece
pub placed-none : (at : ℕ) (d : List ℕ) → d ≡ placed [] at d
placed-none at d = sym (rw (append-nil, add-zero, take-append-drop))

pub length-placed : (s d : List ℕ) (at : ℕ) → at + length s ≤ length d → length (placed s at d) ≡ length d
length-placed s d at h = simp (length-append, length-drop) (omega (arith, length-take-le at d (omega arith)))

pub placed-more : (s t d : List ℕ) (at : ℕ) → at ≤ length d → placed t (at + length s) (placed s at d) ≡ placed (s ++ t) at d
placed-more s t d at h =
    let front = take at d ++ s in
    let q : length front ≡ at + length s = length-append (take at d) s ∙ rw (length-take-le at d h) in
    let r : length (front ++ t) ≡ at + length (s ++ t) = omega (arith, q, length-append front t, length-append s t) in
    front_placed front t d (placed s at d) (at + length s) (sym q) (rw q)
    ∙ ap₂ (λ (l : List ℕ) (m : ℕ). l ++ drop m d) (append_assoc (take at d) s t) r
