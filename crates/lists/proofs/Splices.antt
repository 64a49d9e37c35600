-- A list of which a part was lent and came back as another of the same length: what stands before, in and past the part. Assumes nothing.
use mathlib.Core.Path.{◌≡◌, sym, ap, ◌∙◌}
use mathlib.Core.List.{List, ◌++◌}
use Prim.Native.Nat.{ℕ, ◌+◌, ◌-◌, ◌≤◌, ◌<◌}
use native.Mathlib.Omega.{arith}
use lib.ListN.{length, get_or, take, drop, length-take, get_or-append}
use lib.Seq.{get_or-take, get_or-drop, get_or-append-add}

module _ (l m : List ℕ) (o n d : ℕ) (room : o + n ≤ length l) (long : length m ≡ n) where
  front : length (take o l) ≡ o
  front = simp length-take (omega arith)

  abbrev spliced : List ℕ
  spliced = take o l ++ (m ++ drop n (drop o l))

  behind : (k : ℕ) → get_or spliced (o + k) d ≡ get_or (m ++ drop n (drop o l)) k d
  behind k = ap (λ (j : ℕ). get_or spliced (j + k) d) (sym front) ∙ get_or-append-add (take o l) (m ++ drop n (drop o l)) k d

  pub splice_before : (i : ℕ) → i < o → get_or spliced i d ≡ get_or l i d
  splice_before i lt = get_or-append (take o l) (m ++ drop n (drop o l)) d i (omega (arith, front)) ∙ get_or-take o l i d lt

  pub splice_in : (k : ℕ) → k < n → get_or spliced (o + k) d ≡ get_or m k d
  splice_in k lt = behind k ∙ get_or-append m (drop n (drop o l)) d k (omega arith)

  pub splice_past : (i : ℕ) → o + n ≤ i → get_or spliced i d ≡ get_or l i d
  splice_past i le =
      let k = i - o - n in
      let q : i ≡ o + (n + k) = omega arith in
      ap (λ (j : ℕ). get_or spliced j d) q ∙ behind (n + k)
      ∙ ap (λ (j : ℕ). get_or (m ++ drop n (drop o l)) (j + k) d) (sym long) ∙ get_or-append-add m (drop n (drop o l)) k d
      ∙ get_or-drop n (drop o l) k d ∙ get_or-drop o l (n + k) d ∙ ap (λ (j : ℕ). get_or l j d) (sym q)
