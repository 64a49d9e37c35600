-- A scenario written part by part. Why: what is written and the scenario of what is left are the whole scenario. Assumes nothing.
use mathlib.Core.Path.{◌≡◌, refl, sym, ap, ◌∙◌, subst}
use mathlib.Core.Logic.{◌⊎◌, inl, inr}
use mathlib.Core.List.{List, ◌++◌, append_assoc, append-nil}
use Prim.Native.Nat.{ℕ, zero, suc, ◌+◌, ◌-◌, ◌*◌, ◌≤◌, ◌<◌}
use native.Mathlib.Omega.{arith}
use native.Mathlib.Nat.{mul-le-mul_right, add-mul, zero-add, add-zero}
use Rattle.std.specs.Int.{div_ceil}
use Rattle.std.proofs.lemmas.Grind.{div_ceil_times}
use Rattle.std.proofs.lemmas.List.{drop-take}
use lib.ListN.{length, get_or, take, drop, length-append, get_or-append}
use lib.Seq.{ext_get_or, get_or-drop, drop-drop, drop_at}
use Rattle.lists.specs.Lists.{stack}
use Rattle.lists.proofs.Tests.{split}
use Rattle.lists.proofs.Splices.{splice_before, splice_in}
use Rattle.automaton.specs.Automaton.{Automaton}
use Rattle.automaton.specs.Counting.{N, most}
use Rattle.automaton.specs.Ranking.{unrank}
use Rattle.promises.specs.Calls.{row}
use Rattle.counting.specs.Tabled.{rows_from}
use Rattle.counting.proofs.Rows.{length_rows_from}
use Rattle.ranking.specs.Ranks.{HoldsRows, Exact, Unranked, Begun}
use Rattle.ranking.proofs.Rows.{rows_fewer}
use Rattle.ranking.proofs.Walk.{length-unrank}

-- ---- h things in parts of m

pub parts_start : (m h k n : ℕ) → 0 < m → n ≡ div_ceil h m → k < n → k * m < h
parts_start m h k n some is lt =
    let next : (k + 1) * m ≤ n * m = mul-le-mul_right m (omega arith) in
    omega (arith, add-mul k 1 m, ap (λ (j : ℕ). j * m) is, div_ceil_times h m some)

pub parts_end : (m h k n : ℕ) → 0 < m → n ≡ div_ceil h m → n ≤ k → h ≤ k * m
parts_end m h k n some is le = omega (arith, mul-le-mul_right m le, ap (λ (j : ℕ). j * m) is, div_ceil_times h m some)

-- ---- the rows of a part

module _ (A : Automaton) where
  rows_from_add : (b n : ℕ) → rows_from A 0 (b + n) ≡ rows_from A 0 b ++ rows_from A b n
  unfolding rows_from stack
  rows_from_add b zero = rw (add-zero b) (sym (append-nil (rows_from A 0 b)))
  rows_from_add b (suc n) =
      let e : b + suc n ≡ suc (b + n) = omega arith in
      rw (e, zero-add (b + n)) (ap (λ (l : List ℕ). l ++ row A (b + n)) (rows_from_add b n) ∙ append_assoc (rows_from A 0 b) (rows_from A b n) (row A (b + n)))

  -- the rows from b on, as they are lent
  pub rows_part : (p b n h : ℕ) (cells : List ℕ) → A.states ≡ p → b + n ≤ h → HoldsRows A 0 h cells → HoldsRows A b n (drop (b * p) cells)
  unfolding HoldsRows
  rows_part p b n h cells wide le holds =
      let s = A.states in
      let few : take ((b + n) * s) cells ≡ rows_from A 0 (b + n) = rows_fewer A 0 cells (b + n) h le holds in
      ap (λ (k : ℕ). take (n * s) (drop (b * k) cells)) (sym wide) ∙ sym (drop-take (b * s) (n * s) cells)
      ∙ ap (drop (b * s)) (ap (λ (k : ℕ). take k cells) (sym (add-mul b n s)) ∙ few ∙ rows_from_add b n)
      ∙ drop_at (rows_from A 0 b) (rows_from A b n) (b * s) (length_rows_from A s refl 0 b)

-- ---- the scenario

-- as many events are written as were asked for
pub unranked_long : (A : Automaton) (b n x i : ℕ) (last : List ℕ) (s l : ℕ) → i < N A (b + n) x → Unranked A b n x i last s l → length last ≡ n
unranked_long A b n x i last s l below part =
    let all = ap length part.written in
    let rest : length (unrank A b s l) ≡ b = length-unrank A b s l part.is_below in
    let whole : length (unrank A (b + n) x i) ≡ b + n = length-unrank A (b + n) x i below in
    let sum : length last + length (unrank A b s l) ≡ length (last ++ unrank A b s l) = sym (length-append last (unrank A b s l)) in
    omega arith

module _ (A : Automaton) (x h i : ℕ) where
  -- n events more: the part from o + at was lent, and came back as `last`
  module _ (at b n s l o : ℕ) (out last : List ℕ) (s' l' : ℕ) (room : o + at + n ≤ length out) (is : Begun A x h i at (b + n) s l o out) (part : Unranked A b n s l last s' l') where
    long : length last ≡ n
    long = unranked_long A b n s l last s' l' is.is_below part

    abbrev after : List ℕ
    after = take (o + at) out ++ (last ++ drop n (drop (o + at) out))

    new : (k : ℕ) → k < n → get_or after (o + at + k) 0 ≡ get_or (unrank A h x i) (at + k) 0
    new k lt =
        splice_in out last (o + at) n 0 room long k lt
        ∙ sym (get_or-append last (unrank A b s' l') 0 k (omega (arith, long))) ∙ ap (λ (w : List ℕ). get_or w k 0) (part.written ∙ sym is.rest) ∙ get_or-drop at (unrank A h x i) k 0

    written_more : (j : ℕ) → j < at + n → (at ≤ j) ⊎ (j < at) → get_or after (o + j) 0 ≡ get_or (unrank A h x i) j 0
    written_more j lt (inl le) =
        let q : o + j ≡ o + at + (j - at) = omega arith in
        let r : at + (j - at) ≡ j = omega arith in
        ap (λ (m : ℕ). get_or after m 0) q ∙ new (j - at) (omega arith) ∙ ap (λ (m : ℕ). get_or (unrank A h x i) m 0) r
    written_more j lt (inr h) = splice_before out last (o + at) n 0 room long (o + j) (omega arith) ∙ is.written j h

    pub begun_more : Begun A x h i (at + n) b s' l' o after
    begun_more = record {
      not_cut_off = omega (arith, part.no_more, is.not_cut_off);
      is_below = part.is_below;
      written = λ j lt. written_more j lt (split at j);
      rest = sym (drop-drop n at (unrank A h x i)) ∙ ap (drop n) (is.rest ∙ sym part.written) ∙ drop_at last (unrank A b s' l') n long;
    }

  -- all of it is written
  pub begun_all : (b s l : ℕ) (out : List ℕ) → length out ≡ h → i < N A h x → Begun A x h i h b s l 0 out → out ≡ unrank A h x i
  begun_all b s l out long below is =
      ext_get_or 0 out (unrank A h x i) (long ∙ sym (length-unrank A h x i below)) (λ j lt. ap (λ (k : ℕ). get_or out k 0) (sym (zero-add j)) ∙ is.written j (omega arith))

  -- the next part, up to `to`: what it is unranked by, and what it leaves
  module _ (at to s l : ℕ) (out : List ℕ) (some : at ≤ to) (within : to ≤ h) (is : Begun A x h i at (h - at) s l 0 out) {n : ℕ} (n-is : n ≡ to - at) where
    left_is : h - at ≡ h - to + n
    left_is = omega arith

    pub next_exact : (p : ℕ) (t cells : List ℕ) → Exact A p 0 h x t cells → Exact A p (h - to) n s t (drop ((h - to) * p) cells)
    next_exact p t cells exact = record {
      tabled = exact.tabled;
      holds = rows_part A p (h - to) n h cells exact.tabled.states (omega arith) exact.holds;
      not_cut_off = subst (λ (k : ℕ). N A k s < most) left_is is.not_cut_off;
    }

    pub next_below : l < N A (h - to + n) s
    next_below = subst (λ (k : ℕ). l < N A k s) left_is is.is_below

    pub next_begun : (last : List ℕ) (s' l' : ℕ) → length out ≡ h → Unranked A (h - to) n s l last s' l'
        → Begun A x h i to (h - to) s' l' 0 (take at out ++ (last ++ drop (to - at) (drop at out)))
    next_begun last s' l' long told =
        let b = h - to in
        let z : 0 + at ≡ at = zero-add at in
        let e : at + n ≡ to = omega arith in
        let more = begun_more at b n s l 0 out last s' l' (omega arith) (subst (λ (k : ℕ). Begun A x h i at k s l 0 out) left_is is) told in
        subst (λ (k : ℕ). Begun A x h i k b s' l' 0 (take at out ++ (last ++ drop (to - at) (drop at out)))) e
        (subst (λ (k : ℕ). Begun A x h i (at + n) b s' l' 0 (take at out ++ (last ++ drop k (drop at out)))) n-is
        (subst (λ (k : ℕ). Begun A x h i (at + n) b s' l' 0 (take k out ++ (last ++ drop n (drop k out)))) z more))
