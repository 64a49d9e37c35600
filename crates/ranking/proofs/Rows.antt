-- The rows that the cells begin with, each found at the front of the part that is lent for it. Assumes nothing.
use mathlib.Core.Path.{◌≡◌, refl, sym, ap, ◌∙◌, subst}
use mathlib.Core.List.{List, [], ◌∷◌, ◌++◌, append-nil}
use Prim.Native.Nat.{ℕ, suc, ◌+◌, ◌-◌, ◌*◌, ◌≤◌, ◌<◌}
use native.Mathlib.Omega.{arith}
use native.Mathlib.Nat.{add-mul, suc-mul, mul-le-mul_right, not-suc-le-zero}
use native.Mathlib.Decide.{le_ind}
use lib.ListN.{length, take, drop, set, length-take, length-drop, length-set}
use lib.Seq.{take_at, drop_at, take-take, take-add, drop-length}
use Rattle.lists.specs.Lists.{stack}
use Rattle.automaton.specs.Automaton.{Automaton}
use Rattle.promises.specs.Calls.{row, rows, filled}
use Rattle.counting.specs.Tabled.{HoldsRow, rows_from}
use Rattle.counting.proofs.Rows.{length_rows, length_rows_from, rows_from_0}
use Rattle.ranking.specs.Ranks.{HoldsRows}

-- row r is within the cells of n rows
pub row_within : (r n p len : ℕ) → r < n → n * p ≤ len → r * p + p ≤ len
row_within r n p len l h =
    let a : suc r * p ≤ n * p = mul-le-mul_right p l in
    let b : suc r * p ≡ r * p + p = suc-mul r p in
    omega arith

-- and so are fewer rows
pub rows-within : (b n p len : ℕ) → b ≤ n → n * p ≤ len → b * p ≤ len
rows-within b n p len le h =
    let a : b * p ≤ n * p = mul-le-mul_right p le in
    omega arith

-- the rows of the events from `at` to `to` are within what is left of those of h events after the rows of the later ones
pub part_room : (at to h p len : ℕ) → to ≤ h → h * p ≤ len → (to - at) * p ≤ len - (h - to) * p
part_room at to h p len le room =
    let both : (to - at + (h - to)) * p ≤ len = rows-within (to - at + (h - to)) h p len (omega arith) room in
    omega (arith, add-mul (to - at) (h - to) p)

module _ (A : Automaton) (b : ℕ) (cells : List ℕ) where
  rows_back : (n : ℕ) → HoldsRows A b (suc n) cells → HoldsRows A b n cells
  unfolding HoldsRows rows_from stack
  rows_back n h =
      let le : n * A.states ≤ suc n * A.states = rw suc-mul (omega arith) in
      sym (take-take (n * A.states) (suc n * A.states) cells le) ∙ ap (take (n * A.states)) h
      ∙ take_at (rows_from A b n) (row A (b + n)) (n * A.states) (length_rows_from A A.states refl b n)

  pub rows_fewer : (m n : ℕ) → m ≤ n → HoldsRows A b n cells → HoldsRows A b m cells
  rows_fewer m n le = le_ind (λ n. HoldsRows A b n cells → HoldsRows A b m cells) (λ h. h) (λ n le f h. f (rows_back n h)) n le

  last_row : (r : ℕ) → HoldsRows A b (suc r) cells → HoldsRow A (b + r) (drop (r * A.states) cells)
  unfolding HoldsRows HoldsRow rows_from stack
  last_row r h =
      let s = A.states in
      let len : length (rows_from A b r) ≡ r * s = length_rows_from A s refl b r in
      let before : take (r * s) cells ≡ rows_from A b r = rows_back r h in
      let parts : rows_from A b r ++ take s (drop (r * s) cells) ≡ rows_from A b r ++ row A (b + r) =
      ap (λ (l : List ℕ). l ++ take s (drop (r * s) cells)) (sym before) ∙ sym (take-add (r * s) s cells) ∙ ap (λ (n : ℕ). take n cells) (sym (suc-mul r s)) ∙ h in
      sym (drop_at (rows_from A b r) (take s (drop (r * s) cells)) (r * s) len) ∙ ap (drop (r * s)) parts ∙ drop_at (rows_from A b r) (row A (b + r)) (r * s) len

  -- the part that begins at r × p holds row b + r
  pub row_lent : (p r n : ℕ) → A.states ≡ p → HoldsRows A b n cells → r < n → HoldsRow A (b + r) (drop (r * p) cells)
  row_lent p r n wide h lt = subst (HoldsRow A (b + r)) (ap (λ (k : ℕ). drop (r * k) cells) wide) (last_row r (rows_fewer (suc r) n lt h))

-- cells that are filled for the horizon h hold its rows
pub filled-rows : (A : Automaton) (h : ℕ) (cells : List ℕ) → HoldsRows A 0 (h + 1) (filled A h cells)
unfolding HoldsRows filled
filled-rows A h cells =
    take_at (rows A (h + 1)) (drop ((h + 1) * A.states) cells) ((h + 1) * A.states) (length_rows A A.states refl (h + 1)) ∙ sym (rows_from_0 A (h + 1))

-- the first element is stored, and the rest lent to a writer
module _ (out : List ℕ) (v : ℕ) (some : 0 < length out) where
  pub length_rest : length (take (length (set out 0 v) - 1) (drop 1 (set out 0 v))) ≡ length out - 1
  length_rest = simp (length-take, length-drop, length-set) (omega arith)

-- what the whole then holds
pub rest_back : (out : List ℕ) (v : ℕ) (last : List ℕ) → 0 < length out → take 1 (set out 0 v) ++ (last ++ drop (length (set out 0 v) - 1) (drop 1 (set out 0 v))) ≡ v ∷ last
rest_back [] v last h = absurd (not-suc-le-zero h)
rest_back (o ∷ os) v last h =
    let n : suc (length os) - 1 ≡ length os = omega arith in
    rw (n, drop-length, append-nil)
