-- The answers have their shapes.
-- Why: each is a row of checks, every one with its number, before the values. Assumes nothing.
use mathlib.Core.Path.{◌≡◌, refl}
use mathlib.Core.Logic.{◌≢◌}
use mathlib.Core.Bool.{Bool, true, false, not}
use mathlib.Core.List.{List, [], ◌∷◌, ◌++◌}
use Prim.Native.Nat.{ℕ, suc, ◌+◌, ◌*◌}
use native.Mathlib.Omega.{arith}
use lib.ListN.{length}
use lib.Dec.{ltb, leb, eqb}
use Rattle.lists.proofs.Tells.{tells_eq, tells_not}
use Rattle.promises.specs.Answer.{Answer, served, refused, after, unless}
use Rattle.automaton.specs.Counting.{most}
use Rattle.automaton.specs.Ranking.{rank, first_violation}
use Rattle.promises.specs.Text.{Line, monitors, decoded, unended, joint_states}
use Rattle.promises.specs.Reading.{empty, line_case, reading_from, reading}
use Rattle.promises.specs.Rig.{rig_automaton, start}
use Rattle.promises.specs.Calls.{first_bad, unless_at, sized_for, total_rows, list_rows, total, counted, count, scenarios, index, bad_draw, shuffle}
use Rattle.promises.specs.Generator.{generator}
use Rattle.promises.specs.Shapes.{Shaped, Shapes}

pub checked : (m n p : ℕ) (bad : Bool) (a : Answer) → (bad ≡ true → n ≢ 0) → Shaped m a → Shaped m (unless n p bad a)
unfolding Shaped
checked m n p true a ne s = ne refl
checked m n p false a ne s = s

following : (k m : ℕ) (a b : Answer) → Shaped k a → Shaped m b → Shaped m (after a b)
unfolding Shaped
following k m (served vs) b s t = t
following k m (refused n p) b s t = s

nothing : Shaped 0 (served [])
unfolding Shaped
nothing = refl

reading_from_lem : (front back : List Line) (tail : List ℕ) → Shaped 0 (reading_from front back tail)
unfolding reading_from
reading_from_lem front [] tail = checked 0 2 (suc (length front)) (not (empty tail)) _ (λ q e. omega arith) (checked 0 5 (suc (length front)) (empty (monitors front)) (served []) (λ q e. omega arith) nothing)
reading_from_lem front (l ∷ back) tail =
    checked 0 (line_case front l) (suc (length front)) (not (eqb (line_case front l) 0)) (reading_from (front ++ (l ∷ [])) back tail) (tells_not (tells_eq (line_case front l) 0)).yes (reading_from_lem (front ++ (l ∷ [])) back tail)

reading-shaped : (t : List ℕ) → Shaped 0 (reading t)
unfolding reading
reading-shaped t = checked 0 1 0 (ltb 65535 (length t)) (reading_from [] (decoded t) (unended t)) (λ q e. omega arith) (reading_from_lem [] (decoded t) (unended t))

module _ (m : ℕ) (a : Answer) (s : Shaped m a) where
  after_sizes : (t : List ℕ) (rows h : ℕ) (cells : List ℕ) → Shaped m (sized_for t rows h cells a)
  unfolding sized_for
  after_sizes t rows h cells =
      following 0 m (reading t) _ (reading-shaped t)
      (checked m 7 0 (ltb 1000 h) _ (λ q e. omega arith) (checked m 8 0 (ltb (length cells) (rows * joint_states t)) a (λ q e. omega arith) s))

  after_counting : (t : List ℕ) (h : ℕ) → Shaped m (counted t h a)
  unfolding counted
  after_counting t h = checked m 9 0 (eqb (total t h) 0) _ (λ q e. omega arith) (checked m 10 0 (leb most (total t h)) a (λ q e. omega arith) s)

  after_list : (n : ℕ) → n ≢ 0 → (bad : ℕ → ℕ → Bool) (l : List ℕ) → Shaped m (unless_at n bad l a)
  unfolding unless_at
  after_list n ne bad l = checked m n (first_bad bad l) (ltb (first_bad bad l) (length l)) a (λ q. ne) s

-- 'Gives N and the passes.'
pub total-shaped : (t : List ℕ) (rows h : ℕ) (cells : List ℕ) → Shaped 2 (sized_for t rows h cells (total_rows t h))
unfolding Shaped
total-shaped t rows h cells = after_sizes 2 _ (after_counting 2 _ refl t h) t rows h cells

pub list_shaped : (t : List ℕ) (rows h : ℕ) (is cells out : List ℕ) → Shaped 0 (sized_for t rows h cells (list_rows t h is out))
list_shaped t rows h is cells out =
    after_sizes 0 _ (checked 0 12 0 (ltb (length out) (length is * h)) _ (λ q e. omega arith) (after_counting 0 _ (after_list 0 (served []) nothing 11 (λ e. omega arith) _ is) t h)) t rows h cells

pub shapes : Shapes generator
unfolding generator Shaped
shapes = record {
  of_count = λ t h cells. unfold count in total-shaped t (h + 1) h cells;
  of_scenarios = λ t h is cells out. unfold scenarios in list_shaped t (h + 1) h is cells out;
  of_index = λ t s cells. unfold index in
      after_sizes 1 _ (after_list 1 _ (after_counting 1 _ (checked 1 14 _ (ltb (first_violation (rig_automaton t) (start t) s) (length s)) (served (rank (rig_automaton t) (start t) s ∷ [])) (λ q e. omega arith) refl) t (length s)) 13 (λ e. omega arith) _ s) t (length s + 1) (length s) cells;
  of_shuffle = λ n ds scratch out. unfold shuffle in
      checked 0 8 0 (ltb (length scratch) (2 * length ds)) _ (λ q e. omega arith) (checked 0 12 0 (ltb (length out) (length ds)) _ (λ q e. omega arith) (after_list 0 (served []) nothing 15 (λ e. omega arith) (bad_draw n) ds));
}
