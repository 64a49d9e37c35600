-- The shuffle, as swapping. Paper 01, 'The four calls'.
--   swap f i j         == the arrangement f with the numbers at i and at j changed over
--   shuffle_from f i ds == what is put out from place i on, the arrangement being f
--   shuffle ds         == the output for the draws ds
--   Valid n i ds       == the draws ds, for the places from i on, are valid
-- Assumes nothing.
use Rattle.std.specs.Prelude.{List, [], ◌∷◌, ℕ, suc, ◌≤◌, ◌<◌, eqb}
use Rattle.lists.specs.Lists.{pick}

-- 'swap the numbers at i and at draw i'
unfoldable pub swap : (ℕ → ℕ) → ℕ → ℕ → ℕ → ℕ
swap f i j k = pick (eqb k i) (f j) (pick (eqb k j) (f i) (f k))

-- 'output i is then the number at i'
unfoldable pub shuffle_from : (ℕ → ℕ) → ℕ → List ℕ → List ℕ
shuffle_from f i [] = []
shuffle_from f i (d ∷ ds) = swap f i d i ∷ shuffle_from (swap f i d) (suc i) ds

-- 'Begin with 0 to n−1 in order.'
unfoldable pub shuffle : List ℕ → List ℕ
shuffle ds = shuffle_from (λ k. k) 0 ds

-- 'Draw i must be from i to n−1.'
unfoldable pub Valid : ℕ → ℕ → List ℕ → Type 0
Valid n i [] = Unit {0}
Valid n i (d ∷ ds) = (i ≤ d) × (d < n) × Valid n (suc i) ds
