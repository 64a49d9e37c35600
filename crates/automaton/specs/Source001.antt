-- Source document 001, algorithm 1: rnd_perm_prefix, with the random indices given from outside.
--   look perm k       == π(k): the number that the associative array perm has at k, or k itself
--   rnd_perm_prefix js  == result, for the indices js that line 24 draws
-- Assumes nothing.
use Rattle.std.specs.Prelude.{List, [], ◌∷◌, ℕ, suc, eqb}
use Rattle.lists.specs.Lists.{pick}

-- 'if exists v s.t. (k, v) in perm then v, else k'; what was put last counts
unfoldable pub look : List (ℕ × ℕ) → ℕ → ℕ
look [] k = k
look (p ∷ perm) k = pick (eqb k p.0) p.1 (look perm k)

-- lines 23 to 31, from place i on
unfoldable pub rnd_perm_prefix_from : List (ℕ × ℕ) → ℕ → List ℕ → List ℕ
rnd_perm_prefix_from perm i [] = []
rnd_perm_prefix_from perm i (j ∷ js) =
    look perm j ∷ rnd_perm_prefix_from ((j, look perm i) ∷ (i, look perm j) ∷ perm) (suc i) js

-- 'perm ← empty associative array'
unfoldable pub rnd_perm_prefix : List ℕ → List ℕ
rnd_perm_prefix js = rnd_perm_prefix_from [] 0 js
