-- What shape the answers have: how many values are told, and that 0 is no number of refusal, so that 0 can mean served.
--   Shaped m a         == a is served with m values, or refused by a number that is not 0
--   Shapes C           == the shapes of the four answers
-- Assumes nothing.
use Rattle.std.specs.Prelude.{◌≡◌, ◌≢◌, List, ℕ, length}
use Rattle.promises.specs.Answer.{Answer, served, refused}
use Rattle.promises.specs.Demand3.{Calls}

unfoldable pub Shaped : ℕ → Answer → Type 0
Shaped m (served vs) = length vs ≡ m
Shaped m (refused n p) = n ≢ 0

module _ (C : Calls) where
  open C use {count, scenarios, index, shuffle}

  pub record Shapes : Type 0 where
    -- 'Gives N and the passes.'
    pub of_count : (t : List ℕ) (h : ℕ) (cells : List ℕ) → Shaped 2 (count t h cells)
    pub of_scenarios : (t : List ℕ) (h : ℕ) (is cells out : List ℕ) → Shaped 0 (scenarios t h is cells out)
    -- 'Gives its index.'
    pub of_index : (t s cells : List ℕ) → Shaped 1 (index t s cells)
    pub of_shuffle : (n : ℕ) (ds scratch out : List ℕ) → Shaped 0 (shuffle n ds scratch out)
