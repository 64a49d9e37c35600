-- Windows of a log of events, and which of them can be walked (02 no. 13).
--   window h k log      == the h events of the log from position k on
--   windows_of h log     == how many windows of h events it has
--   walkable_from A x w  == w can be walked from x through live states, x included
--   walkable A w        == so it can from some state
--   marks A h log       == for each window 1 if it can be walked, else 0
--   ones A h log        == how many of them are 1
--   Departs A w         == there is no state from which w is admitted and can be carried on by any further number of events
-- Assumes nothing.
use Rattle.std.specs.Prelude.{Bool, ◌&&◌, List, [], ◌∷◌, ℕ, suc, ◌-◌, length, take, drop}
use Rattle.lists.specs.Lists.{pick, any, count, tabulate, range}
use Rattle.automaton.specs.Automaton.{Automaton, CarriedOn}
use Rattle.automaton.specs.Pruning.{live}

-- 'every window of h consecutive events'
unfoldable pub window : ℕ → ℕ → List ℕ → List ℕ
window h k log = take h (drop k log)

-- 'k from 0 to log length less h': none where the log is shorter than h
unfoldable pub windows_of : ℕ → List ℕ → ℕ
windows_of h log = suc (length log) - h

module _ (A : Automaton) where
  open A use {states, next}

  -- 'from some live joint state through live ones'
  unfoldable pub walkable_from : ℕ → List ℕ → Bool
  walkable_from x [] = live A x
  walkable_from x (e ∷ w) = live A x && walkable_from (next x e) w

  unfoldable pub walkable : List ℕ → Bool
  walkable w = any (λ x. walkable_from x w) (range states)

  -- 'For every window .. write 1 if it can be walked .., else 0'; 'byte k for the window from position k'
  unfoldable pub marks : ℕ → List ℕ → List ℕ
  marks h log = tabulate (λ k. pick (walkable (window h k log)) 1 0) (windows_of h log)

  -- 'and give how many are 1'
  unfoldable pub ones : ℕ → List ℕ → ℕ
  ones h log = count (λ k. walkable (window h k log)) (windows_of h log)

  unfoldable pub Departs : List ℕ → Type 0
  Departs w = (x : ℕ) → ((k : ℕ) → CarriedOn A k x w) → ⊥
