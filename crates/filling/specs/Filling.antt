-- What filling the cells tells and leaves.
--   TellsRows c k                   == k tells rows 9 and 10 of every count that the cell c holds
--   FilledBy A p x h f cells left t == f tells N from x, or row 9 or 10, and the passes; the cells are filled, and t is the table of A with p states
--   CountedBy A p x h f cells left t == f tells N from x with the passes, or row 9 or 10; and so for the cells and the table
-- Beside a refusal the count that FilledBy tells is the cell of x, 0 or 2^64 − 1. Assumes nothing.
use Rattle.std.specs.Prelude.{◌≡◌, List, ℕ, ◌≤◌, ◌<◌, min, Result, IfOk, OnOk}
use Rattle.automaton.specs.Automaton.{Automaton}
use Rattle.automaton.specs.Pruning.{passes}
use Rattle.automaton.specs.Counting.{N, most}
use Rattle.promises.specs.Answer.{Answer}
use Rattle.promises.specs.Calls.{count_rows, filled}
use Rattle.refusal.specs.declared.Refusal.{Refusal}
use Rattle.checks.specs.Loading.{checked_or}
use Rattle.counting.specs.Tabled.{Tabled}
use Rattle.filling.specs.declared.Counted.{Counted}
use Rattle.filling.specs.declared.Filled.{Filled}

pub record TellsRows {K : Type 0} (c : ℕ) (k : Result K Refusal) : Type 0 where
  pub answer : (n : ℕ) (a : Answer) → c ≡ min n most → count_rows n a ≡ checked_or k a
  pub some : OnOk k (1 ≤ c)
  pub few : OnOk k (c < most)

pub record FilledBy (A : Automaton) (p x h : ℕ) (f : Filled) (cells left table : List ℕ) : Type 0 where
  pub rows : TellsRows f.count f.checked
  pub counted : f.count ≡ min (N A h x) most
  pub passed : f.passes ≡ passes A
  pub cells_filled : left ≡ filled A h cells
  pub tabled : Tabled A p table

pub record CountedBy (A : Automaton) (p x h : ℕ) (f : Result Counted Refusal) (cells left table : List ℕ) : Type 0 where
  pub rows : TellsRows (min (N A h x) most) f
  pub counted : IfOk f (λ k. k.count ≡ min (N A h x) most)
  pub passed : IfOk f (λ k. k.passes ≡ passes A)
  pub cells_filled : left ≡ filled A h cells
  pub tabled : Tabled A p table
