-- What a C caller reads in the numbers that it is told, by the words of include/wandukhai.h, and that it reads the call's answer.
--   read_words n ws   == the answer of Count, from either end, or of the sheet that was told by the number n and the words ws
--   read_index n w    == the answer of Index that was told by the number n and the word w
--   read_place n w    == the answer of Scenarios, on either bench, Shuffle or the draws that was told by the number n and the place w
--   Told             == 0 is returned exactly where a call is served, and what is told is the answer
-- Assumes nothing.
use Rattle.std.specs.Prelude.{◌≡◌, ◌↔◌, List, [], ◌∷◌, ℕ, zero, suc, length, get_or}
use Rattle.promises.specs.Answer.{Answer, served, refused, Served, Refuses}
use Rattle.promises.specs.Calls.{count, scenarios, index, shuffle}
use Rattle.promises.specs.Small.{small}
use Rattle.promises.specs.Forward.{forward}
use Rattle.promises.specs.Draws.{draws}
use Rattle.promises.specs.Sheets.{sheet_call}
use Rattle.capi.specs.Words.{number_of, words_of, word_of}

-- 'Returned: 0 where the call is served, else the number of refusal, with a place'
-- 'answer: served, N and the passes of pruning; refused, the place and 0'; of a sheet 'the length of the sheet in bytes and the event total'
abbrev pub read_words : ℕ → List ℕ → Answer
read_words zero ws = served ws
read_words (suc n) ws = refused (suc n) (get_or ws 0 0)

-- 'answer: served, the index; refused, the place'
abbrev pub read_index : ℕ → ℕ → Answer
read_index zero w = served (w ∷ [])
read_index (suc n) w = refused (suc n) w

-- 'place: 0 where served, else the place'
abbrev pub read_place : ℕ → ℕ → Answer
read_place zero w = served []
read_place (suc n) w = refused (suc n) w

pub record WordsTold (a : Answer) : Type 0 where
  pub zero_served : (number_of a ≡ 0) ↔ Served a
  pub told : read_words (number_of a) (words_of a) ≡ a
  pub two : length (words_of a) ≡ 2
  pub second : Refuses a → get_or (words_of a) 1 0 ≡ 0

pub record IndexTold (a : Answer) : Type 0 where
  pub zero_served : (number_of a ≡ 0) ↔ Served a
  pub told : read_index (number_of a) (word_of a) ≡ a

pub record PlaceTold (a : Answer) : Type 0 where
  pub zero_served : (number_of a ≡ 0) ↔ Served a
  pub told : read_place (number_of a) (word_of a) ≡ a
  pub no_place : Served a → word_of a ≡ 0

pub record Told : Type 0 where
  pub of_count : (t : List ℕ) (h : ℕ) (cells : List ℕ) → WordsTold (count t h cells)
  pub of_forward : (t : List ℕ) (h : ℕ) (cells : List ℕ) → WordsTold (forward t h cells)
  pub of_scenarios : (t : List ℕ) (h : ℕ) (is cells out : List ℕ) → PlaceTold (scenarios t h is cells out)
  pub of_small : (t : List ℕ) (h : ℕ) (is cells out : List ℕ) → PlaceTold (small t h is cells out)
  pub of_index : (t s cells : List ℕ) → IndexTold (index t s cells)
  pub of_shuffle : (n : ℕ) (ds scratch out : List ℕ) → PlaceTold (shuffle n ds scratch out)
  pub of_draws : (n z seed limit : ℕ) (out : List ℕ) → PlaceTold (draws n z seed limit out)
  pub of_sheet : (m h g : ℕ) (scenarios out : List ℕ) → WordsTold (sheet_call m h g scenarios out)
