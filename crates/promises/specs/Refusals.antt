-- 'Numbers of refusal': the table, row by row and in its order, stated of any four calls in the words of Text and Meaning.
-- Where no row applies the calls are served: that is demand 3.
--   Sized t h cells       == rows 1 to 8 and 16 to 18 are passed
--   EarlyRows t h cells a == the answer a is that of rows 1 to 8 and 16 to 18, where one of them applies
--   All t h L             == L has just the sequences that belong, each once
--   Refusals C            == the table
-- Assumes nothing.
use Rattle.std.specs.Prelude.{◌≡◌, ◌↔◌, ◌⊎◌, ℕ, suc, ◌≤◌, ◌<◌, length, get_or, take}
use mathlib.Core.List.{List, Memᴰ as In}
use Rattle.automaton.specs.Counting.{most}
use Rattle.promises.specs.Answer.{Answer, refused}
use Rattle.promises.specs.Text.{Readable, Fault, Case7, Case8, Case8Scratch, Case12, Case12Draws, Case13}
use Rattle.promises.specs.Meaning.{Belongs}
use Rattle.promises.specs.Demand3.{Calls, Once}

pub record Sized (t : List ℕ) (h : ℕ) (cells : List ℕ) : Type 0 where
  pub readable : Readable t
  pub horizon : Case7 h → ⊥
  pub room : Case8 t h cells → ⊥

pub record EarlyRows (t : List ℕ) (h : ℕ) (cells : List ℕ) (a : Answer) : Type 0 where
  -- 1 to 6 by Fault; among them 16, 'an event named twice in `ord`, place the line, tested after 3' (02 no. 2), 17, 'a equals b, place the line, after 3' (02 no. 5), and 18, 'a .. not below b, place the line, after 3'
  -- (02 no. 7)
  pub text : (n p : ℕ) → Fault t n p → a ≡ refused n p
  pub seven : Readable t → Case7 h → a ≡ refused 7 0
  pub eight : Readable t → (Case7 h → ⊥) → Case8 t h cells → a ≡ refused 8 0

pub record All (t : List ℕ) (h : ℕ) (L : List (List ℕ)) : Type 0 where
  pub once : Once L
  pub just : (w : List ℕ) → In w L ↔ Belongs t h w

-- 2^64 − 1 or more belong
unfoldable pub Many : List ℕ → ℕ → Type 0
Many t h = (L : List (List ℕ)) × Once L × ((w : List ℕ) → In w L → Belongs t h w) × (most ≤ length L)

-- some belong, and their number can be told
pub record Countable (t : List ℕ) (h : ℕ) (L : List (List ℕ)) : Type 0 where
  pub all : All t h L
  pub some : 1 ≤ length L
  pub few : length L < most

module _ (C : Calls) where
  open C use {count, scenarios, index, shuffle}

  pub record Refusals : Type 0 where
    -- rows 1 to 8 and 16 to 18
    pub count_early : (t : List ℕ) (h : ℕ) (cells : List ℕ) → EarlyRows t h cells (count t h cells)
    pub scenarios_early : (t : List ℕ) (h : ℕ) (is cells out : List ℕ) → EarlyRows t h cells (scenarios t h is cells out)
    pub index_early : (t s cells : List ℕ) → EarlyRows t (length s) cells (index t s cells)
    -- 12: 'output shorter than list length × h'
    pub scenarios_12 : (t : List ℕ) (h : ℕ) (is cells out : List ℕ) → Sized t h cells → Case12 h is out → scenarios t h is cells out ≡ refused 12 0
    -- 13: 'event byte E or more', 'position, from 0'
    pub index_13 : (t s cells : List ℕ) (p : ℕ) → Sized t (length s) cells → Case13 t s p → ((q : ℕ) → q < p → Case13 t s q → ⊥) → index t s cells ≡ refused 13 p
    -- 9: 'N is 0'
    pub count_9 : (t : List ℕ) (h : ℕ) (cells : List ℕ) → Sized t h cells → ((w : List ℕ) → Belongs t h w → ⊥) → count t h cells ≡ refused 9 0
    pub scenarios_9 : (t : List ℕ) (h : ℕ) (is cells out : List ℕ) → Sized t h cells → (Case12 h is out → ⊥) → ((w : List ℕ) → Belongs t h w → ⊥)
        → scenarios t h is cells out ≡ refused 9 0
    pub index_9 : (t s cells : List ℕ) → Sized t (length s) cells → ((p : ℕ) → Case13 t s p → ⊥) → ((w : List ℕ) → Belongs t (length s) w → ⊥) → index t s cells ≡ refused 9 0
    -- 10: 'N is 18,446,744,073,709,551,615 or more'
    pub count_10 : (t : List ℕ) (h : ℕ) (cells : List ℕ) → Sized t h cells → Many t h → count t h cells ≡ refused 10 0
    pub scenarios_10 : (t : List ℕ) (h : ℕ) (is cells out : List ℕ) → Sized t h cells → (Case12 h is out → ⊥) → Many t h → scenarios t h is cells out ≡ refused 10 0
    pub index_10 : (t s cells : List ℕ) → Sized t (length s) cells → ((p : ℕ) → Case13 t s p → ⊥) → Many t (length s) → index t s cells ≡ refused 10 0
    -- 11: 'index not below N', 'position in list'
    pub scenarios_11 : (t : List ℕ) (h : ℕ) (is cells out : List ℕ) (L : List (List ℕ)) (p : ℕ) → Sized t h cells → (Case12 h is out → ⊥) → Countable t h L
        → p < length is → length L ≤ get_or is p 0 → ((q : ℕ) → q < p → get_or is q 0 < length L) → scenarios t h is cells out ≡ refused 11 p
    -- 14: 'sequence no scenario'; 'first event that isn't admitted or leads to a state not live': with it, and not before it, the sequence is
    -- one that can't be carried on
    pub index_14 : (t s cells : List ℕ) (L : List (List ℕ)) (p : ℕ) → Sized t (length s) cells → ((p : ℕ) → Case13 t s p → ⊥) → Countable t (length s) L
        → p < length s → Belongs t p (take p s) → (Belongs t (suc p) (take (suc p) s) → ⊥) → index t s cells ≡ refused 14 p
    -- the shuffle's rows: 8, 12, and 15: 'draw out of range', 'position'
    pub shuffle_8 : (n : ℕ) (ds scratch out : List ℕ) → Case8Scratch ds scratch → shuffle n ds scratch out ≡ refused 8 0
    pub shuffle_12 : (n : ℕ) (ds scratch out : List ℕ) → (Case8Scratch ds scratch → ⊥) → Case12Draws ds out → shuffle n ds scratch out ≡ refused 12 0
    pub shuffle_15 : (n : ℕ) (ds scratch out : List ℕ) (p : ℕ) → (Case8Scratch ds scratch → ⊥) → (Case12Draws ds out → ⊥)
        → p < length ds → (get_or ds p 0 < p) ⊎ (n ≤ get_or ds p 0) → ((q : ℕ) → q < p → (q ≤ get_or ds q 0) × (get_or ds q 0 < n)) → shuffle n ds scratch out ≡ refused 15 p
