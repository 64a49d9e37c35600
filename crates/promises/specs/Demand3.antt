-- Demand 3, stated of any four calls: what each answers, and what the outputs hold afterwards, as functions of what it is given.
-- Its words are those of Text and Meaning; no cell, set, count or record is named here.
--   Calls                       == four calls as functions of their inputs and of what the buffers hold before
--   ValidDraws n ds             == the draws ds are valid
--   Shufflable n ds scratch out == valid draws, and buffers as sized for them
--   block h n out               == the h bytes that stand at place n of the output
--   output C n ds scratch out   == what Shuffle puts out: as many numbers as there are draws
--   Gives C t h i w             == the index i gives the sequence w
--   None C t h                  == 'None' is said exactly when no sequence belongs
--   EachOnce C t h n is cells out == the scenarios of a list of n indices are every belonging sequence exactly once
--   Complete C t h n ds scratch o cells out == so are those of the indices that the draws ds shuffle
--   Whole C t h L               == what holds where the sequences of L, each once, are those that belong
--   Fair C n                    == any different numbers below n are the output of exactly one valid draw list (02 no. 10)
--   Demand C                    == demand 3
-- Assumes nothing.
use Rattle.std.specs.Prelude.{◌≡◌, ◌↔◌, ℕ, ◌*◌, ◌≤◌, ◌<◌, length, get_or, take, drop}
use mathlib.Core.List.{List, [], ◌∷◌, Memᴰ as In}
use Rattle.lists.specs.Lists.{Sample}
use Rattle.automaton.specs.Counting.{most}
use Rattle.promises.specs.Answer.{Answer, served, Served, SaysNone, Refuses}
use Rattle.promises.specs.Text.{Readable, Case7, Case8, Case8Scratch, Case12, Case12Draws, Case13}
use Rattle.promises.specs.Meaning.{Belongs, Comes}

-- each element of l is at one place only
unfoldable pub Once : List (List ℕ) → Type 0
Once l = (i j : ℕ) → i < length l → j < length l → get_or l i [] ≡ get_or l j [] → i ≡ j

-- 'Draws are valid if draw i is from i to n−1 for every i.'
unfoldable pub ValidDraws : ℕ → List ℕ → Type 0
ValidDraws n ds = (i : ℕ) → i < length ds → (i ≤ get_or ds i 0) × (get_or ds i 0 < n)

-- valid draws, and buffers as sized: 'neither case 8 nor case 12 holds of them'
pub record Shufflable (n : ℕ) (ds scratch out : List ℕ) : Type 0 where
  pub valid : ValidDraws n ds
  pub scratch_room : Case8Scratch ds scratch → ⊥
  pub output_room : Case12Draws ds out → ⊥

-- Buffers are their contents before the call.
pub record Calls : Type 0 where
  pub count : List ℕ → ℕ → List ℕ → Answer  -- text, h, cells
  pub scenarios : List ℕ → ℕ → List ℕ → List ℕ → List ℕ → Answer  -- text, h, indices, cells, output
  pub written : List ℕ → ℕ → List ℕ → List ℕ → List ℕ → List ℕ  -- the output afterwards
  pub index : List ℕ → List ℕ → List ℕ → Answer  -- text, sequence, cells
  pub shuffle : ℕ → List ℕ → List ℕ → List ℕ → Answer  -- n, draws, scratch, output
  pub shuffled : ℕ → List ℕ → List ℕ → List ℕ → List ℕ  -- the output afterwards

-- 'the h output bytes from n × h'
unfoldable pub block : ℕ → ℕ → List ℕ → List ℕ
block h n out = take h (drop (n * h) out)

module _ (C : Calls) where
  open C use {count, scenarios, written, index, shuffle, shuffled}

  -- 'the first n numbers of Shuffle's output', for n draws
  unfoldable pub output : ℕ → List ℕ → List ℕ → List ℕ → List ℕ
  output n ds scratch out = take (length ds) (shuffled n ds scratch out)

  module _ (t : List ℕ) (h : ℕ) where
    -- 'The buffers are as sized if neither case 8 nor case 12 holds of them, whatever a call answers and whatever they hold before it.'
    unfoldable pub Cells : List ℕ → Type 0
    Cells cells = Case8 t h cells → ⊥

    unfoldable pub Room : List ℕ → List ℕ → Type 0
    Room is out = Case12 h is out → ⊥

    -- 'An index gives the h bytes that Scenarios writes for it, wherever it stands in a served list.'
    unfoldable pub Gives : ℕ → List ℕ → Type 0
    Gives i w =
        (is cells out : List ℕ) (n : ℕ) → Cells cells → Room is out → n < length is → get_or is n 0 ≡ i
        → Served (scenarios t h is cells out) → block h n (written t h is cells out) ≡ w

    -- ''None' is refusal 9, from Count, Scenarios and Index alike'; it 'is said exactly when none belongs'
    pub record None : Type 0 where
      pub by_count : (cells : List ℕ) → Cells cells → SaysNone (count t h cells) ↔ ((w : List ℕ) → Belongs t h w → ⊥)
      pub by_scenarios : (is cells out : List ℕ) → Cells cells → Room is out → SaysNone (scenarios t h is cells out) ↔ ((w : List ℕ) → Belongs t h w → ⊥)
      pub by_index : (s cells : List ℕ) → Cells cells → length s ≡ h → ((p : ℕ) → Case13 t s p → ⊥)
          → SaysNone (index t s cells) ↔ ((w : List ℕ) → Belongs t h w → ⊥)

    -- the scenarios of the list `is` are n, 'every belonging sequence exactly once': served, each block belongs, each that belongs is a block, and no
    -- two blocks are equal
    abbrev pub EachOnce : ℕ → List ℕ → List ℕ → List ℕ → Type 0
    EachOnce n is cells out =
        (length is ≡ n) × Served (scenarios t h is cells out)
        × ((k : ℕ) → k < n → Belongs t h (block h k (written t h is cells out)))
        × ((w : List ℕ) → Belongs t h w → (k : ℕ) × (k < n) × (block h k (written t h is cells out) ≡ w))
        × ((j k : ℕ) → j < n → k < n → block h j (written t h is cells out) ≡ block h k (written t h is cells out) → j ≡ k)

    -- the draws are served, and so are the indices that they shuffle: 'The shuffled indices are the first n numbers of Shuffle's output'; 'Unchanged,
    -- they are the list of a Scenarios call with the same text and h.'
    abbrev pub Complete : ℕ → List ℕ → List ℕ → List ℕ → List ℕ → List ℕ → Type 0
    Complete n ds scratch o cells out = Served (shuffle n ds scratch o) × EachOnce n (output n ds scratch o) cells out

    pub record Whole (L : List (List ℕ)) : Type 0 where
      -- 'the count is their number'
      pub counted : (cells : List ℕ) → Cells cells → (passes : ℕ) × (count t h cells ≡ served (length L ∷ passes ∷ []))
      -- a list of indices below the count is served
      pub listed : (is cells out : List ℕ) → Cells cells → Room is out → ((i : ℕ) → In i is → i < length L) → Served (scenarios t h is cells out)
      -- 'indices and belonging sequences match one to one': each index gives one that belongs
      pub gives : (i : ℕ) → i < length L → (w : List ℕ) × Belongs t h w × Gives i w
      -- and each that belongs is given by one index, and by no other
      pub given : (w : List ℕ) → Belongs t h w → (i : ℕ) × (i < length L) × Gives i w
      pub by_one : (w : List ℕ) (i j : ℕ) → i < length L → j < length L → Gives i w → Gives j w → i ≡ j
      -- 'in the order of events'; `ord` replaces it: 'so do the claim about indices' (02 no. 2)
      pub ordered : (i j : ℕ) (v w : List ℕ) → i < j → j < length L → Gives i v → Gives j w → Comes t v w
      -- 'the index call answers each with its index and refuses every other of that length'
      pub indexed : (w cells : List ℕ) → Cells cells → Belongs t h w → (i : ℕ) × (i < length L) × Gives i w × (index t w cells ≡ served (i ∷ []))
      pub others : (s cells : List ℕ) → Cells cells → length s ≡ h → (Belongs t h s → ⊥) → Refuses (index t s cells)
      -- 'for any valid draws, as many as the count, the scenarios of the shuffled indices are every belonging sequence exactly once'
      pub complete : (ds scratch o cells out : List ℕ) → Shufflable (length L) ds scratch o → length ds ≡ length L → Cells cells → Room ds out
          → Complete (length L) ds scratch o cells out

  -- 02 no. 10, 'for part lists as well as full ones'
  pub record Fair (n : ℕ) : Type 0 where
    -- 'any z different numbers below n, in any order, are the output of' a 'valid draw list', whatever the buffers hold; z is then at most n
    pub drawn : (o : List ℕ) → Sample n o → (ds : List ℕ) × (length ds ≡ length o) × ValidDraws n ds
        × ((scratch out : List ℕ) → Shufflable n ds scratch out → output n ds scratch out ≡ o)
    -- 'exactly one': any two valid draw lists with the same output are equal
    pub by_one : (ds es scratch scratch' out out' : List ℕ) → Shufflable n ds scratch out → Shufflable n es scratch' out'
        → output n ds scratch out ≡ output n es scratch' out' → ds ≡ es
    -- and valid draws are served and put out nothing else: so the valid lists of z draws are as many as the z different numbers, in any order
    pub sampled : (ds scratch out : List ℕ) → Shufflable n ds scratch out → Served (shuffle n ds scratch out) × Sample n (output n ds scratch out)

  -- 'For any readable rig and horizon up to 1,000, with buffers as 01 sizes them'
  pub record Demand : Type 0 where
    -- the sequences that belong are finitely many
    pub finite : (t : List ℕ) (h : ℕ) → Readable t → (Case7 h → ⊥) → (L : List (List ℕ)) × Once L × ((w : List ℕ) → In w L ↔ Belongs t h w)
    pub none : (t : List ℕ) (h : ℕ) → Readable t → (Case7 h → ⊥) → None t h
    -- 'Where 1 to 2^64−2 belong'
    pub whole : (t : List ℕ) (h : ℕ) → Readable t → (Case7 h → ⊥) → (L : List (List ℕ)) → Once L → ((w : List ℕ) → In w L ↔ Belongs t h w)
        → 1 ≤ length L → length L < most → Whole t h L
    -- 'This joins what is owed of the shuffle' (02 no. 10), rig or not
    pub fair : (n : ℕ) → Fair n
