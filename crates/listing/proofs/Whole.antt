-- The listing is its lines, one after the other; and the first 65,546 bytes of an input decide it.
--   lines-listing      == the lines, one after the other, are the whole listing
--   lines_end          == no line comes after them
--   listing_cut        == what stands after the first 65,546 bytes or more changes nothing
-- Assumes nothing.
use mathlib.Core.Path.{◌≡◌, refl, sym, ap, ap₂, ◌∙◌}
use mathlib.Core.Logic.{◌⊎◌, inl, inr}
use mathlib.Core.List.{List, [], ◌∷◌, ◌++◌, append_assoc}
use mathlib.Core.Option.{Option, none, some, none-ne-some}
use Prim.Native.Nat.{ℕ, zero, suc, ◌+◌, ◌≤◌, ◌<◌}
use native.Mathlib.Omega.{arith}
use lib.ListN.{length, take, drop, length-drop}
use lib.Seq.{take_all, take-take, length-take-le}
use lib.Dec.{eqb}
use borrow.Author.Tests.{lt-ltb, le-ltb}
use Rattle.lists.specs.Lists.{index_of, concat_map, range}
use Rattle.lists.proofs.Tests.{case, split}
use Rattle.lists.proofs.Blocks.{concat_map_snoc}
use Rattle.promises.specs.Answer.{refused}
use Rattle.promises.specs.Text.{same}
use Rattle.promises.specs.Reading.{reading}
use Rattle.promises.specs.Calls.{sized_for, count}
use Rattle.decoding.proofs.Numbers.{number-long}
use Rattle.listing.specs.Listing.{asked_in, asked, text, owned, answer, head_line, follow, horizon, scenario_line, listing}
use Rattle.listing.specs.Printing.{line_at}
use Rattle.listing.proofs.Asking.{word, asked-ended, asked-unended}

-- ---- line by line

range-one : (f : ℕ → List ℕ) (n : ℕ) → concat_map f (range (suc n)) ≡ concat_map f (range n) ++ f n
unfolding range
range-one f n = concat_map_snoc f (range n) n

first_line_lem : (input : List ℕ) → concat_map (line_at input) (range 1) ≡ head_line (answer input) ++ concat_map (scenario_line (text input) (horizon input)) (range 0)
unfolding range line_at
first_line_lem input = refl

pub later_line : (input : List ℕ) (k : ℕ) → k < follow (answer input) → line_at input (suc k) ≡ scenario_line (text input) (horizon input) k
unfolding line_at
later_line input k lt = rw (lt-ltb k (follow (answer input)) lt)

-- the lines, one after the other, are the listing
pub lines-listing : (input : List ℕ) → concat_map (line_at input) (range (suc (follow (answer input)))) ≡ listing input
unfolding listing
lines-listing input = from (follow (answer input)) (omega arith)
  where
    line : ℕ → List ℕ
    line = scenario_line (text input) (horizon input)

    from : (n : ℕ) → n ≤ follow (answer input) → concat_map (line_at input) (range (suc n)) ≡ head_line (answer input) ++ concat_map line (range n)
    from zero le = first_line_lem input
    from (suc n) le =
        range-one (line_at input) (suc n)
        ∙ ap₂ (λ (a b : List ℕ). a ++ b) (from n (omega arith)) (later_line input n (omega arith))
        ∙ append_assoc (head_line (answer input)) (concat_map line (range n)) (line n)
        ∙ ap (λ (l : List ℕ). head_line (answer input) ++ l) (sym (range-one line n))

-- and no line comes after them
pub lines_end : (input : List ℕ) (k : ℕ) → follow (answer input) < k → line_at input k ≡ []
unfolding line_at
lines_end input zero lt = absurd (omega arith)
lines_end input (suc k) lt = rw (le-ltb k (follow (answer input)) (omega arith))

-- ---- a front of the input

index_of_front : (l : List ℕ) (b n : ℕ) → index_of l b < n → index_of (take n l) b ≡ index_of l b
unfolding index_of
index_of_front [] b zero h = refl
index_of_front [] b (suc n) h = refl
index_of_front (x ∷ l) b zero h = absurd (omega arith)
index_of_front (x ∷ l) b (suc n) h = case (eqb x b) (λ p. rw p) (λ p. let z = rw p at h in rw (p, index_of_front l b n (omega arith)))

index_of-past : (l : List ℕ) (b n : ℕ) → n ≤ index_of l b → length (take n l) ≤ index_of (take n l) b
unfolding index_of
index_of-past [] b zero h = omega arith
index_of-past [] b (suc n) h = omega arith
index_of-past (x ∷ l) b zero h = omega arith
index_of-past (x ∷ l) b (suc n) h = case (eqb x b) (λ p. let z = rw p at h in absurd (omega arith)) (λ p. let z = rw p at h in rw p (omega (arith, index_of-past l b n (omega arith))))

-- the longest `ask` line has nine bytes
asked-long : (l : List ℕ) → 9 < length l → asked_in l ≡ none
unfolding asked_in
asked-long l h = case (same (take 4 l) word) (λ p. rw p (number-long (drop 4 l) (omega (arith, length-drop 4 l)))) (λ p. rw p)

asked_far : (input : List ℕ) → 9 < index_of input 10 → asked input ≡ none
asked_far input far = go (split (length input) (index_of input 10))
  where
    go : (length input ≤ index_of input 10) ⊎ (index_of input 10 < length input) → asked input ≡ none
    go (inl le) = asked-unended input le
    go (inr lt) = asked-ended input lt ∙ asked-long (take (index_of input 10) input) (omega (arith, length-take-le (index_of input 10) input (omega arith)))

-- a text over 65,535 bytes
count_long : (t : List ℕ) (h : ℕ) → 65535 < length t → count t h owned ≡ refused 1 0
unfolding count sized_for reading
count_long t h long = rw (lt-ltb 65535 (length t) long)

answer-none : (k : List ℕ) → asked k ≡ none → answer k ≡ refused 2 0
unfolding answer
answer-none k q = rw q

answer-long : (k : List ℕ) (h : ℕ) → index_of k 10 ≤ 9 → 65546 ≤ length k → asked k ≡ some h → answer k ≡ refused 1 0
unfolding answer text
answer-long k h le l q = rw q (count_long (drop (index_of k 10 + 1) k) h (omega (arith, length-drop (index_of k 10 + 1) k)))

listing-refused : (i j : List ℕ) (m p : ℕ) → answer i ≡ refused m p → answer j ≡ refused m p → listing i ≡ listing j
unfolding listing range
listing-refused i j m p a b = rw (a, b)

module _ (input : List ℕ) (n : ℕ) (long : 65546 ≤ n) (past : n ≤ length input) where
  length_front : length (take n input) ≡ n
  length_front = length-take-le n input past

  bad : (i j : List ℕ) → asked i ≡ none → asked j ≡ none → listing i ≡ listing j
  bad i j a b = listing-refused i j 2 0 (answer-none i a) (answer-none j b)

  -- the first line ends among the n bytes
  near : index_of input 10 < n → listing (take n input) ≡ listing input
  near lt = go (asked input) refl
    where
      index_of_is : index_of (take n input) 10 ≡ index_of input 10
      index_of_is = index_of_front input 10 n lt

      same_ask : asked (take n input) ≡ asked input
      same_ask =
          asked-ended (take n input) (omega (arith, index_of_is, length_front))
          ∙ ap asked_in (ap (λ (p : ℕ). take p (take n input)) index_of_is ∙ take-take (index_of input 10) n input (omega arith))
          ∙ sym (asked-ended input (omega arith))

      go : (o : Option ℕ) → asked input ≡ o → listing (take n input) ≡ listing input
      go none q = bad (take n input) input (same_ask ∙ q) q
      go (some h) q =
          let le : index_of input 10 ≤ 9 = within (split 10 (index_of input 10)) in
          listing-refused (take n input) input 1 0
          (answer-long (take n input) h (omega (arith, index_of_is)) (omega (arith, length_front)) (same_ask ∙ q))
          (answer-long input h le (omega arith) q)
        where
          within : (10 ≤ index_of input 10) ⊎ (index_of input 10 < 10) → index_of input 10 ≤ 9
          within (inl far) = absurd (none-ne-some h (sym (asked_far input (omega arith)) ∙ q))
          within (inr lt) = omega arith

  pub cut_long : listing (take n input) ≡ listing input
  cut_long = go (split n (index_of input 10))
    where
      go : (n ≤ index_of input 10) ⊎ (index_of input 10 < n) → listing (take n input) ≡ listing input
      go (inl le) = bad (take n input) input (asked-unended (take n input) (index_of-past input 10 n le)) (asked_far input (omega arith))
      go (inr lt) = near lt

pub listing_cut : (input : List ℕ) (n : ℕ) → 65546 ≤ n → listing (take n input) ≡ listing input
listing_cut input n long = go (split n (length input))
  where
    go : (n ≤ length input) ⊎ (length input < n) → listing (take n input) ≡ listing input
    go (inl le) = cut_long input n long le
    go (inr lt) = ap listing (take_all n input (omega arith))
