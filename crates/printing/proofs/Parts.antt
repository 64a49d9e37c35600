-- The lines that are printed before line k, and after the last one the whole part.
--   printed from to i k == line k of the listing for the input i, if it is printed
--   before from to i k  == the lines that are printed before line k
use Rattle.std.proofs.Common.{◌≡◌, ◌⊎◌, inl, inr, List, [], ◌∷◌, ◌++◌, ℕ, zero, suc, ◌≤◌, ◌<◌, length, take, refl, sym, ap, ap₂, ◌∙◌, arith, length-append, append_assoc, append-nil}
use borrow.Author.Tests.{lt-ltb, le-ltb}
use Rattle.lists.specs.Lists.{concat_map, range}
use Rattle.lists.proofs.Blocks.{concat_map_snoc}
use Rattle.lists.proofs.Tests.{split}
use Rattle.promises.specs.Answer.{Answer, served, refused}
use Rattle.promises.specs.Text.{bytes}
use Rattle.line.specs.Line.{line_from, line_of, numbers_of}
use Rattle.listing.specs.Listing.{text, answer, head_line, follow, horizon, scenario_line, listing}
use Rattle.listing.specs.Printing.{line_at, StandsAt}
use Rattle.listing.specs.declared.Cursor.{Cursor}
use Rattle.listing.proofs.Whole.{later_line}
use Rattle.printing.specs.Part.{chosen, lent, part}

range_more : (f : ℕ → List ℕ) (n : ℕ) → concat_map f (range (suc n)) ≡ concat_map f (range n) ++ f n
unfolding range
range_more f n = concat_map_snoc f (range n) n

-- ---- the lines before line k

module _ (from to : ℕ) (input : List ℕ) where
  abbrev pub printed : ℕ → List ℕ
  printed k = lent from to k (line_at input k)

  unfoldable pub before : ℕ → List ℕ
  before k = concat_map printed (range k)

  pub before_first : before 0 ≡ []
  unfolding before range
  before_first = refl

  before_next : (k : ℕ) → before (suc k) ≡ before k ++ lent from to k (line_at input k)
  unfolding before
  before_next k = range_more printed k

  pub before_end : before (suc (follow (answer input))) ≡ part input from to
  unfolding part before range line_at
  before_end = go (follow (answer input)) (omega arith)
    where
      line : ℕ → List ℕ
      line k = chosen from to (scenario_line (text input) (horizon input) k) k

      go : (n : ℕ) → n ≤ follow (answer input) → before (suc n) ≡ head_line (answer input) ++ concat_map line (range n)
      go zero le = refl
      go (suc n) le =
          range_more printed (suc n)
          ∙ ap₂ (λ (a b : List ℕ). a ++ b) (go n (omega arith)) (ap (λ (l : List ℕ). chosen from to l n) (later_line input n le))
          ∙ append_assoc (head_line (answer input)) (concat_map line (range n)) (line n)
          ∙ ap (λ (l : List ℕ). head_line (answer input) ++ l) (sym (range_more line n))

  same : (n k : ℕ) → k ≡ n → (rest : List ℕ) × (before n ≡ before k ++ rest)
  same n k e = ([], sym (ap (λ (i : ℕ). before i ++ []) e ∙ append-nil (before n)))

  -- the lines before line k begin those before a later one
  begins : (n k : ℕ) → k ≤ n → (rest : List ℕ) × (before n ≡ before k ++ rest)
  begins zero k le = same zero k (omega arith)
  begins (suc n) k le = go (begins n k) (split k n)
    where
      go : (k ≤ n → (rest : List ℕ) × (before n ≡ before k ++ rest)) → (k ≤ n) ⊎ (n < k) → (rest : List ℕ) × (before (suc n) ≡ before k ++ rest)
      go earlier (inl h) =
          let rest = (earlier h).0 in
          (rest ++ printed n, before_next n ∙ ap (λ (l : List ℕ). l ++ printed n) (earlier h).1 ∙ append_assoc (before k) rest (printed n))
      go earlier (inr h) = same (suc n) k (omega arith)

  -- where a cursor stands
  module _ (k : ℕ) (c : Cursor) (cells table line : List ℕ) (s : StandsAt input k c cells table line) where
    line_lent : k ≤ follow (answer input) → lent from to c.index (take c.length line) ≡ lent from to k (line_at input k)
    line_lent le =
        let at : c.index ≡ k = omega (arith, s.comes_next, s.follows) in
        ap (λ i. lent from to i (take c.length line)) at ∙ ap (lent from to k) s.written

    -- the line is written, if it is one of the part, after those before it
    pub line_next : k ≤ follow (answer input) → before (suc k) ≡ before k ++ lent from to c.index (take c.length line)
    line_next le = before_next k ∙ ap (λ (l : List ℕ). before k ++ l) (sym (line_lent le))

    pub line_begins : k ≤ follow (answer input) → (rest : List ℕ) × (part input from to ≡ (before k ++ lent from to c.index (take c.length line)) ++ rest)
    line_begins le =
        let later = begins (suc (follow (answer input))) (suc k) (omega arith) in
        (later.0, sym before_end ∙ later.1 ∙ ap (λ (l : List ℕ). l ++ later.0) (line_next le))

    -- after the last line all are written
    pub all_before : k ≤ follow (answer input) → follow (answer input) ≤ k → before (suc k) ≡ part input from to
    all_before le past = let last : k ≡ follow (answer input) = omega arith in ap (λ n. before (suc n)) last ∙ before_end

-- ---- the whole

few : (a : Answer) → follow a ≤ 1000
few (served values) = omega arith
few (refused number place) = omega arith

all_chosen : (f : ℕ → List ℕ) (n : ℕ) → n ≤ 1000 → concat_map (λ k. chosen 0 1000 (f k) k) (range n) ≡ concat_map f (range n)
unfolding range
all_chosen f zero le = refl
all_chosen f (suc n) le =
    range_more (λ k. chosen 0 1000 (f k) k) n
    ∙ ap₂ (λ (a b : List ℕ). a ++ b) (all_chosen f n (omega arith)) (rw (le-ltb n 0 (omega arith), lt-ltb n 1000 le))
    ∙ sym (range_more f n)

-- the lines from 0 to before 1,000 are all
pub part_all : (input : List ℕ) → part input 0 1000 ≡ listing input
unfolding part listing
part_all input =
    ap (λ (l : List ℕ). head_line (answer input) ++ l)
    (all_chosen (scenario_line (text input) (horizon input)) (follow (answer input)) (few (answer input)))
