-- The lines of a text, one after the other. Assumes nothing.
use mathlib.Core.Path.{◌≡◌, ap, ◌∙◌}
use mathlib.Core.List.{List, [], ◌∷◌, map}
use Prim.Native.Nat.{ℕ, ◌+◌, ◌≤◌, ◌<◌}
use lib.ListN.{length, take, drop}
use Rattle.lists.specs.Lists.{index_of}
use Rattle.promises.specs.Text.{split_on, init, last_of, lines, unended, decode, decoded}
use Rattle.promises.proofs.Pieces.{split_on-some}
use Rattle.decoding.proofs.Parts.{split_on-whole, split_on-first}

init-more : (p : List ℕ) (b : ℕ) (l : List ℕ) → init (p ∷ split_on b l) ≡ p ∷ init (split_on b l)
unfolding init
init-more p b l = let (q, qs, e) = split_on-some b l in rw e

last_of-more : (p : List ℕ) (b : ℕ) (l : List ℕ) → last_of (p ∷ split_on b l) ≡ last_of (split_on b l)
unfolding last_of
last_of-more p b l = let (q, qs, e) = split_on-some b l in rw e

-- a text with a line end
module _ (l : List ℕ) (end : ℕ) (e : end ≡ index_of l 10) (h : end < length l) where
  parts : split_on 10 l ≡ take end l ∷ split_on 10 (drop (end + 1) l)
  parts = rw e (split_on-first 10 l (rw (← e) h))

  pub decoded_first : decoded l ≡ decode (take end l) ∷ decoded (drop (end + 1) l)
  unfolding decoded lines
  decoded_first = ap (λ ps. map decode (init ps)) parts ∙ ap (map decode) (init-more (take end l) 10 (drop (end + 1) l))

  pub unended_first : unended l ≡ unended (drop (end + 1) l)
  unfolding unended
  unended_first = ap last_of parts ∙ last_of-more (take end l) 10 (drop (end + 1) l)

-- a text without one
module _ (l : List ℕ) (h : length l ≤ index_of l 10) where
  pub decoded_none : decoded l ≡ []
  unfolding decoded lines init
  decoded_none = ap (λ ps. map decode (init ps)) (split_on-whole 10 l h)

  pub unended_all : unended l ≡ l
  unfolding unended last_of
  unended_all = ap last_of (split_on-whole 10 l h)
