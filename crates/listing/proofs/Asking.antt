-- An `ask` line by its first four bytes and what follows them. Assumes nothing.
use mathlib.Core.Path.{◌≡◌, ◌∙◌}
use mathlib.Core.Bool.{true, false}
use mathlib.Core.List.{List}
use mathlib.Core.Option.{none}
use Prim.Native.Nat.{ℕ, ◌≤◌, ◌<◌}
use lib.ListN.{length, take, drop}
use lib.Dec.{eqb}
use borrow.Author.Tests.{lt-ltb, le-ltb}
use Rattle.std.specs.Cmp.Lexicographic.{pointwise}
use Rattle.lists.specs.Lists.{index_of}
use Rattle.promises.specs.Text.{bytes, number}
use Rattle.decoding.proofs.Parts.{same_is}
use Rattle.listing.specs.Listing.{first_line, asked_in, asked}

abbrev pub word : List ℕ
word = bytes "ask\t"

pub asked-number : (l rest : List ℕ) → pointwise eqb (take 4 l) word ≡ true → rest ≡ drop 4 l → number rest ≡ asked_in l
unfolding asked_in
asked-number l rest p q = rw (same_is (take 4 l) word ∙ p, ← q)

pub asked-nothing : (l : List ℕ) → pointwise eqb (take 4 l) word ≡ false → none ≡ asked_in l
unfolding asked_in
asked-nothing l p = rw (same_is (take 4 l) word ∙ p)

pub asked-ended : (input : List ℕ) → index_of input 10 < length input → asked input ≡ asked_in (take (index_of input 10) input)
unfolding asked first_line
asked-ended input lt = rw (lt-ltb (index_of input 10) (length input) lt)

pub asked-unended : (input : List ℕ) → length input ≤ index_of input 10 → asked input ≡ none
unfolding asked
asked-unended input le = rw (le-ltb (index_of input 10) (length input) le)
