-- The part of a listing that is printed.
--   AppendsFront old new bs == a writer's known bytes grew by a front of bs
--   chosen from to l k == l, where it is the line of index k from `from` to before `to`, and else nothing
--   lent from to k l   == l, where it is line k of a listing, from 0, that is printed: the first line, or that of an index from `from` to before `to`
--   part i from to     == the first line of the listing for the input i, and the lines of the indices from `from` to before `to`
use Rattle.std.specs.Prelude.{◌≡◌, List, [], ◌++◌, ℕ, zero, suc, ltb}
use Rattle.std.specs.Io.KnownBytes.{Appends}
use Rattle.std.specs.declared.option.Option.{Option}
use Rattle.lists.specs.Lists.{pick, concat_map, range}
use Rattle.listing.specs.Listing.{text, answer, head_line, follow, horizon, scenario_line}

abbrev pub AppendsFront : Option (List ℕ) → Option (List ℕ) → List ℕ → Type 0
AppendsFront old new bs = (front : List ℕ) × (rest : List ℕ) × (bs ≡ front ++ rest) × Appends old new front

abbrev pub chosen : ℕ → ℕ → List ℕ → ℕ → List ℕ
chosen from to line k = pick (ltb k from) [] (pick (ltb k to) line [])

abbrev pub lent : ℕ → ℕ → ℕ → List ℕ → List ℕ
lent from to zero line = line
lent from to (suc k) line = chosen from to line k

unfoldable pub part : List ℕ → ℕ → ℕ → List ℕ
part input from to = head_line (answer input) ++ concat_map (λ k. chosen from to (scenario_line (text input) (horizon input) k) k) (range (follow (answer input)))
