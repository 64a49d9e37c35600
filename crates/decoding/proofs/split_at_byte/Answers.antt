-- `position` gives where the byte first stands.
use mathlib.Core.Path.{◌≡◌, refl}
use mathlib.Core.List.{List}
use Prim.Native.Nat.{ℕ, ◌+◌, ◌-◌, ◌<◌}
use lib.ListN.{length, take, drop}
use borrow.Author.Tests.{tests}
use Rattle.std.proofs.Common.{rules}
use Rattle.std.proofs.lemmas.Iterator.{YieldsList-from_slice}
use Rattle.std.proofs.lemmas.Iterator.Search.{position_from_yields_List}
use Rattle.lists.specs.Lists.{index_of}
use Rattle.decoding.proofs.Parts.{first_at}
use Rattle.decoding.proofs.Numbers.{rest-whole}
use Rattle.decoding.proofs.split_at_byte.Goals as goal

parts : (s : List ℕ) (b i : ℕ) → (i ≡ index_of s b) × (i < length s) → (index_of s b < length s) × (take i s ≡ take (index_of s b) s) × (take (length s - (i + 1)) (drop (i + 1) s) ≡ drop (index_of s b + 1) s)
parts s b i h = rw (← h.0) (h.1, refl, rest-whole s (i + 1))

pub returns-in_err-i : goal.returns-in_err-i
returns-in_err-i c =
    let first = first_at c.args.s.now c.args.b c.position.result (position_from_yields_List _ _ _ c.position.result c.position.ensures.ran (YieldsList-from_slice c.args.s.now cc) (λ x b q k. search (rules, tests))) in
    rw c.from_residual.ensures (rw c.in_err-i.was at first)

pub returns : goal.returns
returns c =
    let first = first_at c.args.s.now c.args.b c.position.result (position_from_yields_List _ _ _ c.position.result c.position.ensures.ran (YieldsList-from_slice c.args.s.now cc) (λ x b q k. search (rules, tests))) in
    parts c.args.s.now c.args.b c.in_ok-i.i (rw c.in_ok-i.was at first)
