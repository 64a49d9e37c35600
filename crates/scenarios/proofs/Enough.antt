-- The first 65,546 bytes of a reader, or all of them, decide the listing of all.
use Rattle.std.proofs.Common.{◌≡◌, refl, ◌⊎◌, inl, inr, List, ◌++◌, ℕ, ◌≤◌, ◌<◌, None, Some, IfSome, length, take, sym, ap, ◌∙◌, subst, append-nil}
use Rattle.std.specs.Io.KnownBytes.{Consumes, IsAtEnd}
use Rattle.std.specs.declared.option.Option.{Option}
use lib.Seq.{take_at}
use Rattle.lists.proofs.Tests.{split}
use Rattle.listing.specs.Listing.{listing}
use Rattle.listing.proofs.Whole.{listing_cut}

pub decided : (old new : Option (List ℕ)) (bytes : List ℕ) (P : List ℕ → Type 0) → Consumes old new bytes → (length bytes < 65546 → IsAtEnd new)
    → P (listing bytes) → IfSome old (λ xs. P (listing xs))
decided None new bytes P read end p = tt
decided (Some xs) None bytes P read end p = absurd read
decided (Some xs) (Some ys) bytes P read end p = subst P (go (split 65546 (length bytes))) p
  where
    go : (65546 ≤ length bytes) ⊎ (length bytes < 65546) → listing bytes ≡ listing xs
    go (inl full) = ap listing (sym (take_at bytes ys (length bytes) refl) ∙ ap (take (length bytes)) (sym read)) ∙ listing_cut xs (length bytes) full
    go (inr short) = ap listing (sym (append-nil bytes) ∙ ap (λ (l : List ℕ). bytes ++ l) (sym (end short)) ∙ sym read)
