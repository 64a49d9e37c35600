-- What a call that fails has written.
use Rattle.std.proofs.Common.{◌≡◌, List, ◌++◌, ℕ, OnErr, sym, ap, ◌∙◌, append_assoc}
use Rattle.std.specs.declared.option.Option.{Option}
use Rattle.std.specs.declared.result.Result.{Result}
use Rattle.std.specs.declared.result.Result.TheVariants.{Ok, Err}
use Rattle.std.specs.Io.KnownBytes.{Appends}
use Rattle.std.proofs.KnownBytes.{Appends-trans}
use Rattle.printing.specs.Part.{AppendsFront}

pub err_holds : {A E P : Type 0} (r : Result A E) → P → OnErr r P
err_holds (Ok x) p = tt
err_holds (Err e) p = p

-- a front of what comes next is written after what came first
pub front_after : (a b c : Option (List ℕ)) (first next rest all : List ℕ) → all ≡ (first ++ next) ++ rest → Appends a b first → AppendsFront b c next → AppendsFront a c all
front_after a b c first next rest all whole written (front, left, parted, more) = (
  first ++ front,
  left ++ rest,
  whole ∙ ap (λ (l : List ℕ). (first ++ l) ++ rest) parted ∙ ap (λ (l : List ℕ). l ++ rest) (sym (append_assoc first front left)) ∙ append_assoc (first ++ front) left rest,
  Appends-trans a b c first front written more,
)
