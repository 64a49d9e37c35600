-- The only line is what `write_numbers` writes of the word and the two numbers; no line follows it. Assumes nothing.
use Rattle.refusal.specs.Numbers.{number_of, place_of}
use Rattle.listing.proofs.Beginning.{begins-refused}
use Rattle.listing.proofs.refuse.Goals as goal

pub returns : goal.returns
returns c =
    λ A x h cells table. begins-refused (number_of c.args.refusal) (place_of c.args.refusal) A x h c.write_numbers.result _ _ cells table
    (rw (← c.number.ensures, ← c.place.ensures) (record { told = c.write_numbers.ensures.value; written = c.write_numbers.ensures.out_after }))
