-- The answer of the call in the paper's numbers.
--   answer_of r == an Ok is served, with nothing told; an Err is its refusal
-- Assumes nothing.
use Rattle.std.specs.Prelude.{[], Result}
use Rattle.promises.specs.Answer.{Answer}
use Rattle.refusal.specs.declared.Refusal.{Refusal}
use Rattle.refusal.specs.Numbers.{answered}

abbrev pub answer_of : Result Unit Refusal → Answer
answer_of r = answered (λ _. []) r
