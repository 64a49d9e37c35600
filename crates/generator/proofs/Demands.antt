-- The demands, said of what the calls answer in code. Each premise `… ≡ promised.…` is a call's contract; the words are those of paper 01.
--   count_tells, count_none          == Count tells how many belong, or 'none'
--   scenario_belongs, belongs_listed == a served list's blocks belong, and what belongs is the block of its index
--   index_tells, index_refuses       == Index answers each sequence that belongs, and refuses every other
--   shuffle-serves                   == valid draws are served
--   sample_drawn, draws_one, output_sampled == any different numbers below n are what one list of valid draws puts out, and nothing else is put out
--   demand_2, demand_3, refusals, buffers == the whole statements, of the definitions that the contracts cite
-- Assumes nothing.
use mathlib.Core.Path.{◌≡◌, refl, sym, ap, ◌∙◌, subst}
use mathlib.Core.List.{List, [], ◌∷◌}
use Prim.Native.Nat.{ℕ, ◌<◌}
use native.Mathlib.Omega.{arith}
use lib.ListN.{length, get_or, take}
use Rattle.std.specs.Prelude.{⊤, Result, Ok, Err}
use Rattle.lists.specs.Lists.{Sample}
use Rattle.promises.specs.Answer.{served, refused, Served, Refuses}
use Rattle.promises.specs.Text.{Case12}
use Rattle.promises.specs.Meaning.{Belongs}
use Rattle.promises.specs.Demand3.{ValidDraws, Shufflable, block, output, Cells, Room, Gives, Whole}
use Rattle.promises.specs.Refusals.{Sized, Countable}
use Rattle.promises.specs.Generator.{generator}
use Rattle.promises.specs.Calls as promised
pub use Rattle.promises.proofs.Demand2.{demand_2}
pub use Rattle.promises.proofs.Demand3.{demand_3}
pub use Rattle.promises.proofs.Refusals.{refusals}
pub use Rattle.promises.proofs.Buffers.{buffers}
use Rattle.shuffle.specs.Outcome as shuffling
use Rattle.generator.specs.Outcomes.{count_answer, list_answer, index_answer}
use Rattle.filling.specs.declared.Counted.{Counted}
use Rattle.refusal.specs.declared.Refusal.{Refusal}
use Rattle.refusal.specs.declared.Refusal.TheVariants.{LongText, BadLine, LongHorizon, FewCells, NoScenario, TooManyScenarios, NoSuchIndex, ShortOutput, NoEvent, Violation, BadDraw, NoDraw, NoSlot}
use Rattle.refusal.specs.declared.Fault.TheVariants.{NoForm, OutOfRange, GivenTwice, Misplaced, TooManyStates, ListedTwice, AnswersItself, EmptyHours}
use Rattle.refusal.specs.Numbers.{number_of}

-- ---- answers read back

count-served : (a : Result Counted Refusal) (n p : ℕ) → count_answer a ≡ served (n ∷ p ∷ []) → a ≡ Ok (record { count = n; passes = p })
count-served (Ok c) n p e = let x : c.count ≡ n = cc in let y : c.passes ≡ p = cc in rw (← x, ← y)
count-served (Err r) n p e = let z : ◌≡◌ {A = ℕ} 0 1 = cc in absurd (omega arith)

-- 9 is the number of one refusal
nine : (r : Refusal) → number_of r ≡ 9 → r ≡ NoScenario
nine LongText e = absurd (omega arith)
nine (BadLine NoForm p) e = absurd (omega arith)
nine (BadLine OutOfRange p) e = absurd (omega arith)
nine (BadLine GivenTwice p) e = absurd (omega arith)
nine (BadLine Misplaced p) e = absurd (omega arith)
nine (BadLine TooManyStates p) e = absurd (omega arith)
nine (BadLine ListedTwice p) e = absurd (omega arith)
nine (BadLine AnswersItself p) e = absurd (omega arith)
nine (BadLine EmptyHours p) e = absurd (omega arith)
nine LongHorizon e = absurd (omega arith)
nine FewCells e = absurd (omega arith)
nine NoScenario e = refl
nine TooManyScenarios e = absurd (omega arith)
nine (NoSuchIndex p) e = absurd (omega arith)
nine ShortOutput e = absurd (omega arith)
nine (NoEvent p) e = absurd (omega arith)
nine (Violation p) e = absurd (omega arith)
nine (BadDraw p) e = absurd (omega arith)
nine (NoDraw p) e = absurd (omega arith)
nine NoSlot e = absurd (omega arith)

count-none : (a : Result Counted Refusal) → count_answer a ≡ refused 9 0 → a ≡ Err NoScenario
count-none (Ok c) e = let z : ◌≡◌ {A = ℕ} 0 1 = cc in absurd (omega arith)
count-none (Err r) e = let x : number_of r ≡ 9 = cc in rw (nine r x)

index-served : (a : Result ℕ Refusal) (i : ℕ) → index_answer a ≡ served (i ∷ []) → a ≡ Ok i
index-served (Ok j) i e = let x : j ≡ i = cc in rw x
index-served (Err r) i e = let z : ◌≡◌ {A = ℕ} 0 1 = cc in absurd (omega arith)

index-refused : (a : Result ℕ Refusal) → Refuses (index_answer a) → (r : Refusal) × (a ≡ Err r)
unfolding Refuses
index-refused (Err r) (n, p, e) = (r, refl)
index-refused (Ok j) (n, p, e) = let z : ◌≡◌ {A = ℕ} 0 1 = cc in absurd (omega arith)

shuffle-served : (a : Result ⊤ Refusal) → Served (shuffling.answer_of a) → a ≡ Ok tt
unfolding Served
shuffle-served (Ok u) s = refl
shuffle-served (Err r) (vs, e) = let z : ◌≡◌ {A = ℕ} 0 1 = cc in absurd (omega arith)

-- ---- Count

-- 'None' is refusal 9
pub count_none : (t : List ℕ) (h : ℕ) (cells : List ℕ) (a : Result Counted Refusal) → count_answer a ≡ promised.count t h cells → Sized t h cells → ((w : List ℕ) → Belongs t h w → ⊥) → a ≡ Err NoScenario
unfolding generator
count_none t h cells a c s f = count-none a (c ∙ refusals.count_9 t h cells s f)

module _ (t : List ℕ) (h : ℕ) (cells : List ℕ) (s : Sized t h cells) (L : List (List ℕ)) (all : Countable t h L) where
  whole : Whole generator t h L
  whole = demand_3.whole t h s.readable s.horizon L all.all.once all.all.just all.some all.few

  -- 'the count is their number'
  pub count_tells : (a : Result Counted Refusal) → count_answer a ≡ promised.count t h cells → (p : ℕ) × (a ≡ Ok (record { count = length L; passes = p }))
  unfolding generator Cells
  count_tells a c = let (p, q) = whole.counted cells s.room in (p, count-served a (length L) p (c ∙ q))

  -- 'indices and belonging sequences match one to one': a block that Scenarios leaves belongs
  pub scenario_belongs : (is out : List ℕ) (a : Result ⊤ Refusal) (after : List ℕ) → list_answer a ≡ promised.scenarios t h is cells out → after ≡ promised.written t h is cells out
      → (Case12 h is out → ⊥) → a ≡ Ok tt → (n : ℕ) → n < length is → get_or is n 0 < length L → Belongs t h (block h n after)
  unfolding generator Cells Room Gives Served
  scenario_belongs is out a after c d room e n lt below =
      let (w, b, g) = whole.gives (get_or is n 0) below in
      subst (Belongs t h) (sym (ap (block h n) d ∙ g is cells out n s.room room lt refl ([], sym c ∙ ap list_answer e))) b

  -- and each that belongs is the block of its index
  pub belongs_listed : (w : List ℕ) → Belongs t h w → (i : ℕ) × (i < length L) × ((is out : List ℕ) (a : Result ⊤ Refusal) (after : List ℕ) → list_answer a ≡ promised.scenarios t h is cells out
      → after ≡ promised.written t h is cells out → (Case12 h is out → ⊥) → a ≡ Ok tt → (n : ℕ) → n < length is → get_or is n 0 ≡ i → block h n after ≡ w)
  unfolding generator Cells Room Gives Served
  belongs_listed w b =
      let (i, l, g) = whole.given w b in
      (i, l, λ is out a after c d room e n lt q. ap (block h n) d ∙ g is cells out n s.room room lt q ([], sym c ∙ ap list_answer e))

  -- 'the index call answers each with its index and refuses every other of that length'
  pub index_tells : (w : List ℕ) (a : Result ℕ Refusal) → index_answer a ≡ promised.index t w cells → Belongs t h w → (i : ℕ) × (i < length L) × (a ≡ Ok i)
  unfolding generator Cells
  index_tells w a c b = let (i, l, g, q) = whole.indexed w cells s.room b in (i, l, index-served a i (c ∙ q))

  pub index_refuses : (w : List ℕ) (a : Result ℕ Refusal) → index_answer a ≡ promised.index t w cells → length w ≡ h → (Belongs t h w → ⊥) → (r : Refusal) × (a ≡ Err r)
  unfolding generator Cells
  index_refuses w a c l n = index-refused a (rw c (whole.others w cells s.room l n))

-- ---- Shuffle

-- valid draws are served; what the shuffled indices then give is the field `complete` of demand 3
pub shuffle-serves : (n : ℕ) (ds scratch out : List ℕ) (a : Result ⊤ Refusal) → shuffling.answer_of a ≡ promised.shuffle n ds scratch out → Shufflable n ds scratch out → a ≡ Ok tt
unfolding generator
shuffle-serves n ds scratch out a c s = shuffle-served a (rw c ((demand_3.fair n).sampled ds scratch out s).0)

-- 'any z different numbers below n, in any order, are the output of exactly one valid draw list' (02 no. 10)
module _ (n : ℕ) where
  pub sample_drawn : (o : List ℕ) → Sample n o → (ds : List ℕ) × (length ds ≡ length o) × ValidDraws n ds
      × ((scratch out after : List ℕ) → after ≡ promised.shuffled n ds scratch out → Shufflable n ds scratch out → take (length ds) after ≡ o)
  unfolding generator output
  sample_drawn o s = let (ds, l, v, f) = (demand_3.fair n).drawn o s in (ds, l, v, λ scratch out after c g. rw c (f scratch out g))

  pub draws_one : (ds es scratch scratch' out out' after after' : List ℕ) → after ≡ promised.shuffled n ds scratch out → after' ≡ promised.shuffled n es scratch' out'
      → Shufflable n ds scratch out → Shufflable n es scratch' out' → take (length ds) after ≡ take (length es) after' → ds ≡ es
  unfolding generator output
  draws_one ds es scratch scratch' out out' after after' c d f g q = (demand_3.fair n).by_one ds es scratch scratch' out out' f g (rw (c, d) at q)

  pub output_sampled : (ds scratch out after : List ℕ) → after ≡ promised.shuffled n ds scratch out → Shufflable n ds scratch out → Sample n (take (length ds) after)
  unfolding generator output
  output_sampled ds scratch out after c f = rw c ((demand_3.fair n).sampled ds scratch out f).1
