-- The papers' numbers: 'When an answer is an enum, a definition states this paper's number and values for each of its cases'. Paper 01, 'Numbers of refusal',
-- and the later numbers of paper 02.
--   fault_number f == the number of what is wrong with a line
--   number_of r    == the number of a refusal
--   place_of r     == its place, 0 where none is named
--   refused_by r   == the answer that refuses so
--   answered vs r  == the answer of a result: served, with the values vs that are told of it, or its refusal
-- Assumes nothing.
use Rattle.std.specs.Prelude.{List, ℕ, Result, Ok, Err}
use Rattle.promises.specs.Answer.{Answer, served, refused}
use Rattle.refusal.specs.declared.Fault.{Fault}
use Rattle.refusal.specs.declared.Fault.TheVariants.{NoForm, OutOfRange, GivenTwice, Misplaced, TooManyStates, ListedTwice, AnswersItself, EmptyHours}
use Rattle.refusal.specs.declared.Refusal.{Refusal}
use Rattle.refusal.specs.declared.Refusal.TheVariants.{LongText, BadLine, LongHorizon, FewCells, NoScenario, TooManyScenarios, NoSuchIndex, ShortOutput, NoEvent, Violation, BadDraw, NoDraw, NoSlot}

abbrev pub fault_number : Fault → ℕ
fault_number NoForm = 2
fault_number OutOfRange = 3
fault_number GivenTwice = 4
fault_number Misplaced = 5
fault_number TooManyStates = 6
fault_number ListedTwice = 16
fault_number AnswersItself = 17
fault_number EmptyHours = 18

abbrev pub number_of : Refusal → ℕ
number_of LongText = 1
number_of (BadLine fault place) = fault_number fault
number_of LongHorizon = 7
number_of FewCells = 8
number_of NoScenario = 9
number_of TooManyScenarios = 10
number_of (NoSuchIndex place) = 11
number_of ShortOutput = 12
number_of (NoEvent place) = 13
number_of (Violation place) = 14
number_of (BadDraw place) = 15
number_of (NoDraw place) = 19
number_of NoSlot = 20

abbrev pub place_of : Refusal → ℕ
place_of LongText = 0
place_of (BadLine fault place) = place
place_of LongHorizon = 0
place_of FewCells = 0
place_of NoScenario = 0
place_of TooManyScenarios = 0
place_of (NoSuchIndex place) = place
place_of ShortOutput = 0
place_of (NoEvent place) = place
place_of (Violation place) = place
place_of (BadDraw place) = place
place_of (NoDraw place) = place
place_of NoSlot = 0

abbrev pub refused_by : Refusal → Answer
refused_by r = refused (number_of r) (place_of r)

abbrev pub answered : {A : Type 0} → (A → List ℕ) → Result A Refusal → Answer
answered told (Ok a) = served (told a)
answered told (Err r) = refused_by r
