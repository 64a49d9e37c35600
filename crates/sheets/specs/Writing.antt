-- What the functions that measure and write a sheet are held to.
--   sheet_answer r      == the answer of the call in the paper's numbers
--   legs_text g j rest  == the text of the commands after the load of slot j, `rest` being what is left of the scenario
--   part_of h g rest    == the commands of a scenario of h events, of which `rest` is what it runs
--   Measures            == what is told of a sheet that fits in `room` bytes, and of one that does not
-- Assumes nothing.
use Rattle.std.specs.Prelude.{◌≡◌, List, [], ◌∷◌, ℕ, ◌-◌, ◌/◌, ◌≤◌, ◌<◌, length, Option, MatchOption, Result}
use Rattle.promises.specs.Answer.{Answer}
use Rattle.promises.specs.Sheets.{Command, load, legs, sheet, events, text, scenario, sheet_text}
use Rattle.refusal.specs.Numbers.{answered}
use Rattle.refusal.specs.declared.Refusal.{Refusal}
use Rattle.sheets.specs.declared.Report.{Report}

-- 'For a served sheet its length in bytes and the event total are reported'
abbrev pub sheet_answer : Result Report Refusal → Answer
sheet_answer = answered (λ s. s.length ∷ s.total ∷ [])

abbrev pub legs_text : ℕ → ℕ → List ℕ → List ℕ
legs_text g j rest = text (legs (length rest) g j rest)

unfoldable pub part_of : ℕ → ℕ → List ℕ → List Command
part_of h g rest = load ((h - length rest) / g) ∷ legs (length rest) g ((h - length rest) / g) rest

abbrev pub Measures : ℕ → ℕ → ℕ → List ℕ → ℕ → Option Report → Type 0
Measures m h g scenarios room told =
    let written = sheet_text m h g scenarios in
    MatchOption told (room < length written)
    (λ s. (length written ≤ room) × (s.length ≡ length written) × (s.total ≡ events (sheet g (scenario h scenarios) m)))
