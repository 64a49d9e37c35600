-- Sheets of bench commands (02 no. 12; source document 002).
--   Command           == a line of the sheet: load j, run es, save j
--   shared a b        == how many events a and b begin with alike
--   slot_for g prev s  == the slot that the scenario s loads, prev being the one before it; depth_for its depth
--   tail g prev s     == what is left of s after that depth
--   leg g j es        == the run es, and the save of slot j where it ends at that slot's depth
--   legs f g j rest   == the commands after the load of slot j, `rest` being what is left of the scenario, in at most f legs
--   part g prev s     == the commands of one scenario
--   previous ss k     == the scenario before number k, and nothing before the first
--   sheet g ss m      == the commands for the scenarios ss 0 .. ss (m−1)
--   events cs         == how many events the runs of cs have together
--   command_line c, text cs  == a command as a line, and commands as a text
--   scenario h scenarios k  == scenario number k of those that were filled
--   sheet_text m h g scenarios == the bytes of the sheet
--   sheet_call, sheet_output  == the call's answer, and the output afterwards
-- and in words, apart from the definitions above but `events`, and `sheet_text` for the length of the sheet:
--   Bench             == the plain machine: a current sequence, and slots
--   step b c          == the machine after a command
--   arrivals b cs     == where the machine stands before each load, and at the end
--   saves_next cs      == the slot that the next command saves, if it is a save
--   Allowed g h b c cs, Proper g h b cs == the command c, after which cs stand, or each of the commands cs, is as the request says
--   loads cs          == the slots that are loaded
--   Shares n a b      == a and b begin with the same n events
--   Deepest g a s j   == slot j is that of the deepest depth within the start that a and s share
--   command l         == the command that a line is, if it is one
--   Drives            == a text that reads as commands, with what they do on the bench
--   Case20, Case12Sheet, SheetReady == the cases of refusal; none holds
--   SheetOwed         == what the call owes
--   SheetExamples     == small sheets
-- Checks go 7, 20, 12. Assumes nothing.
use Rattle.std.specs.Prelude.{◌≡◌, ◌⊎◌, ◌↔◌, ◌||◌, ℕ, zero, suc, ◌+◌, ◌-◌, ◌*◌, ◌/◌, ◌%◌, ◌≤◌, ◌<◌, min, length, get_or, take, drop, ltb, eqb}
use mathlib.Core.List.{List, [], ◌∷◌, ◌++◌, map, Memᴰ as In}
use Rattle.std.proofs.Math.Option.{Option, none, some}
use Rattle.lists.specs.Lists.{pick, sum, tabulate, stack}
use Rattle.promises.specs.Answer.{Answer, served, refused, Served, unless}
use Rattle.promises.specs.Text.{lines, unended, fields, numbers, same, bytes, Case7}
use Rattle.promises.specs.Spelling.{spelled, joined}
use Rattle.promises.specs.Calls.{output_after}
use Rattle.promises.specs.Demand3.{block}
use Rattle.promises.specs.Buffers.{OutputLeft}
use Rattle.promises.specs.Shapes.{Shaped}

-- 'lines `load`, j; `run` and events; `save`, j'
pub data Command : Type 0 where
  load : ℕ → Command
  run : List ℕ → Command
  save : ℕ → Command

-- ---- one scenario

-- 'the start it shares with the one before'
unfoldable pub shared : List ℕ → List ℕ → ℕ
shared [] b = 0
shared (x ∷ a) [] = 0
shared (x ∷ a) (y ∷ b) = pick (eqb x y) (suc (shared a b)) 0

-- 'Slot j is for depth j × g'; 'Each scenario loads the deepest such depth within the start it shares with the one before'
unfoldable pub slot_for : ℕ → List ℕ → List ℕ → ℕ
slot_for g prev s = shared prev s / g

unfoldable pub depth_for : ℕ → List ℕ → List ℕ → ℕ
depth_for g prev s = slot_for g prev s * g

-- 'The tail of the new scenario after the loaded depth is handed on'
unfoldable pub tail : ℕ → List ℕ → List ℕ → List ℕ
tail g prev s = drop (depth_for g prev s) s

-- 'saves at each depth reached after the load'
unfoldable pub leg : ℕ → ℕ → List ℕ → List Command
leg g j es = run es ∷ pick (eqb (length es) g) (save j ∷ []) []

-- 'A `run` ends at the next such depth or at h, and an empty one isn't written.'
unfoldable pub legs : ℕ → ℕ → ℕ → List ℕ → List Command
legs zero g j rest = []
legs (suc f) g j [] = []
legs (suc f) g j (e ∷ rest) = leg g (suc j) (take g (e ∷ rest)) ++ legs f g (suc j) (drop g (e ∷ rest))

-- as many legs as events are enough
unfoldable pub part : ℕ → List ℕ → List ℕ → List Command
part g prev s = load (slot_for g prev s) ∷ legs (length (tail g prev s)) g (slot_for g prev s) (tail g prev s)

-- ---- the sheet

-- '(slot 0 for the first)': nothing is shared with no scenario
unfoldable pub previous : (ℕ → List ℕ) → ℕ → List ℕ
previous ss zero = []
previous ss (suc k) = ss k

unfoldable pub sheet : ℕ → (ℕ → List ℕ) → ℕ → List Command
sheet g ss m = stack (λ k. part g (previous ss k) (ss k)) m

unfoldable pub events : List Command → ℕ
events [] = 0
events (load j ∷ cs) = events cs
events (run es ∷ cs) = length es + events cs
events (save j ∷ cs) = events cs

-- 'They are written as rig text lines are, each event byte as a number'
unfoldable pub command_line : Command → List ℕ
command_line (load j) = spelled "load" (j ∷ [])
command_line (run es) = spelled "run" es
command_line (save j) = spelled "save" (j ∷ [])

unfoldable pub text : List Command → List ℕ
text cs = joined (map command_line cs)

-- ---- the call

-- 'the m × h bytes that the scenarios call fills': scenario number k
unfoldable pub scenario : ℕ → List ℕ → ℕ → List ℕ
scenario h scenarios k = block h k scenarios

unfoldable pub sheet_text : ℕ → ℕ → ℕ → List ℕ → List ℕ
sheet_text m h g scenarios = text (sheet g (scenario h scenarios) m)

-- 7; 20: 'g is 0, place 0, between 7 and 12'; 'Fewer bytes, or an output shorter than the sheet, are 12.' 'its length in bytes and the event total are reported'
unfoldable pub sheet_call : ℕ → ℕ → ℕ → List ℕ → List ℕ → Answer
sheet_call m h g scenarios out =
    unless 7 0 (ltb 1000 h)
    (unless 20 0 (eqb g 0)
    (unless 12 0 (ltb (length scenarios) (m * h) || ltb (length out) (length (sheet_text m h g scenarios)))
    (served (length (sheet_text m h g scenarios) ∷ events (sheet g (scenario h scenarios) m) ∷ []))))

unfoldable pub sheet_output : ℕ → ℕ → ℕ → List ℕ → List ℕ → List ℕ
sheet_output m h g scenarios out = output_after (sheet_call m h g scenarios out) (sheet_text m h g scenarios) out

-- ---- the bench

-- 'The bench is a plain machine: a current sequence and slots'
pub record Bench : Type 0 where
  pub current : List ℕ
  pub slot : ℕ → List ℕ

-- 'load copies a slot in, run appends, save copies out'
unfoldable pub step : Bench → Command → Bench
step b (load j) = record { current = b.slot j; slot = b.slot }
step b (run es) = record { current = b.current ++ es; slot = b.slot }
step b (save j) = record { current = b.current; slot = λ i. pick (eqb i j) b.current (b.slot i) }

-- 'arrives': where it stands when a load is to come, and at the end
unfoldable pub arrivals : Bench → List Command → List (List ℕ)
arrivals b [] = b.current ∷ []
arrivals b (load j ∷ cs) = b.current ∷ arrivals (step b (load j)) cs
arrivals b (run es ∷ cs) = arrivals (step b (run es)) cs
arrivals b (save j ∷ cs) = arrivals (step b (save j)) cs

unfoldable pub saves_next : List Command → Option ℕ
saves_next [] = none
saves_next (load j ∷ cs) = none
saves_next (run es ∷ cs) = none
saves_next (save j ∷ cs) = some j

-- 'Slot j is for depth j × g'; 'A `run` ends at the next such depth or at h, and an empty one isn't written'; 'saves at each depth reached after the load', and
-- so after a run only
unfoldable pub Allowed : ℕ → ℕ → Bench → Command → List Command → Type 0
Allowed g h b (load j) cs = (length (b.slot j) ≡ j * g) × (saves_next cs ≡ none)
Allowed g h b (run es) cs =
    let depth = length b.current + length es in
    (0 < length es) × (depth ≡ min h ((length b.current / g + 1) * g)) × (saves_next cs ≡ pick (eqb (depth % g) 0) (some (depth / g)) none)
Allowed g h b (save j) cs = (length b.current ≡ j * g) × (saves_next cs ≡ none)

unfoldable pub Proper : ℕ → ℕ → Bench → List Command → Type 0
Proper g h b [] = Unit {0}
Proper g h b (c ∷ cs) = Allowed g h b c cs × Proper g h (step b c) cs

unfoldable pub loads : List Command → List ℕ
loads [] = []
loads (load j ∷ cs) = j ∷ loads cs
loads (run es ∷ cs) = loads cs
loads (save j ∷ cs) = loads cs

unfoldable pub Shares : ℕ → List ℕ → List ℕ → Type 0
Shares n a b = (n ≤ length a) × (n ≤ length b) × (take n a ≡ take n b)

-- 'the deepest such depth within the start it shares with the one before'
unfoldable pub Deepest : ℕ → List ℕ → List ℕ → ℕ → Type 0
Deepest g a s j = Shares (j * g) a s × ((i : ℕ) → Shares (i * g) a s → i ≤ j)

-- ---- a line read as rig text lines are

unfoldable pub as_slot : (ℕ → Command) → Option (List ℕ) → Option Command
as_slot f none = none
as_slot f (some []) = none
as_slot f (some (j ∷ [])) = some (f j)
as_slot f (some (j ∷ (i ∷ ns))) = none

unfoldable pub as_run : Option (List ℕ) → Option Command
as_run none = none
as_run (some es) = some (run es)

unfoldable pub form_of : List (List ℕ) → Option Command
form_of [] = none
form_of (w ∷ fs) =
    pick (same w (bytes "load")) (as_slot load (numbers fs))
    (pick (same w (bytes "run")) (as_run (numbers fs))
    (pick (same w (bytes "save")) (as_slot save (numbers fs))
    none))

unfoldable pub command : List ℕ → Option Command
command l = form_of (fields l)

-- ---- what is owed

-- the text reads as the commands cs, and what they do on the bench, whatever its slots but slot 0 hold: 'slot 0 holds the start'
pub record Drives (m h g : ℕ) (ss : ℕ → List ℕ) (written : List ℕ) (bytes total : ℕ) (cs : List Command) : Type 0 where
  -- 'its length in bytes'
  pub long : length written ≡ bytes
  -- 'written as rig text lines are'
  pub ended : unended written ≡ []
  pub reads : map command (lines written) ≡ map some cs
  -- 'Run on it, the sheet arrives at every scenario, in list order.'
  pub arrives : (b : Bench) → b.slot 0 ≡ [] → arrivals b cs ≡ b.current ∷ tabulate ss m
  -- 'saves at each depth reached after the load', and nothing before the first load
  pub unsaved : saves_next cs ≡ none
  pub proper : (b : Bench) → b.slot 0 ≡ [] → Proper g h b cs
  -- 'Each scenario loads the deepest such depth within the start it shares with the one before (slot 0 for the first)'
  pub each_loads : length (loads cs) ≡ m
  pub first_loads : 0 < m → get_or (loads cs) 0 0 ≡ 0
  pub next_loads : (k : ℕ) → suc k < m → Deepest g (ss k) (ss (suc k)) (get_or (loads cs) (suc k) 0)
  -- 'the event total'; 'the total equals the sum of h less the loaded depth over all scenarios'
  pub run_events : events cs ≡ total
  pub sum_of_tails : sum (λ j. h - j * g) (loads cs) ≡ total

-- 20: 'g is 0'
unfoldable pub Case20 : ℕ → Type 0
Case20 g = g ≡ 0

-- 12: 'Fewer bytes, or an output shorter than the sheet'
unfoldable pub Case12Sheet : ℕ → ℕ → ℕ → List ℕ → List ℕ → Type 0
Case12Sheet m h g scenarios out = (length scenarios < m * h) ⊎ (length out < length (sheet_text m h g scenarios))

pub record SheetReady (m h g : ℕ) (scenarios out : List ℕ) : Type 0 where
  pub horizon : Case7 h → ⊥
  pub spaced : Case20 g → ⊥
  pub room : Case12Sheet m h g scenarios out → ⊥

pub record SheetOwed (m h g : ℕ) (scenarios out : List ℕ) : Type 0 where
  pub seven : Case7 h → sheet_call m h g scenarios out ≡ refused 7 0
  pub twenty : (Case7 h → ⊥) → Case20 g → sheet_call m h g scenarios out ≡ refused 20 0
  pub twelve : (Case7 h → ⊥) → (Case20 g → ⊥) → Case12Sheet m h g scenarios out → sheet_call m h g scenarios out ≡ refused 12 0
  pub served_just : Served (sheet_call m h g scenarios out) ↔ SheetReady m h g scenarios out
  -- 'From m scenarios, the m × h bytes': each has h of them
  pub long : SheetReady m h g scenarios out → (k : ℕ) → k < m → length (scenario h scenarios k) ≡ h
  -- 'For a served sheet its length in bytes and the event total are reported'; 'each event byte as a number, and any byte may stand'
  pub drives : SheetReady m h g scenarios out → ((e : ℕ) → In e scenarios → e < 256)
      → (n : ℕ) × (total : ℕ) × (cs : List Command) × (sheet_call m h g scenarios out ≡ served (n ∷ total ∷ []))
      × (n ≡ length (sheet_text m h g scenarios)) × Drives m h g (scenario h scenarios) (take n (sheet_output m h g scenarios out)) n total cs
  pub output_left : OutputLeft (length (sheet_text m h g scenarios)) (sheet_call m h g scenarios out) out (sheet_output m h g scenarios out)
  -- two values are told, and 0 is no number of refusal
  pub shaped : Shaped 2 (sheet_call m h g scenarios out)

-- small sheets, worked out apart from the definitions
pub record SheetExamples : Type 0 where
  -- three scenarios of five events, saved every two: the second shares four with the first, the third two with the second
  pub three : sheet 2 (scenario 5 (0 ∷ 1 ∷ 2 ∷ 3 ∷ 4 ∷ 0 ∷ 1 ∷ 2 ∷ 3 ∷ 9 ∷ 0 ∷ 1 ∷ 7 ∷ 7 ∷ 7 ∷ [])) 3
      ≡ load 0 ∷ run (0 ∷ 1 ∷ []) ∷ save 1 ∷ run (2 ∷ 3 ∷ []) ∷ save 2 ∷ run (4 ∷ [])
      ∷ load 2 ∷ run (9 ∷ [])
      ∷ load 1 ∷ run (7 ∷ 7 ∷ []) ∷ save 2 ∷ run (7 ∷ []) ∷ []
  -- one that equals the one before, where g divides h, is its load alone; the rest of the output is kept
  pub equal : sheet_output 2 2 2 (16 ∷ 255 ∷ 16 ∷ 255 ∷ 8 ∷ []) (tabulate (λ k. 9) 33) ≡ bytes "load\t0\nrun\t16\t255\nsave\t1\nload\t1\n" ++ 9 ∷ []
  pub told : sheet_call 2 2 2 (16 ∷ 255 ∷ 16 ∷ 255 ∷ 8 ∷ []) (tabulate (λ k. 9) 33) ≡ served (32 ∷ 2 ∷ [])
  pub one_byte_short : sheet_call 2 2 2 (16 ∷ 255 ∷ 16 ∷ 255 ∷ 8 ∷ []) (tabulate (λ k. 9) 31) ≡ refused 12 0
  -- of no events each scenario is a load
  pub no_events : sheet_output 2 0 7 [] (tabulate (λ k. 9) 14) ≡ bytes "load\t0\nload\t0\n"
  -- 7 before 20 before 12
  pub spaced_0 : sheet_call 1 1 0 [] [] ≡ refused 20 0
  pub all_three : sheet_call 1 1001 0 [] [] ≡ refused 7 0
  -- m × h is meant exactly
  pub exact : sheet_call 4611686018427387904 4 1 [] [] ≡ refused 12 0
