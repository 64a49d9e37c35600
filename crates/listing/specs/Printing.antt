-- The listing as a cursor writes it, line by line.
--   line_at i k              == line k of the listing for the input i, from 0; empty once the listing has ended
--   OwnedBuffers c t l      == the cells, the table and the line have the lengths that the program owns
--   WithinLimits c room     == the cells of c's horizon and joint states are among `room` cells, and within the limits of paper 01
--   Leads s n d l           == the line d is now l, with s at its front, and n is the length of s
--   Lists A x c cells table == the cells and the table serve the lines that c tells, for the automaton A from its start x
--   EventsBy t .. i es left == the scenario of index i is at the front of `left`
--   Begins a A x h c d l .. == c tells the first line for the answer a, at the front of l; where lines follow it, they are served, for the horizon h
--   BeginsRefused, BeginsText == the same for a refusal, and for a text that is served
--   LeadsNext c .. n d l    == the line of c's next index is at the front of l
--   Serves t c cells table  == the cells and the table serve the lines that c tells, for the text t
--   StandsAt i k c .. l     == the line k of the listing for i stands at the front of l, and c tells what comes after it
--   Stands                  == c stands at some line
--   Moves c o ..            == o stands at the line after the one at which c stands; or is none, where no line follows
-- What stands in the line's buffer past the line, and in the table past its rows, is left free: nobody reads it. Assumes nothing.
use Rattle.std.specs.Prelude.{◌≡◌, List, [], ◌++◌, ℕ, zero, suc, ◌*◌, ◌≤◌, ◌<◌, min, length, take, drop, ltb, Option, None, Some}
use Rattle.lists.specs.Lists.{pick}
use Rattle.automaton.specs.Automaton.{Automaton}
use Rattle.automaton.specs.Counting.{N}
use Rattle.automaton.specs.Ranking.{unrank}
use Rattle.promises.specs.Answer.{Answer, refused}
use Rattle.promises.specs.Rig.{rig_automaton, start}
use Rattle.promises.specs.Calls.{count}
use Rattle.ranking.specs.Ranks.{Exact}
use Rattle.listing.specs.Listing.{text, answer, head_line, follow, horizon, scenario_line}
use Rattle.listing.specs.declared.Cursor.{Cursor}

unfoldable pub line_at : List ℕ → ℕ → List ℕ
line_at input zero = head_line (answer input)
line_at input (suc k) = pick (ltb k (follow (answer input))) (scenario_line (text input) (horizon input) k) []

pub record OwnedBuffers (cells table line : List ℕ) : Type 0 where
  pub cells_long : length cells ≡ 8192
  pub table_long : length table ≡ 16384
  pub line_long : 64 ≤ length line

pub record WithinLimits (c : Cursor) (room : ℕ) : Type 0 where
  pub short : c.horizon ≤ 1000
  pub start_below : c.start < c.states
  pub few_states : c.states ≤ 1024
  pub enough : c.horizon * c.states ≤ room
  pub few_lines : c.lines ≤ 1000

pub record Leads (s : List ℕ) (n : ℕ) (line left : List ℕ) : Type 0 where
  pub told : n ≡ length s
  pub written : left ≡ s ++ drop (length s) line

pub record Lists (A : Automaton) (x : ℕ) (c : Cursor) (cells table : List ℕ) : Type 0 where
  pub starts : c.start ≡ x
  pub exact : Exact A c.states 0 c.horizon x table cells
  pub below : c.lines ≤ N A c.horizon x

-- the scenario of index i is written over the first h bytes
abbrev pub EventsBy : List ℕ → List ℕ → ℕ → ℕ → ℕ → ℕ → List ℕ → List ℕ → Type 0
EventsBy table cells states x h i events left = (A : Automaton) → Exact A states 0 h x table cells → i < N A h x → left ≡ unrank A h x i ++ drop h events

abbrev pub Serves : List ℕ → Cursor → List ℕ → List ℕ → Type 0
Serves t c cells table = Lists (rig_automaton t) (start t) c cells table

pub record Begins (a : Answer) (A : Automaton) (x h : ℕ) (c : Cursor) (line left cells table : List ℕ) : Type 0 where
  pub limits : WithinLimits c 8192
  pub first : Leads (head_line a) c.length line left
  pub none_yet : c.index ≡ 0
  pub follows : c.lines ≡ follow a
  -- beside a refusal horizon, states and start are fixed too
  pub idle : c.lines ≡ 0 → (c.horizon ≡ 0) × (c.states ≡ 1) × (c.start ≡ 0)
  pub serves : 0 < c.lines → (c.horizon ≡ h) × Lists A x c cells table

-- the line `no`, whatever the automaton, the horizon, the cells and the table are
abbrev pub BeginsRefused : ℕ → ℕ → Cursor → List ℕ → List ℕ → Type 0
BeginsRefused number place c line left = (A : Automaton) (x h : ℕ) (cells table : List ℕ) → Begins (refused number place) A x h c line left cells table

-- the line of the index that comes next, wherever the lines are served
abbrev pub LeadsNext : Cursor → List ℕ → List ℕ → ℕ → List ℕ → List ℕ → Type 0
LeadsNext c cells table n line left = (t : List ℕ) → Serves t c cells table → c.index < c.lines → Leads (scenario_line t c.horizon c.index) n line left

abbrev pub BeginsText : List ℕ → ℕ → List ℕ → Cursor → List ℕ → List ℕ → List ℕ → List ℕ → Type 0
BeginsText t h old c line left cells table = Begins (count t h old) (rig_automaton t) (start t) h c line left cells table

pub record StandsAt (input : List ℕ) (k : ℕ) (c : Cursor) (cells table line : List ℕ) : Type 0 where
  pub limits : WithinLimits c (length cells)
  pub told : c.length ≡ length (line_at input k)
  pub written : take c.length line ≡ line_at input k
  pub comes_next : c.index ≡ min k c.lines
  pub follows : c.lines ≡ follow (answer input)
  pub idle : c.lines ≡ 0 → (c.horizon ≡ 0) × (c.states ≡ 1) × (c.start ≡ 0)
  pub serves : 0 < c.lines → (c.horizon ≡ horizon input) × Serves (text input) c cells table

-- c stands somewhere in the listing of some input
abbrev pub Stands : Cursor → List ℕ → List ℕ → List ℕ → Type 0
Stands c cells table line = (input : List ℕ) × ((k : ℕ) × StandsAt input k c cells table line)

-- wherever c stands, r stands one line further, with the line in `left`; where no line follows, the line's buffer is as it was
abbrev pub Moves : Cursor → Option Cursor → List ℕ → List ℕ → List ℕ → List ℕ → Type 0
Moves c None cells table line left = (input : List ℕ) (k : ℕ) → StandsAt input k c cells table line → (follow (answer input) ≤ k) × (left ≡ line)
Moves c (Some r) cells table line left = (input : List ℕ) (k : ℕ) → StandsAt input k c cells table line → (k < follow (answer input)) × StandsAt input (suc k) r cells table left
