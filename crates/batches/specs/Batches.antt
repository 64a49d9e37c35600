-- Scenarios that are written part by part.
--   nowhere                      == where a scenario stands that is none of them
--   StatesBelow p standings      == each scenario's state is below p
--   AllBegun A x h is at b ..    == every scenario of a list of indices is begun, each in its h bytes
--   PartsBy                      == n events more of each scenario are written, and nothing past them
--   BlockBy                      == each scenario is written until 16 × q events are left, and every sixteenth row is still kept
--   Copied x is standings        == each scenario stands at x with its whole index
--   Listed A p x h is ..         == the scenarios of the indices are written, and every sixteenth row is still kept
--   BatchBy                      == the same, whatever automaton the table and the rows are those of
-- What a buffer holds afterwards has its name with a prime. Assumes nothing.
use Rattle.std.specs.Prelude.{◌≡◌, List, ℕ, ◌+◌, ◌-◌, ◌*◌, ◌/◌, ◌<◌, length, get_or}
use Rattle.automaton.specs.Automaton.{Automaton}
use Rattle.automaton.specs.Counting.{N, most}
use Rattle.counting.specs.Tabled.{Tabled}
use Rattle.ranking.specs.Ranks.{HoldsRows, Begun, IndicesBelow, with_scenarios}
use Rattle.keeping.specs.Keeping.{Sixteenths, Past}
use Rattle.batches.specs.declared.Standing.{Standing}

abbrev pub nowhere : Standing
nowhere = record { state = 0; left = 0 }

unfoldable pub StatesBelow : ℕ → List Standing → Type 0
StatesBelow p standings = (k : ℕ) → k < length standings → (get_or standings k nowhere).state < p

unfoldable pub AllBegun : Automaton → ℕ → ℕ → List ℕ → ℕ → ℕ → List Standing → List ℕ → Type 0
AllBegun A x h is at b standings out =
    (k : ℕ) → k < length is → Begun A x h (get_or is k 0) at b (get_or standings k nowhere).state (get_or standings k nowhere).left (k * h) out

abbrev pub PartsBy : List ℕ → List ℕ → ℕ → ℕ → ℕ → ℕ → List Standing → List ℕ → List Standing → List ℕ → Type 0
PartsBy t rows p h at n standings out standings' out' =
    (A : Automaton) (b x : ℕ) (is : List ℕ) → Tabled A p t → HoldsRows A b n rows → length is ≡ length standings
    → AllBegun A x h is at (b + n) standings out → AllBegun A x h is (at + n) b standings' out' × Past (length is * h) out out'

abbrev pub BlockBy : List ℕ → ℕ → ℕ → ℕ → ℕ → List ℕ → List ℕ → List Standing → List ℕ → List Standing → List ℕ → Type 0
BlockBy t p h rest q cells cells' standings out standings' out' =
    (A : Automaton) (x : ℕ) (is : List ℕ) → Tabled A p t → Sixteenths A p (h / 16) cells → length is ≡ length standings → AllBegun A x h is (h - rest) rest standings out
    → AllBegun A x h is (h - 16 * q) (16 * q) standings' out' × Past (length is * h) out out' × Sixteenths A p (h / 16) cells' × Past ((h / 16 + 16) * p) cells cells'

unfoldable pub Copied : ℕ → List ℕ → List Standing → Type 0
Copied x is standings = (k : ℕ) → k < length is → get_or standings k nowhere ≡ record { state = x; left = get_or is k 0 }

pub record Listed (A : Automaton) (p x h : ℕ) (is cells cells' out out' : List ℕ) : Type 0 where
  pub written : out' ≡ with_scenarios A h x is out
  pub kept : Sixteenths A p (h / 16) cells'
  pub past : Past ((h / 16 + 16) * p) cells cells'

abbrev pub BatchBy : List ℕ → ℕ → ℕ → ℕ → List ℕ → List ℕ → List ℕ → List ℕ → List ℕ → Type 0
BatchBy t p x h is cells cells' out out' =
    (A : Automaton) → Tabled A p t → Sixteenths A p (h / 16) cells → N A h x < most → IndicesBelow (N A h x) is → Listed A p x h is cells cells' out out'
