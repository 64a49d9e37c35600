-- What is written to an output of a given length.
--   line_within i es n == the line of an index and its events, or nothing where n bytes are not enough for every such line
-- Assumes nothing.
use Rattle.std.specs.Prelude.{List, [], ℕ, ◌+◌, ◌*◌, leb, length}
use Rattle.lists.specs.Lists.{pick}
use Rattle.line.specs.Line.{line_of}

-- an index has at most 20 digits, an event 3 after its tab, and the line its end
abbrev pub line_within : ℕ → List ℕ → ℕ → List ℕ
line_within index events room = pick (leb (21 + 4 * length events) room) (line_of index events) []
