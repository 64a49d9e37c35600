-- What a reader has given.
--   ConsumesFront old new buf == a reader's known bytes lost a front, which stands at the front of buf
use Rattle.std.specs.Prelude.{ℕ, ◌≤◌, List, length, take}
use Rattle.std.specs.Io.KnownBytes.{Consumes}
use Rattle.std.specs.declared.option.Option.{Option}

abbrev pub ConsumesFront : Option (List ℕ) → Option (List ℕ) → List ℕ → Type 0
ConsumesFront old new buf = (n : ℕ) × (n ≤ length buf) × Consumes old new (take n buf)
