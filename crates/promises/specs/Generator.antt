-- The four calls as the contracts fix them. Assumes nothing.
use Rattle.promises.specs.Demand3.{Calls}
use Rattle.promises.specs.Calls as calls

unfoldable pub generator : Calls
generator = record {
  count = calls.count;
  scenarios = calls.scenarios;
  written = calls.written;
  index = calls.index;
  shuffle = calls.shuffle;
  shuffled = calls.shuffled;
}
