use mathlib.Core.List.{[], ◌∷◌}
use Rattle.lists.specs.Decimal.{decimal}
use Rattle.line.proofs.Sink.put_field.Goals as goal

pub returns : goal.returns
returns g c = g.met.Self.Sink.laws.more _ _ _ (9 ∷ []) (decimal c.args.n) c.put.ensures c.put_digits.ensures
