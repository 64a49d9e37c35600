use mathlib.Core.List.{[], ◌∷◌, ◌++◌, append-nil}
use Rattle.line.specs.Line.{field_bytes}
use Rattle.line.proofs.Sink.put_number.Goals as goal

pub returns : goal.returns
returns g c =
    let laws = g.met.Self.Sink.laws in
    let word = c.args.word.now in
    rw append-nil (laws.more _ _ _ (word ++ field_bytes c.args.n) (10 ∷ []) (laws.more _ _ _ word (field_bytes c.args.n) c.put.ensures c.put_field.ensures) c.put_end.ensures)
