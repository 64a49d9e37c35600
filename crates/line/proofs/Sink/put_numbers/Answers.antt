use mathlib.Core.List.{[], ◌∷◌, ◌++◌, append_assoc, append-nil}
use Rattle.line.specs.Line.{field_bytes, numbers_of}
use Rattle.line.proofs.Sink.put_numbers.Goals as goal

pub returns : goal.returns
unfolding numbers_of
returns g c =
    let laws = g.met.Self.Sink.laws in
    let word = c.args.word.now in
    let a = field_bytes c.args.a in
    let b = field_bytes c.args.b in
    let fields = laws.more _ _ _ (word ++ a) b (laws.more _ _ _ word a c.put.ensures c.put_field.ensures) c.put_field-2.ensures in
    rw (append-nil, ← append_assoc word a b) (laws.more _ _ _ (word ++ a ++ b) (10 ∷ []) fields c.put_end.ensures)
