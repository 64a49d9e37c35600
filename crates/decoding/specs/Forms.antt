-- The code's values in the words of `promises`, and a line's fields read one by one.
--   value_of o        == the number that a field is, if it is one
--   kind_of k         == the kind k of monitor, in the code's fields
--   part_of p         == the line p of a monitor, likewise
--   form_of l         == the line form l, likewise, if it is one; of an `ord` line, how many events it lists
--   over es os       == the numbers es as bytes, 255 for a larger one, written over the front of os as far as that goes
--   left_of r         == the fields of what is left of a line, if anything is
--   FieldBy read fs o gs == o is what `read` makes of the first of the fields fs, and gs are the others; where o is none, no form that needs another field begins with it
--   LastBy read fs o    == o is what `read` makes of the only one of the fields fs; where o is none, they are no such field
--   fields_from l k   == the fields after the byte 9 at k, none where the line l ends there
--   leading fs       == the numbers that the fields fs begin with, up to the first that is none
--   listed_in l       == these of the line l where its word is `ord`, else none
-- A new line form is one constructor of Kind, Part or Form and one clause here. Assumes nothing.
use denote.Ref.{Bor}
use Rattle.std.specs.Prelude.{◌≡◌, List, [], ◌∷◌, ℕ, ◌+◌, min, length, take, drop, ltb, Option, None, Some}
use Rattle.std.proofs.Math.Option.{none, some}
use Rattle.std.proofs.Math.Option as math
use Rattle.lists.specs.Lists.{pick, index_of}
use Rattle.promises.specs.Text.{Line, rig, ord, begins, continues, other, mon, gap, reply, bal, day, go, stop, amp, opens, number, field, end, fields, same, bytes}
use Rattle.promises.specs.Text as text
use Rattle.decoding.specs.declared.Form.{Form}
use Rattle.decoding.specs.declared.Form.TheVariants.{Rig, Ord, Begins, Continues}
use Rattle.decoding.specs.declared.Kind.{Kind}
use Rattle.decoding.specs.declared.Kind.TheVariants.{Mon, Gap, Reply, Bal, Day}
use Rattle.decoding.specs.declared.Part.{Part}
use Rattle.decoding.specs.declared.Part.TheVariants.{Go, Stop, Amp, Open}

abbrev pub value_of : {A : Type 0} → Option A → math.Option A
value_of None = none
value_of (Some a) = some a

abbrev pub kind_of : text.Kind → Kind
kind_of (mon S a) = Mon S a
kind_of (gap e n) = Gap e n
kind_of (reply a b lo hi) = Reply a b lo hi
kind_of (bal lo hi) = Bal lo hi
kind_of (day T) = Day T

abbrev pub part_of : text.Part → Part
part_of (go s e t) = Go s e t
part_of (stop s) = Stop s
part_of (amp e d) = Amp e d
part_of (opens e a b) = Open e a b

abbrev pub form_of : Line → Option Form
form_of (rig E) = Some (Rig E)
form_of (ord es) = Some (Ord (length es))
form_of (begins k) = Some (Begins (kind_of k))
form_of (continues p) = Some (Continues (part_of p))
form_of other = None

-- no event is 255 or more
unfoldable pub over : List ℕ → List ℕ → List ℕ
over [] os = os
over (e ∷ es) [] = []
over (e ∷ es) (o ∷ os) = min e 255 ∷ over es os

abbrev pub left_of : Option (Bor (List ℕ)) → List (List ℕ)
left_of None = []
left_of (Some s) = fields s.now

abbrev pub FieldBy : {A : Type 0} → (List ℕ → math.Option A) → List (List ℕ) → Option A → List (List ℕ) → Type 0
FieldBy {A} read fs None gs = (rest : A → List (List ℕ) → Line) → ((a : A) → rest a [] ≡ other) → field read rest fs ≡ other
FieldBy {A} read fs (Some a) gs = (rest : A → List (List ℕ) → Line) → field read rest fs ≡ rest a gs

abbrev pub LastBy : {A : Type 0} → (List ℕ → math.Option A) → List (List ℕ) → Option A → Type 0
LastBy {A} read fs None = (l : A → Line) → field read (λ a. end (l a)) fs ≡ other
LastBy {A} read fs (Some a) = (l : A → Line) → field read (λ a. end (l a)) fs ≡ l a

unfoldable pub fields_from : List ℕ → ℕ → List (List ℕ)
fields_from l k = pick (ltb k (length l)) (fields (drop (k + 1) l)) []

unfoldable pub on_first : math.Option ℕ → List ℕ → List ℕ
on_first none ns = []
on_first (some n) ns = n ∷ ns

unfoldable pub leading : List (List ℕ) → List ℕ
leading [] = []
leading (f ∷ fs) = on_first (number f) (leading fs)

unfoldable pub listed_in : List ℕ → List ℕ
listed_in l = pick (same (take (index_of l 9) l) (bytes "ord")) (leading (fields_from l (index_of l 9))) []
