-- A line is put piece by piece: what that takes of a sink, and how long the pieces are. Assumes nothing.
use mathlib.Core.Path.{◌≡◌, sym, ap, ◌∙◌}
use mathlib.Core.List.{List, [], ◌∷◌, ◌++◌, append_assoc, append-nil}
use Prim.Native.Nat.{ℕ, zero, suc, ◌+◌, ◌*◌, ◌≤◌, ◌<◌}
use native.Mathlib.Numerals.{add-one}
use native.Mathlib.Omega.{arith}
use native.Mathlib.Nat.{zero-add}
use lib.ListN.{length, get_or, take, drop, length-append}
use Rattle.lists.specs.Lists.{concat_map}
use Rattle.lists.proofs.Members.{length-concat_map}
use Rattle.lists.proofs.Sums.{sum-take}
use Rattle.lists.proofs.Decimal.{decimal-short}
use Rattle.line.specs.Line.{field_bytes, line_from, numbers_of}
use Rattle.line.specs.Sinks.{SinkLaws, Fronts}
use Rattle.line.specs.declared.Front.{Front}

-- a piece of a whole is put after what was put before it
module _ {S : Type 0} {fits : S → ℕ → Type 0} {puts : S → List ℕ → S → Type 0} (laws : SinkLaws fits puts) (whole s t u : List ℕ) (q : whole ≡ s ++ (t ++ u)) (a b : S) (so_far : puts a s b) where
  pub piece_fits : fits a (length whole) → fits b (length t)
  piece_fits h = laws.room a b s (length t) so_far (laws.fewer a _ _ (omega (arith, ap length q, length-append s (t ++ u), length-append t u)) h)

-- what stands in a buffer of which nothing was written before
pub written : (a b : Front) (s : List ℕ) → a.at ≡ 0 → Fronts a s b → (x : List ℕ) → (a.out.ghost_name ≡ b.out.ghost_name → x ≡ b.out.now) → x ≡ s ++ drop (length s) a.out.now
written a b s q p x last = last (sym p.same) ∙ p.out ∙ rw (q, zero-add)

pub concat_map-take : (f : ℕ → List ℕ) (l : List ℕ) (k : ℕ) → k < length l → concat_map f (take (suc k) l) ≡ concat_map f (take k l) ++ f (get_or l k 0)
concat_map-take f [] k h = absurd (omega arith)
concat_map-take f (x ∷ l) zero h = append-nil (f x)
concat_map-take f (x ∷ l) (suc k) h = rw (concat_map-take f l k (omega arith)) (sym (append_assoc (f x) (concat_map f (take k l)) (f (get_or l k 0))))

pub fields_within : (events : List ℕ) (k : ℕ) → length (concat_map field_bytes (take k events)) ≤ length (concat_map field_bytes events)
fields_within events k = rw (length-concat_map field_bytes (take k events), length-concat_map field_bytes events) (sum-take (λ e. length (field_bytes e)) k events)

-- one event more
pub fields_more : (events : List ℕ) (k : ℕ) → k < length events → concat_map field_bytes (take (k + 1) events) ≡ concat_map field_bytes (take k events) ++ field_bytes (get_or events k 0)
fields_more events k lt = rw (add-one k, concat_map-take field_bytes events k lt)

-- one event more is put into a sink
module _ {S : Type 0} {fits : S → ℕ → Type 0} {puts : S → List ℕ → S → Type 0} (laws : SinkLaws fits puts) (es : List ℕ) (k e : ℕ) (lt : k < length es) (q : e ≡ get_or es k 0) (a b : S) (so_far : puts a (concat_map field_bytes (take k es)) b) where
  pub field_fits : fits a (length (concat_map field_bytes es)) → fits b (length (field_bytes e))
  field_fits h =
      rw q
      (laws.room a b _ (length (field_bytes (get_or es k 0))) so_far
      (laws.fewer a _ _ (omega (arith, fields_within es (k + 1), ap length (fields_more es k lt), length-append (concat_map field_bytes (take k es)) (field_bytes (get_or es k 0)))) h))

  pub field_put : (c : S) → puts b (field_bytes e) c → puts a (concat_map field_bytes (take (k + 1) es)) c
  field_put c p = rw (fields_more es k lt, ← q) (laws.more a b c _ _ so_far p)

-- an event is a byte, and has three digits at most
pub fields-short : (events : List ℕ) → ((k : ℕ) → get_or events k 0 < 256) → length (concat_map field_bytes events) ≤ 4 * length events
fields-short [] small = omega arith
fields-short (e ∷ events) small =
    omega (arith, length-append (field_bytes e) (concat_map field_bytes events), decimal-short 3 e (omega (arith, small 0)) (omega arith), fields-short events (λ k. small (suc k)))

pub number-long : (word : List ℕ) (n : ℕ) → length (line_from word (n ∷ [])) ≡ length word + length (field_bytes n) + 1
number-long word n = rw (append-nil, length-append, length-append) (omega arith)

pub numbers-long : (word : List ℕ) (a b : ℕ) → length (numbers_of word a b) ≡ length word + length (field_bytes a) + length (field_bytes b) + 1
unfolding numbers_of
numbers-long word a b = rw (append-nil, length-append, length-append) (omega (arith, length-append (field_bytes a) (field_bytes b)))
