-- What kind of order `Comes` is. Paper 01: 'Order is by the first differing event'; paper 02 no. 2: by `ord`, or 'lower first' without it.
--   OfEvents t w       == the events of w are events of the text t
--   Order              == it is that sentence, and a strict total order on the sequences of one length
-- Assumes nothing.
use Rattle.std.specs.Prelude.{◌≡◌, ◌⊎◌, ◌↔◌, ◌≢◌, ℕ, ◌<◌, length, get_or, take}
use mathlib.Core.List.{List, Memᴰ as In}
use Rattle.promises.specs.Text.{ord, decoded, events_of, Readable}
use Rattle.promises.specs.Meaning.{Earlier, Comes}

-- 'Events are 0 to E−1'
unfoldable pub OfEvents : List ℕ → List ℕ → Type 0
OfEvents t w = (e : ℕ) → In e w → e < events_of (decoded t)

pub record Order : Type 0 where
  -- up to some place the events are the same, and there the event is earlier
  pub first_differing : (t v w : List ℕ)
      → Comes t v w ↔ ((p : ℕ) × (p < length v) × (p < length w) × (take p v ≡ take p w) × Earlier (decoded t) (get_or v p 0) (get_or w p 0))
  pub irreflexive : (t v : List ℕ) → Comes t v v → ⊥
  pub transitive : (t u v w : List ℕ) → Comes t u v → Comes t v w → Comes t u w
  pub total : (t : List ℕ) → Readable t → (v w : List ℕ) → OfEvents t v → OfEvents t w → length v ≡ length w → v ≢ w → Comes t v w ⊎ Comes t w v
  -- an `ord` line 'lists all E events, first to last': of two events, the one that stands first in it is the earlier one
  pub by_ord : (t es : List ℕ) → Readable t → In (ord es) (decoded t) → (i j : ℕ) → i < length es → j < length es
      → Earlier (decoded t) (get_or es i 0) (get_or es j 0) ↔ (i < j)
  -- 'without it 01's order holds': 'lower first'
  pub lower_first_lem : (t : List ℕ) → Readable t → ((es : List ℕ) → In (ord es) (decoded t) → ⊥) → (a b : ℕ) → a < events_of (decoded t) → b < events_of (decoded t)
      → Earlier (decoded t) a b ↔ (a < b)
