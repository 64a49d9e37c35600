-- What an `ord` line is, paper 02 no. 2: where it may stand, how it is refused, and that it changes the order and nothing else.
--   Second t E es      == the first lines of t are `rig`, E and `ord` with the numbers es
--   Ordering           == the refusals of an `ord` line by its place and events; with it and without the same sequences belong, and are counted
-- How it orders is said by Order, what the calls give in this order by demands 2 and 3. Assumes nothing.
use Rattle.std.specs.Prelude.{◌≡◌, ◌↔◌, ◌≢◌, ℕ, suc, ◌≤◌, ◌<◌, length}
use mathlib.Core.List.{List, [], ◌∷◌, ◌++◌, Memᴰ as In}
use Rattle.lists.specs.Lists.{Permutation}
use Rattle.promises.specs.Answer.{served}
use Rattle.promises.specs.Text.{Line, rig, ord, events_of, decoded, Twice, Case1, AllSound, Readable, Fault, Case7, Case8}
use Rattle.promises.specs.Meaning.{Belongs}
use Rattle.promises.specs.Calls.{count}

pub record Second (t : List ℕ) (E : ℕ) (es : List ℕ) : Type 0 where
  pub short : Case1 t → ⊥
  pub back : List Line
  pub lines_are : decoded t ≡ rig E ∷ ord es ∷ back
  pub some_event : 1 ≤ E
  pub few_events : E ≤ 16

pub record Ordering : Type 0 where
  -- 'On line 2 the wrong number of fields is 2'
  pub wrong_number : (t : List ℕ) (E : ℕ) (es : List ℕ) → Second t E es → length es ≢ E → Fault t 2 2
  -- 'an event not below E is 3'
  pub not_below_lem : (t : List ℕ) (E : ℕ) (es : List ℕ) → Second t E es → length es ≡ E → (e : ℕ) → In e es → E ≤ e → Fault t 3 2
  -- '16, an event named twice in `ord`, place the line, tested after 3'
  pub named_twice : (t : List ℕ) (E : ℕ) (es : List ℕ) → Second t E es → length es ≡ E → ((e : ℕ) → In e es → e < E) → Twice es → Fault t 16 2
  -- 'an `ord` elsewhere is 5 with any number of number fields, none included'
  pub elsewhere : (t : List ℕ) (front : List Line) (es : List ℕ) (back : List Line) → (Case1 t → ⊥) → decoded t ≡ front ++ (ord es ∷ back) → AllSound [] front → length front ≢ 1
      → Fault t 5 (suc (length front))
  -- 'lists all E events': each once, and nothing else; 'at most one and only second'
  pub listed : (t es : List ℕ) → Readable t → In (ord es) (decoded t) → Permutation (events_of (decoded t)) es
  pub second : (t : List ℕ) (front : List Line) (es : List ℕ) (back : List Line) → Readable t → decoded t ≡ front ++ (ord es ∷ back) → length front ≡ 1
  -- with an `ord` line, t, and without it, u, the same sequences belong
  pub same_belong : (t u : List ℕ) (E : ℕ) (es : List ℕ) (back : List Line) → decoded t ≡ rig E ∷ ord es ∷ back → decoded u ≡ rig E ∷ back
      → (h : ℕ) (w : List ℕ) → Belongs t h w ↔ Belongs u h w
  -- and are counted
  pub same_count : (t u : List ℕ) (E : ℕ) (es : List ℕ) (back : List Line) → decoded t ≡ rig E ∷ ord es ∷ back → decoded u ≡ rig E ∷ back → Readable t → Readable u
      → (h : ℕ) → (Case7 h → ⊥) → (cells others : List ℕ) → (Case8 t h cells → ⊥) → (Case8 u h others → ⊥)
      → (n p : ℕ) → count t h cells ≡ served (n ∷ p ∷ []) → (q : ℕ) × (count u h others ≡ served (n ∷ q ∷ []))
