-- What the buffers hold afterwards.
-- Why: an answer after which something is written has passed the rows up to 8, and 12, so the buffers are long enough; rows of P cells and blocks of
-- h bytes stand one after the other. Assumes nothing.
use mathlib.Core.Path.{◌≡◌, refl, sym, ap, ◌∙◌, subst}
use mathlib.Core.Logic.{◌⊎◌, inl, inr, ◌↔◌, ⊎_elim}
use mathlib.Core.Bool.{Bool, true, false}
use mathlib.Core.List.Memᴰ.{append_cases as in-append}
use mathlib.Core.List.Memᴰ.{append_left as in_left}
use mathlib.Core.List.{List, [], ◌∷◌, ◌++◌, Memᴰ as In}
use Prim.Native.Nat.{ℕ, suc, ◌+◌, ◌-◌, ◌*◌, ◌≤◌, ◌<◌}
use native.Mathlib.Omega.{arith}
use native.Mathlib.Nat.{suc-mul, mul-le-mul_right}
use lib.ListN.{length, get_or, drop, length-append, length-drop, get_or-append}
use lib.Seq.{get_or-append-add, get_or-drop, ext_get_or}
use lib.Dec.{ltb, leb, eqb}
use borrow.Author.Tests.{ltb-false, ne_eqb}
use Rattle.lists.specs.Lists.{pick, any, concat_map}
use Rattle.lists.proofs.Tests.{contra, case, split}
use Rattle.lists.proofs.Tells.{tells_true, tells_lt, tells_eq}
use Rattle.lists.proofs.Members.{any_some, any_in}
use Rattle.lists.proofs.Tables.{length-tabulate, get_or-tabulate, length_stack, get_or-stack}
use Rattle.lists.proofs.Blocks.{length_blocks}
use Rattle.automaton.specs.Automaton.{Automaton}
use Rattle.automaton.specs.Counting.{most, cell}
use Rattle.automaton.specs.Ranking.{unrank}
use Rattle.automaton.specs.Shuffle as swapping
use Rattle.automaton.proofs.Shuffle.{length-shuffle}
use Rattle.promises.specs.Answer.{Answer, served, refused, Served, unless}
use Rattle.promises.specs.Text.{Readable, Fault, Case7, Case8, Case12, joint_states}
use Rattle.promises.specs.Rig.{rig_automaton, start}
use Rattle.promises.specs.Calls.{row, rows, filled, fills, cells_after, Freed, CellsFreed, output_after, unless_at, sized_for, sized, total, counted, count, count_cells, scenarios, scenarios_cells, written, index, index_cells, shuffle, shuffled, ScratchKept}
use Rattle.promises.specs.Refusals.{Sized}
use Rattle.promises.specs.Buffers.{ServedOr, Fills, CellsLeft, CellsFree, OutputLeft, ScratchLeft, Buffers}
use Rattle.promises.proofs.Reading.{readable-said, fault_said, fault_number, readable-or_fault}
use Rattle.promises.proofs.Meaning.{rig-states}
use Rattle.promises.proofs.Checks.{Avoids, sized_on, counted_none, counted_most}
use Rattle.promises.proofs.Answers.{served_below, block_written, scenario_long, shuffled-is}

-- ---- the cells, filled

length_row : (A : Automaton) (r : ℕ) → length (row A r) ≡ A.states
unfolding row
length_row A r = length-tabulate (cell A r) A.states

pub length_rows : (A : Automaton) (n : ℕ) → length (rows A n) ≡ n * A.states
unfolding rows
length_rows A n = length_stack (row A) A.states (length_row A) n

-- 'The cell at r × P + x holds N(r, x)'
pub get_or-rows : (A : Automaton) (n r x : ℕ) → r < n → x < A.states → get_or (rows A n) (r * A.states + x) 0 ≡ cell A r x
unfolding rows row
get_or-rows A n r x h k = get_or-stack (row A) A.states (length_row A) n r x 0 h k ∙ get_or-tabulate (cell A r) A.states x 0 k

in_rows : (p n r x : ℕ) → r < n → x < p → r * p + x < n * p
in_rows p n r x h k = let a : suc r * p ≤ n * p = mul-le-mul_right p h in omega (arith, suc-mul r p)

module _ (A : Automaton) (h : ℕ) (cells : List ℕ) where
  pub length_filled : (h + 1) * A.states ≤ length cells → length (filled A h cells) ≡ length cells
  unfolding filled
  length_filled le = rw (length-append, length_rows, length-drop) (omega arith)

  pub filled_at : (r x : ℕ) → r ≤ h → x < A.states → get_or (filled A h cells) (r * A.states + x) 0 ≡ cell A r x
  unfolding filled
  filled_at r x le lt =
      get_or-append (rows A (h + 1)) _ 0 (r * A.states + x) (rw length_rows (in_rows A.states (h + 1) r x (omega arith) lt))
      ∙ get_or-rows A (h + 1) r x (omega arith) lt

  pub filled_past : (k : ℕ) → (h + 1) * A.states ≤ k → get_or (filled A h cells) k 0 ≡ get_or cells k 0
  unfolding filled
  filled_past k le =
      let q : k ≡ length (rows A (h + 1)) + (k - (h + 1) * A.states) = rw length_rows (omega arith) in
      let e : (h + 1) * A.states + (k - (h + 1) * A.states) ≡ k = omega arith in
      ap (λ i. get_or (rows A (h + 1) ++ drop ((h + 1) * A.states) cells) i 0) q
      ∙ get_or-append-add (rows A (h + 1)) (drop ((h + 1) * A.states) cells) (k - (h + 1) * A.states) 0
      ∙ get_or-drop ((h + 1) * A.states) cells (k - (h + 1) * A.states) 0
      ∙ ap (λ i. get_or cells i 0) e

-- ---- the answers after which the cells are filled

pub fills-told : (a : Answer) → (fills a ≡ true) ↔ Fills a
unfolding fills ServedOr Served
fills-told (served vs) = (λ q. inl (vs, refl), λ f. refl)
fills-told (refused n p) = (λ q. inr (n, p, refl, told q), λ f. tell f)
  where
    told : any (eqb n) (9 ∷ 10 ∷ 11 ∷ 14 ∷ []) ≡ true → In n (9 ∷ 10 ∷ 11 ∷ 14 ∷ [])
    told q = let (e, i, r) = any_some (eqb n) (9 ∷ 10 ∷ 11 ∷ 14 ∷ []) q in subst (λ k. In k (9 ∷ 10 ∷ 11 ∷ 14 ∷ [])) (sym ((tells_eq n e).yes r)) i

    tell : ((vs : List ℕ) × (refused n p ≡ served vs)) ⊎ ((m : ℕ) × (q : ℕ) × (refused n p ≡ refused m q) × In m (9 ∷ 10 ∷ 11 ∷ 14 ∷ [])) → any (eqb n) (9 ∷ 10 ∷ 11 ∷ 14 ∷ []) ≡ true
    tell (inl (vs, q)) = let z : ◌≡◌ {A = ℕ} 0 1 = cc in absurd (omega arith)
    tell (inr (m, k, q, i)) = let e : n ≡ m = cc in any_in (eqb n) i (tells_true (tells_eq n m) e)

-- no row up to 8 fills the cells, nor one that paper 02 adds
pub early_fills : (n p : ℕ) → (n ≤ 8) ⊎ (16 ≤ n) → fills (refused n p) ≡ false
unfolding fills
early_fills n p o = rw (ne_eqb n 9 (λ q. far 9 (omega arith) (omega arith) q o), ne_eqb n 10 (λ q. far 10 (omega arith) (omega arith) q o), ne_eqb n 11 (λ q. far 11 (omega arith) (omega arith) q o), ne_eqb n 14 (λ q. far 14 (omega arith) (omega arith) q o))
  where
    far : (m : ℕ) → 8 < m → m < 16 → n ≡ m → (n ≤ 8) ⊎ (16 ≤ n) → ⊥
    far m a b q (inl h) = omega arith
    far m a b q (inr h) = omega arith

-- a refused text leaves them as they were
pub fault_fills : (t : List ℕ) (n p : ℕ) → Fault t n p → fills (refused n p) ≡ false
fault_fills t n p f = early_fills n p (⊎_elim (λ h. inl (omega arith)) (λ h. inr h) (fault_number t n p f))

-- whoever fills the cells has passed rows 1 to 8 and 16 to 18
pub sized_for-passed : (t : List ℕ) (rows h : ℕ) (cells : List ℕ) (a : Answer) → fills (sized_for t rows h cells a) ≡ true → Readable t × (Case7 h → ⊥) × (length cells < rows * joint_states t → ⊥)
unfolding sized_for fills Case7
sized_for-passed t rows h cells a f = go (readable-or_fault t)
  where
    go : Readable t ⊎ ((n : ℕ) × (p : ℕ) × Fault t n p) → Readable t × (1000 < h → ⊥) × (length cells < rows * joint_states t → ⊥)
    go (inr (n, p, q)) = contra (rw (fault_said t n p q) at f) (fault_fills t n p q)
    go (inl r) =
        let f₁ = rw (readable-said t r) at f in
        case (ltb 1000 h)
        (λ q. contra (rw q at f₁) refl)
        (λ q. let f₂ = rw q at f₁ in
        case (ltb (length cells) (rows * joint_states t))
        (λ e. contra (rw e at f₂) refl)
        (λ e. (r, (tells_lt 1000 h).no q, (tells_lt (length cells) (rows * joint_states t)).no e)))

pub sized-passed : (t : List ℕ) (h : ℕ) (cells : List ℕ) (a : Answer) → fills (sized t h cells a) ≡ true → Sized t h cells
unfolding Case8
sized-passed t h cells a f = let (r, c7, c8) = sized_for-passed t (h + 1) h cells a f in record { readable = r; horizon = c7; room = c8 }

cells_left : (t : List ℕ) (h : ℕ) (cells : List ℕ) (a : Answer) → CellsLeft t h (sized t h cells a) cells (cells_after (sized t h cells a) (rig_automaton t) h cells)
unfolding cells_after cell Case8
cells_left t h cells a =
    case (fills (sized t h cells a))
    (λ q. rw q (record {
      long = length_filled (rig_automaton t) h cells (rw (rig-states t) (room q));
      filled = λ f r x le lt. rw (← rig-states t) (filled_at (rig_automaton t) h cells r x le (rw (rig-states t) lt));
      past = λ f k le. filled_past (rig_automaton t) h cells k (rw (rig-states t) le);
      untouched = λ n. absurd (n ((fills-told (sized t h cells a)).0 q));
    }))
    (λ q. rw q (record {
      long = refl;
      filled = λ f. contra ((fills-told (sized t h cells a)).1 f) q;
      past = λ f k le. refl;
      untouched = λ n. refl;
    }))
  where
    room : fills (sized t h cells a) ≡ true → (h + 1) * joint_states t ≤ length cells
    room q = ⊎_elim (λ k. k) (λ k. absurd ((sized-passed t h cells a q).room k)) (split ((h + 1) * joint_states t) (length cells))

-- ---- cells that are left free

-- numbers that are never said need not be named
fewer_numbers : (ns ms : List ℕ) (a : Answer) → ((m : ℕ) → In m ms → Avoids m a) → ServedOr (ns ++ ms) a ↔ ServedOr ns a
unfolding ServedOr
fewer_numbers ns ms a never = (
  ⊎_elim (λ s. inl s) (λ (n, p, q, i). inr (n, p, q, ⊎_elim (λ j. j) (λ j. absurd (never n j p q)) (in-append ns i))),
  ⊎_elim (λ s. inl s) (λ (n, p, q, i). inr (n, p, q, in_left ms i)),
)

-- what is said of them is just this: they are free when served and after the refusals ns, where the others after which cells are filled are never said
pub cells_free : (need : ℕ) (ns ms : List ℕ) (a : Answer) (cells left : List ℕ) → ns ++ ms ≡ 9 ∷ 10 ∷ 11 ∷ 14 ∷ [] → ((m : ℕ) → In m ms → Avoids m a)
    → CellsFreed a need cells left ↔ CellsFree need ns a cells left
unfolding CellsFreed Freed
cells_free need ns ms a cells left all never = go (fills a) (λ q. fewer.0 (told.0 q), λ s. told.1 (fewer.1 s))
  where
    told : (fills a ≡ true) ↔ ServedOr (ns ++ ms) a
    told = rw all (fills-told a)

    fewer : ServedOr (ns ++ ms) a ↔ ServedOr ns a
    fewer = fewer_numbers ns ms a never

    go : (b : Bool) → (b ≡ true) ↔ ServedOr ns a → pick b ((length left ≡ length cells) × ((k : ℕ) → need ≤ k → get_or left k 0 ≡ get_or cells k 0)) (left ≡ cells) ↔ CellsFree need ns a cells left
    go true t = (
      λ (long, past). record { long = long; past = past; untouched = λ u. absurd (u (t.0 refl)) },
      λ f. (f.long, f.past),
    )
    go false t = (
      λ e. record { long = ap length e; past = λ k le. ap (λ l. get_or l k 0) e; untouched = λ u. e },
      λ f. f.untouched (λ s. contra (t.1 s) refl),
    )

-- ---- the outputs

pub refused-serves : (n p : ℕ) → Served (refused n p) → ⊥
unfolding Served
refused-serves n p (vs, q) = let z : ◌≡◌ {A = ℕ} 0 1 = cc in omega arith

-- a served answer has passed each check
pub unless-served : (n p : ℕ) (bad : Bool) (a : Answer) → Served (unless n p bad a) → (bad ≡ false) × Served a
unless-served n p true a s = absurd (refused-serves n p s)
unless-served n p false a s = (refl, s)

served-or : (a : Answer) → Served a ⊎ (Served a → ⊥)
unfolding Served
served-or (served vs) = inl (vs, refl)
served-or (refused n p) = inr (refused-serves n p)

pub served-fills : (a : Answer) → Served a → fills a ≡ true
unfolding ServedOr
served-fills a s = (fills-told a).1 (inl s)

pub output_left : (n : ℕ) (a : Answer) (fresh out : List ℕ) → (Served a → (length fresh ≡ n) × (n ≤ length out)) → OutputLeft n a out (output_after a fresh out)
unfolding output_after Served
output_left n (served vs) fresh out f =
    let (q, le) = f (vs, refl) in
    record {
      long = rw (length-append, length-drop) (omega arith);
      past = λ k m. kept q k m;
      untouched = λ u. absurd (u (vs, refl));
    }
  where
    kept : length fresh ≡ n → (k : ℕ) → n ≤ k → get_or (fresh ++ drop (length fresh) out) k 0 ≡ get_or out k 0
    kept q k m =
        let e : k ≡ length fresh + (k - length fresh) = omega arith in
        ap (λ i. get_or (fresh ++ drop (length fresh) out) i 0) e
        ∙ get_or-append-add fresh (drop (length fresh) out) (k - length fresh) 0
        ∙ get_or-drop (length fresh) out (k - length fresh) 0
        ∙ ap (λ i. get_or out i 0) (sym e)
output_left n (refused m p) fresh out f = record { long = refl; past = λ k l. refl; untouched = λ u. refl }

-- a served list has passed every row
record Listed (t : List ℕ) (h : ℕ) (is cells out : List ℕ) : Type 0 where
  passed : Sized t h cells
  room : Case12 h is out → ⊥
  some : 1 ≤ total t h
  few : total t h < most

listed : (t : List ℕ) (h : ℕ) (is cells out : List ℕ) → Served (scenarios t h is cells out) → Listed t h is cells out
unfolding scenarios Case12
listed t h is cells out s = record { passed = z; room = room; some = counting.0; few = counting.1 }
  where
    z : Sized t h cells
    z = sized-passed t h cells _ (served-fills (scenarios t h is cells out) s)

    after_8 : Served (unless 12 0 (ltb (length out) (length is * h)) (counted t h (unless_at 11 (λ p i. leb (total t h) i) is (served []))))
    after_8 = rw (sized_on t h cells _ z.readable z.horizon z.room) at s

    twelve : (ltb (length out) (length is * h) ≡ false) × Served (counted t h (unless_at 11 (λ p i. leb (total t h) i) is (served [])))
    twelve = unless-served 12 0 (ltb (length out) (length is * h)) _ after_8

    room : length out < length is * h → ⊥
    room c = (tells_lt (length out) (length is * h)).no twelve.0 c

    counting : (1 ≤ total t h) × (total t h < most)
    counting = (
      ⊎_elim (λ l. l) (λ l. let q : total t h ≡ 0 = omega arith in absurd (refused-serves 9 0 (rw (counted_none t h _ q) at twelve.1))) (split 1 (total t h)),
      ⊎_elim (λ l. absurd (refused-serves 10 0 (rw (counted_most t h _ l) at twelve.1))) (λ l. l) (split most (total t h)),
    )

shuffle-room : (n : ℕ) (ds scratch out : List ℕ) → Served (shuffle n ds scratch out) → length ds ≤ length out
unfolding shuffle
shuffle-room n ds scratch out s =
    let (q, s₁) = unless-served 8 0 (ltb (length scratch) (2 * length ds)) _ s in
    ltb-false (length out) (length ds) (unless-served 12 0 (ltb (length out) (length ds)) _ s₁).0

enough : (h : ℕ) (is out : List ℕ) → (Case12 h is out → ⊥) → length is * h ≤ length out
unfolding Case12
enough h is out c = ⊎_elim (λ k. k) (λ k. absurd (c k)) (split (length is * h) (length out))

pub fresh_listed : (t : List ℕ) (h : ℕ) (is cells out : List ℕ) → Served (scenarios t h is cells out) → (length (concat_map (unrank (rig_automaton t) h (start t)) is) ≡ length is * h) × (length is * h ≤ length out)
fresh_listed t h is cells out s =
    let l = listed t h is cells out s in
    let below = served_below t h l.passed.readable l.passed.horizon l.some l.few is cells out l.passed.room l.room s in
    (length_blocks (unrank (rig_automaton t) h (start t)) h is (λ i m. scenario_long t h l.passed.readable l.passed.horizon l.some l.few i (below i m)), enough h is out l.room)

-- ---- the scratch

scratch_left : (a : Answer) (ds scratch left : List ℕ) → ScratchKept a ds scratch left ↔ ScratchLeft (length ds) a scratch left
unfolding ScratchKept Served
scratch_left (served vs) ds scratch left = (
  λ (long, rest). record { long = long; past = λ k le. same rest k le; untouched = λ u. absurd (u (vs, refl)) },
  λ l. (
    l.long,
    ext_get_or 0 (drop (2 * length ds) left) (drop (2 * length ds) scratch) (rw (length-drop (2 * length ds) left, length-drop (2 * length ds) scratch, l.long)) (λ i lt. get_or-drop (2 * length ds) left i 0 ∙ l.past (2 * length ds + i) (omega arith) ∙ sym (get_or-drop (2 * length ds) scratch i 0)),
  ),
)
  where
    same : drop (2 * length ds) left ≡ drop (2 * length ds) scratch → (k : ℕ) → 2 * length ds ≤ k → get_or left k 0 ≡ get_or scratch k 0
    same rest k le =
        let e : 2 * length ds + (k - 2 * length ds) ≡ k = omega arith in
        ap (λ i. get_or left i 0) (sym e) ∙ sym (get_or-drop (2 * length ds) left (k - 2 * length ds) 0)
        ∙ ap (λ l. get_or l (k - 2 * length ds) 0) rest
        ∙ get_or-drop (2 * length ds) scratch (k - 2 * length ds) 0 ∙ ap (λ i. get_or scratch i 0) e
scratch_left (refused n p) ds scratch left = (
  λ q. record { long = ap length q; past = λ k le. ap (λ l. get_or l k 0) q; untouched = λ u. q },
  λ l. l.untouched (refused-serves n p),
)

pub buffers : Buffers
unfolding Served
buffers = record {
  count_cells_lem = λ t h cells. unfold count_cells count in cells_left t h cells _;
  scenarios_cells_lem = λ t h is cells out. unfold scenarios_cells scenarios in cells_left t h cells _;
  index_cells_lem = λ t s cells. unfold index_cells index in cells_left t (length s) cells _;
  scenarios_output = λ t h is cells out. unfold written in output_left (length is * h) (scenarios t h is cells out) _ out (fresh_listed t h is cells out);
  scenarios_written = λ t h is cells out s. let l = listed t h is cells out s in block_written t h l.passed.readable l.passed.horizon l.some l.few is cells out l.passed.room l.room s;
  shuffle_output = λ n ds scratch out. unfold shuffled in output_left (length ds) (shuffle n ds scratch out) (swapping.shuffle ds) out (λ s. (length-shuffle ds, shuffle-room n ds scratch out s));
  shuffle_written = shuffled-is;
  shuffle_scratch = λ n ds scratch out left. scratch_left (shuffle n ds scratch out) ds scratch left;
}
