-- What the calls answer on a readable text with buffers as sized, and what Scenarios writes. Both demands rest on this.
-- Why: on such input the checks up to 8, and 12, pass; what is left is decided by N, by the first bad index and by the first event that leads astray.
-- Assumes nothing.
use mathlib.Core.Path.{◌≡◌, sym, ◌∙◌}
use mathlib.Core.Logic.{◌⊎◌, inl, inr, ◌≢◌, ◌↔◌, ⊎_elim}
use mathlib.Core.Bool.{true, false, ◌||◌}
use mathlib.Core.List.{List, [], ◌∷◌, Memᴰ as In}
use Prim.Native.Nat.{ℕ, zero, suc, ◌+◌, ◌*◌, ◌≤◌, ◌<◌}
use native.Mathlib.Omega.{arith}
use native.Mathlib.Nat.{eq-or-lt_of_le, not-suc-le-zero}
use lib.ListN.{length, get_or, take}
use lib.Seq.{take_at}
use lib.Dec.{ltb, leb}
use borrow.Author.Tests.{leb-true, leb-false}
use Rattle.lists.proofs.Tests.{contra, case, split}
use Rattle.lists.proofs.Tells.{tells_true, tells_false, tells_lt, tells_le, tells_or}
use Rattle.lists.proofs.Members.{get_or-in}
use Rattle.lists.proofs.Distinct.{in_place, distinct-once, same_length, once-distinct}
use Rattle.lists.proofs.Blocks.{block_at}
use Rattle.automaton.specs.Pruning.{passes, live}
use Rattle.automaton.specs.Counting as counting
use Rattle.automaton.specs.Counting.{Stays, most}
use Rattle.automaton.specs.Ranking.{unrank, rank, first_violation}
use Rattle.automaton.specs.Shuffle as swapping
use Rattle.automaton.specs.Shuffle.{Valid}
use Rattle.automaton.proofs.Counting.{scenarios_length, scenarios_distinct, belongs_iff, stays_events, N_live}
use Rattle.automaton.proofs.Ranking.{rank_unrank, none_iff, first_violation_none, first_violation_le}
use Rattle.automaton.proofs.Shuffle.{length-shuffle}
use Rattle.promises.specs.Answer.{Answer, served, refused, Served, Refuses, SaysNone, unless}
use Rattle.promises.specs.Text.{decoded, events_of, Readable, Case7, Case8, Case8Scratch, Case12, Case12Draws, Case13}
use Rattle.promises.specs.Meaning.{Belongs}
use Rattle.promises.specs.Rig.{rig_automaton, start}
use Rattle.promises.specs.Calls.{unless_at, output_after, total, counted, total_rows, count, scenarios, written, index, bad_draw, shuffle, shuffled}
use Rattle.promises.specs.Demand3.{Once, ValidDraws, Shufflable, block, output}
use Rattle.promises.specs.Generator.{generator}
use Rattle.promises.proofs.Meaning.{events_just, events_distinct, text_belongs}
use Rattle.promises.proofs.Checks.{checked_list, check_passed, sized_on, counted_none, counted_most, counted_on, says_none}

pub served-none : (vs : List ℕ) → SaysNone (served vs) → ⊥
unfolding SaysNone
served-none vs (p, q) = let z : ◌≡◌ {A = ℕ} 0 1 = cc in omega arith

pub refused_none : (n p : ℕ) → n ≢ 9 → SaysNone (refused n p) → ⊥
unfolding SaysNone
refused_none n p ne (k, q) = let z : n ≡ 9 = cc in ne z

-- ---- what belongs, on a readable text

module _ (t : List ℕ) (h : ℕ) (r : Readable t) where
  pub belongs_listed : (w : List ℕ) → Belongs t h w ↔ In w (counting.scenarios (rig_automaton t) h (start t))
  belongs_listed w =
      let a = text_belongs t r h w in
      let b = belongs_iff (rig_automaton t) h (start t) w in
      (λ p. b.0 (a.0 p), λ i. a.1 (b.1 i))

  pub none_belongs : (total t h ≡ 0) ↔ ((w : List ℕ) → Belongs t h w → ⊥)
  unfolding total
  none_belongs =
      let n = none_iff (rig_automaton t) h (start t) in
      (λ z w b. n.0 z w ((text_belongs t r h w).0 b), λ f. n.1 (λ w b. f w ((text_belongs t r h w).1 b)))

-- ---- what is said, with buffers as sized

module _ (t : List ℕ) (h : ℕ) (r : Readable t) (c7 : Case7 h → ⊥) where
  pub count_is : (cells : List ℕ) → (Case8 t h cells → ⊥) → count t h cells ≡ total_rows t h
  unfolding count
  count_is cells c8 = sized_on t h cells _ r c7 c8

  pub scenarios_is : (is cells out : List ℕ) → (Case8 t h cells → ⊥) → (Case12 h is out → ⊥)
      → scenarios t h is cells out ≡ counted t h (unless_at 11 (λ p i. leb (total t h) i) is (served []))
  unfolding scenarios Case12
  scenarios_is is cells out c8 c12 = sized_on t h cells _ r c7 c8 ∙ check_passed 12 0 (ltb (length out) (length is * h)) _ (tells_false (tells_lt (length out) (length is * h)) c12)

  pub list_none : (is : List ℕ) → SaysNone (unless_at 11 (λ p i. leb (total t h) i) is (served [])) → ⊥
  list_none is s = ⊎_elim (λ (q, g). served-none [] (rw q at s)) (λ (k, lt, q, b, g). refused_none 11 k (omega arith) (rw q at s)) (checked_list 11 (λ p i. leb (total t h) i) is (served []))

-- any list of what belongs, each once, is as long as the count
pub listed-length : (t : List ℕ) (h : ℕ) → Readable t → (L : List (List ℕ)) → Once L → ((w : List ℕ) → In w L ↔ Belongs t h w) → length L ≡ total t h
unfolding Once total
listed-length t h r L once all =
    same_length L (counting.scenarios (rig_automaton t) h (start t)) (once-distinct [] L once) (scenarios_distinct (rig_automaton t) (events_distinct t r) h (start t))
    (λ w i. (belongs_listed t h r w).0 ((all w).0 i)) (λ w i. (all w).1 ((belongs_listed t h r w).1 i))
    ∙ scenarios_length (rig_automaton t) h (start t)

-- rigs to which the same sequences belong have the same count
pub same_total : (t u : List ℕ) (h : ℕ) → Readable t → Readable u → ((w : List ℕ) → Belongs t h w ↔ Belongs u h w) → total t h ≡ total u h
unfolding Once
same_total t u h r s same =
    sym (listed-length t h r (counting.scenarios (rig_automaton u) h (start u)) (distinct-once [] _ (scenarios_distinct (rig_automaton u) (events_distinct u s) h (start u)))
    (λ w. (λ i. (same w).1 ((belongs_listed u h s w).1 i), λ b. (belongs_listed u h s w).0 ((same w).0 b))))
    ∙ listed-length u h s _ (distinct-once [] _ (scenarios_distinct (rig_automaton u) (events_distinct u s) h (start u))) (λ w. ((belongs_listed u h s w).1, (belongs_listed u h s w).0))

-- the events of a sequence of which case 13 holds nowhere are the rig's
pub events_in : (t : List ℕ) → Readable t → (s : List ℕ) → ((k : ℕ) → k < length s → leb (events_of (decoded t)) (get_or s k 0) ≡ false) → (e : ℕ) → In e s → In e (rig_automaton t).events
events_in t r s good e i =
    let (k, lt, q) = in_place 0 i in
    (events_just t r e).1 (omega (arith, leb-false (events_of (decoded t)) (get_or s k 0) (good k lt)))

in_events : (t : List ℕ) → Readable t → (s : List ℕ) → Stays (rig_automaton t) (start t) s → (k : ℕ) → k < length s → leb (events_of (decoded t)) (get_or s k 0) ≡ false
in_events t r s w k lt =
    tells_false (tells_le (events_of (decoded t)) (get_or s k 0))
    (λ le. let b : get_or s k 0 < events_of (decoded t) = (events_just t r (get_or s k 0)).0 (stays_events (rig_automaton t) (start t) s w (get_or s k 0) (get_or-in s k 0 lt)) in omega arith)

-- ---- Index, on a sequence of an allowed length

module _ (t s cells : List ℕ) (r : Readable t) (c7 : Case7 (length s) → ⊥) (c8 : Case8 t (length s) cells → ⊥) where
  -- the answer once no event byte is bad
  abbrev pub located : Answer
  located = unless 14 (first_violation (rig_automaton t) (start t) s) (ltb (first_violation (rig_automaton t) (start t) s) (length s)) (served (rank (rig_automaton t) (start t) s ∷ []))

  pub located_none : SaysNone located → ⊥
  located_none n = case (ltb (first_violation (rig_automaton t) (start t) s) (length s)) (λ q. refused_none 14 _ (omega arith) (rw q at n)) (λ q. served-none _ (rw q at n))

  pub index_is : index t s cells ≡ unless_at 13 (λ p e. leb (events_of (decoded t)) e) s (counted t (length s) located)
  unfolding index
  index_is = sized_on t (length s) cells _ r c7 c8

  pub index_good : ((k : ℕ) → k < length s → leb (events_of (decoded t)) (get_or s k 0) ≡ false) → index t s cells ≡ counted t (length s) located
  index_good good =
      index_is ∙ ⊎_elim (λ (q, g). q) (λ (k, lt, q, b, g). contra b (good k lt)) (checked_list 13 (λ p e. leb (events_of (decoded t)) e) s (counted t (length s) located))

  pub index_none : ((p : ℕ) → Case13 t s p → ⊥) → SaysNone (index t s cells) ↔ (total t (length s) ≡ 0)
  unfolding Case13
  index_none c13 = rw (index_good (λ k lt. tells_false (tells_le (events_of (decoded t)) (get_or s k 0)) (λ le. c13 k (lt, le)))) (says_none t (length s) located located_none)

  module _ (ge : 1 ≤ total t (length s)) (lt : total t (length s) < most) where
    pub start_live : live (rig_automaton t) (start t) ≡ true
    unfolding total
    start_live = N_live (rig_automaton t) (length s) (start t) ge

    pub index_of_scenario : Stays (rig_automaton t) (start t) s → index t s cells ≡ served (rank (rig_automaton t) (start t) s ∷ [])
    index_of_scenario w =
        index_good (in_events t r s w) ∙ counted_on t (length s) located ge lt
        ∙ rw ((first_violation_none (rig_automaton t) (start t) s start_live (stays_events (rig_automaton t) (start t) s w)).1 w, tells_false (tells_lt (length s) (length s)) (λ h. omega arith))

    pub index_of_others : (Stays (rig_automaton t) (start t) s → ⊥) → Refuses (index t s cells)
    unfolding Refuses
    index_of_others n = ⊎_elim (λ (q, g). (14, first_violation (rig_automaton t) (start t) s, index_is ∙ q ∙ counted_on t (length s) located ge lt ∙ rw (tells_true (tells_lt (first_violation (rig_automaton t) (start t) s) (length s)) (early g)))) (λ (k, l, q, b, g). (13, k, index_is ∙ q)) (checked_list 13 (λ p e. leb (events_of (decoded t)) e) s (counted t (length s) located))
      where
        early : ((k : ℕ) → k < length s → leb (events_of (decoded t)) (get_or s k 0) ≡ false) → first_violation (rig_automaton t) (start t) s < length s
        early g = ⊎_elim (λ q. absurd (n ((first_violation_none (rig_automaton t) (start t) s start_live (events_in t r s g)).0 q))) (λ l. l) (eq-or-lt_of_le (first_violation_le (rig_automaton t) (start t) s))

-- ---- Scenarios, where the count is told

-- the scenario of an index
abbrev pub scenario_of : List ℕ → ℕ → ℕ → List ℕ
scenario_of t h = unrank (rig_automaton t) h (start t)

module _ (t : List ℕ) (h : ℕ) (r : Readable t) (c7 : Case7 h → ⊥) (ge : 1 ≤ total t h) (lt : total t h < most) where
  pub scenario_long : (i : ℕ) → i < total t h → length (scenario_of t h i) ≡ h
  unfolding total
  scenario_long i l = (rank_unrank (rig_automaton t) (events_distinct t r) h (start t) i l).0

  module _ (is cells out : List ℕ) (c8 : Case8 t h cells → ⊥) (c12 : Case12 h is out → ⊥) where
    pub scenarios_told : scenarios t h is cells out ≡ unless_at 11 (λ p i. leb (total t h) i) is (served [])
    scenarios_told = scenarios_is t h r c7 is cells out c8 c12 ∙ counted_on t h _ ge lt

    pub scenarios_served : ((i : ℕ) → In i is → i < total t h) → scenarios t h is cells out ≡ served []
    scenarios_served below = scenarios_told ∙ ⊎_elim (λ (q, g). q) (λ (k, l, q, b, g). absurd (over k l b)) (checked_list 11 (λ p i. leb (total t h) i) is (served []))
      where
        over : (k : ℕ) → k < length is → leb (total t h) (get_or is k 0) ≡ true → ⊥
        over k l b = let s : get_or is k 0 < total t h = below (get_or is k 0) (get_or-in is k 0 l) in omega (arith, leb-true (total t h) (get_or is k 0) b)

    pub served_below : Served (scenarios t h is cells out) → (i : ℕ) → In i is → i < total t h
    unfolding Served
    served_below (vs, s) i m = ⊎_elim (λ (q, g). good g (in_place 0 m)) (λ (k, l, q, b, g). let w : served vs ≡ refused 11 k = sym s ∙ scenarios_told ∙ q in let z : ◌≡◌ {A = ℕ} 0 1 = cc in absurd (omega arith)) (checked_list 11 (λ p i. leb (total t h) i) is (served []))
      where
        good : ((k : ℕ) → k < length is → leb (total t h) (get_or is k 0) ≡ false) → (k : ℕ) × (k < length is) × (get_or is k 0 ≡ i) → i < total t h
        good g (k, l, q) = omega (arith, leb-false (total t h) (get_or is k 0) (g k l))

    -- the block of each place is the scenario of the index that stands there
    pub block_written : Served (scenarios t h is cells out) → (n : ℕ) → n < length is → block h n (written t h is cells out) ≡ scenario_of t h (get_or is n 0)
    unfolding block written output_after
    block_written s n l =
        let below = served_below s in
        rw (scenarios_served below) (block_at (scenario_of t h) h is _ (λ i m. scenario_long i (below i m)) n l)

-- ---- the shuffle

valid_from : (n p : ℕ) (ds : List ℕ) → ((i : ℕ) → i < length ds → (p + i ≤ get_or ds i 0) × (get_or ds i 0 < n)) → Valid n p ds
unfolding Valid
valid_from n p [] v = tt
valid_from n p (d ∷ ds) v = (omega (arith, (v 0 (omega arith)).0), (v 0 (omega arith)).1, valid_from n (suc p) ds (λ i l. next i (v (suc i) (omega arith))))
  where
    next : (i : ℕ) → (p + suc i ≤ get_or ds i 0) × (get_or ds i 0 < n) → (suc p + i ≤ get_or ds i 0) × (get_or ds i 0 < n)
    next i (a, b) = (omega arith, b)

pub valid_at : (n p : ℕ) (ds : List ℕ) → Valid n p ds → (k : ℕ) → k < length ds → (p + k ≤ get_or ds k 0) × (get_or ds k 0 < n)
unfolding Valid
valid_at n p [] v k h = absurd (not-suc-le-zero h)
valid_at n p (d ∷ ds) v zero h = (let a = v.0 in omega arith, v.1)
valid_at n p (d ∷ ds) v (suc k) h = let r = valid_at n (suc p) ds v.2 k (omega arith) in (let a = r.0 in omega arith, r.1)

pub valid-draws : (n : ℕ) (ds : List ℕ) → ValidDraws n ds → Valid n 0 ds
unfolding ValidDraws
valid-draws n ds v = valid_from n 0 ds (λ i l. (omega (arith, (v i l).0), (v i l).1))

pub valid_places : (n : ℕ) (ds : List ℕ) → Valid n 0 ds → ValidDraws n ds
unfolding ValidDraws
valid_places n ds v i l = let r = valid_at n 0 ds v i l in (omega arith, r.1)

pub shuffle-served : (n : ℕ) (ds scratch o : List ℕ) → Shufflable n ds scratch o → shuffle n ds scratch o ≡ served []
unfolding shuffle Case8Scratch Case12Draws ValidDraws bad_draw
shuffle-served n ds scratch o s =
    rw (tells_false (tells_lt (length scratch) (2 * length ds)) s.scratch_room, tells_false (tells_lt (length o) (length ds)) s.output_room)
    (⊎_elim (λ (q, g). q) (λ (k, l, q, b, g). absurd (good k (s.valid k l) b)) (checked_list 15 (bad_draw n) ds (served [])))
  where
    good : (k : ℕ) → (k ≤ get_or ds k 0) × (get_or ds k 0 < n) → (ltb (get_or ds k 0) k || leb n (get_or ds k 0)) ≡ true → ⊥
    good k (a, b) q = ⊎_elim (λ h. omega arith) (λ h. omega arith) ((tells_or (tells_lt (get_or ds k 0) k) (tells_le n (get_or ds k 0))).yes q)

pub shuffled-is : (n : ℕ) (ds scratch o : List ℕ) → Served (shuffle n ds scratch o) → take (length ds) (shuffled n ds scratch o) ≡ swapping.shuffle ds
unfolding shuffled output_after Served
shuffled-is n ds scratch o (vs, q) = rw q (take_at (swapping.shuffle ds) _ (length ds) (length-shuffle ds))

pub output-is : (n : ℕ) (ds scratch o : List ℕ) → Shufflable n ds scratch o → output generator n ds scratch o ≡ swapping.shuffle ds
unfolding output generator Served
output-is n ds scratch o s = shuffled-is n ds scratch o ([], shuffle-served n ds scratch o s)

-- ---- Count, where it serves

-- what a served count tells is N and the passes, and N is a number that can be told
pub record Told (t : List ℕ) (h n p : ℕ) : Type 0 where
  pub some : 1 ≤ n
  pub few : n < most
  pub total_is : total t h ≡ n
  pub passes_is : passes (rig_automaton t) ≡ p

pub count-told : (t : List ℕ) (h : ℕ) (cells : List ℕ) (n p : ℕ) → Readable t → (Case7 h → ⊥) → (Case8 t h cells → ⊥) → count t h cells ≡ served (n ∷ p ∷ []) → Told t h n p
count-told t h cells n p r c7 c8 q = go (split 1 (total t h)) (split most (total t h))
  where
    is : count t h cells ≡ total_rows t h
    is = count_is t h r c7 cells c8

    go : (1 ≤ total t h) ⊎ (total t h < 1) → (most ≤ total t h) ⊎ (total t h < most) → Told t h n p
    go (inr z) m = let e : refused 9 0 ≡ served (n ∷ p ∷ []) = sym (counted_none t h _ (omega arith)) ∙ sym is ∙ q in let w : ◌≡◌ {A = ℕ} 0 1 = cc in absurd (omega arith)
    go (inl o) (inl m) = let e : refused 10 0 ≡ served (n ∷ p ∷ []) = sym (counted_most t h _ m) ∙ sym is ∙ q in let w : ◌≡◌ {A = ℕ} 0 1 = cc in absurd (omega arith)
    go (inl o) (inr m) =
        let e : served (total t h ∷ passes (rig_automaton t) ∷ []) ≡ served (n ∷ p ∷ []) = sym (counted_on t h _ o m) ∙ sym is ∙ q in
        let a : total t h ≡ n = cc in
        record { some = rw a at o; few = rw a at m; total_is = a; passes_is = cc }

-- where the same sequences belong, the count is the same
pub same_count : (t u : List ℕ) (h : ℕ) → Readable t → Readable u → ((w : List ℕ) → Belongs t h w ↔ Belongs u h w) → (Case7 h → ⊥)
    → (cells others : List ℕ) → (Case8 t h cells → ⊥) → (Case8 u h others → ⊥) → (n p : ℕ) → count t h cells ≡ served (n ∷ p ∷ [])
    → (q : ℕ) × (count u h others ≡ served (n ∷ q ∷ []))
same_count t u h r s same c7 cells others c8 d8 n p q =
    let k = count-told t h cells n p r c7 c8 q in
    let e : total u h ≡ n = sym (same_total t u h r s same) ∙ k.total_is in
    (passes (rig_automaton u), count_is u h s c7 others d8 ∙ counted_on u h _ (rw e k.some) (rw e k.few) ∙ rw e)
