-- The wrong generators are rejected.
-- Why: on a rig whose count is known the demands fix what is answered and written, and each wrong generator answers or leaves something else.
-- Assumes nothing.
use mathlib.Core.Path.{◌≡◌, refl, sym, ap, ◌∙◌, subst}
use mathlib.Core.Logic.{⊎_elim}
use mathlib.Core.Bool.{Bool}
use mathlib.Core.Option.{some}
use mathlib.Core.List.Memᴰ
use mathlib.Core.List.Memᴰ.{head as here}
use mathlib.Core.List.Memᴰ.{tail as there}
use mathlib.Core.List.{List, [], ◌∷◌, append-nil, Memᴰ as In}
use Prim.Native.Nat.{ℕ, suc, ◌+◌, ◌-◌, ◌*◌, ◌≤◌, ◌<◌}
use native.Mathlib.Omega.{arith}
use lib.ListN.{length, get_or, take, drop, replicate, length-replicate, get_or-replicate}
use lib.Seq.{take_at, drop_at}
use lib.Dec.{leb, eqb}
use Rattle.lists.specs.Lists.{concat_map, range, index_of}
use Rattle.lists.proofs.Tests.{case}
use Rattle.lists.proofs.Tells.{tells_true, tells_lt, tells_le, tells_eq}
use Rattle.lists.proofs.Members.{any_in}
use Rattle.lists.proofs.Tables.{length-range, get_or-range}
use Rattle.lists.proofs.Blocks.{block_at}
use Rattle.automaton.specs.Automaton.{Automaton}
use Rattle.automaton.specs.Pruning.{passes, LastPass}
use Rattle.automaton.specs.Counting.{most}
use Rattle.automaton.specs.Ranking.{unrank}
use Rattle.automaton.specs.Source001.{look, rnd_perm_prefix_from, rnd_perm_prefix}
use Rattle.automaton.proofs.Pruning.{last_pass, last_pass_unique}
use Rattle.promises.specs.Text.{joint_states, Case7, Case8, Case12, Case8Scratch, Case12Draws}
use Rattle.promises.specs.Rig.{rig_automaton, start}
use Rattle.promises.specs.Answer.{served, refused, Served, SaysNone}
use Rattle.promises.specs.Meaning.{Belongs, Earlier, Comes}
use Rattle.promises.specs.Calls.{fills, output_after, total, count, scenarios, written}
use Rattle.promises.specs.Demand3.{Calls, ValidDraws, Shufflable, block, output, Cells, Room, Gives, EachOnce, Whole, Demand}
use Rattle.promises.specs.Demand2.{Traced, Demand2}
use Rattle.promises.specs.Refusals.{Sized}
use Rattle.promises.specs.Generator.{generator}
use Rattle.promises.specs.Examples.{A, B, A_ordered, closes, one_state, full_cell}
use Rattle.promises.specs.Starred.{lent}
use Rattle.promises.specs.Wrong.{copies_index0, untouched_output, fills_first_only, by_number, compares_numbers, refuses_all, drops_endings, none_by_start, admitted, none_before_pruning, eight_of_cells, eight_of_scratch, twelve_of_bytes, twelve_of_numbers, ten_of_any_cell, counts_admitted, passes_as, last_pass_missing, passes_within, prunes_within, forgets_swaps, ignores_draws, PassesTold, Rejected}
use Rattle.promises.proofs.Meaning.{rig-states, rig_start}
use Rattle.promises.proofs.Checks.{check_failed, sized_on, counted_on}
use Rattle.promises.proofs.Answers.{served-none, refused_none, scenario_of, block_written, shuffle-served, count-told}
use Rattle.promises.proofs.Buffers.{refused-serves}
use Rattle.promises.proofs.Demand3.{demand_3}
use Rattle.promises.proofs.Examples.{words}
use Rattle.promises.proofs.Starred.{starred}
use Rattle.promises.proofs.Known.{Known, known, told, count-sized, served-sized, known_A, known_B, known_closes, endless_A, known_ordered, whole, traced, some_total, few_total, scenario_0_long, zeros_served, values, full-total, full-row}

-- ---- what Scenarios writes

copies_rejected : Demand copies_index0 → ⊥
unfolding copies_index0 Gives Cells Room Case12 block output_after Served
copies_rejected d = go (whole A 3 5 (lent 8) known_A copies_index0 d)
  where
    is : List ℕ
    is = 0 ∷ 1 ∷ []

    room : length (lent 6) < length is * 3 → ⊥
    room c = omega arith

    -- every block is the scenario of index 0
    copied : (n : ℕ) → n < length is → Served (scenarios A 3 is (lent 8) (lent 6))
        → block 3 n (output_after (scenarios A 3 is (lent 8) (lent 6)) (concat_map (λ i. scenario_of A 3 0) is) (lent 6)) ≡ scenario_of A 3 0
    copied n l (vs, s) = rw s (block_at (λ i. scenario_of A 3 0) 3 is _ (λ i m. scenario_0_long A 3 5 (lent 8) known_A) n l)

    go : (L : List (List ℕ)) × (length L ≡ 5) × Whole copies_index0 A 3 L → ⊥
    go (L, e, w) =
        let c8 = known_A.fits.room in
        let (u, b, g) = w.gives 0 (omega arith) in
        let (v, c, f) = w.gives 1 (omega arith) in
        let s = w.listed is (lent 8) (lent 6) c8 room below in
        let p : u ≡ scenario_of A 3 0 = sym (g is (lent 8) (lent 6) 0 c8 room (omega arith) refl s) ∙ copied 0 (omega arith) s in
        let q : v ≡ scenario_of A 3 0 = sym (f is (lent 8) (lent 6) 1 c8 room (omega arith) refl s) ∙ copied 1 (omega arith) s in
        let z : ◌≡◌ {A = ℕ} 0 1 = w.by_one u 0 1 (omega arith) (omega arith) g (subst (Gives copies_index0 A 3 1) (q ∙ sym p) f) in
        omega arith
      where
        below : (i : ℕ) → In i is → i < length L
        below i (here q) = omega arith
        below i (there (here q)) = omega arith
        below i (there (there m)) = absurd (Memᴰ.not-nil m)

-- what stood in the output before shows in no block
settled : (C : Calls) → Demand2 C → (is o p : List ℕ) (n : ℕ) → (Case12 3 is o → ⊥) → (Case12 3 is p → ⊥) → n < length is
    → Served (C.scenarios A 3 is (lent 8) o) → Served (C.scenarios A 3 is (lent 8) p)
    → block 3 n (C.written A 3 is (lent 8) o) ≡ block 3 n (C.written A 3 is (lent 8) p)
settled C d is o p n co cp l so sp = go (traced A 3 5 (lent 8) known_A endless_A C d)
  where
    go : (Φ : ℕ → Bool) × Traced C A 3 Φ → block 3 n (C.written A 3 is (lent 8) o) ≡ block 3 n (C.written A 3 is (lent 8) p)
    go (Φ, t) =
        let c8 = known_A.fits.room in
        let q : some (block 3 n (C.written A 3 is (lent 8) o)) ≡ some (block 3 n (C.written A 3 is (lent 8) p)) = sym (t.traced is (lent 8) o c8 co so n l) ∙ t.traced is (lent 8) p c8 cp sp n l in
        cc

untouched_rejected : Demand2 untouched_output → ⊥
unfolding untouched_output Case12 block
untouched_rejected d =
    let q = settled untouched_output d (replicate 1 0) (replicate 3 7) (replicate 3 8) 0 (λ c. omega arith) (λ c. omega arith) (omega arith) (zeros_served A 3 5 (lent 8) known_A 1 (replicate 3 7) (λ c. omega arith)) (zeros_served A 3 5 (lent 8) known_A 1 (replicate 3 8) (λ c. omega arith)) in
    let z : ◌≡◌ {A = ℕ} 7 8 = ap (λ l. get_or l 0 0) q in
    omega arith

first_rejected : Demand2 fills_first_only → ⊥
unfolding fills_first_only Case12 block output_after Served
first_rejected d =
    let s = zeros_served A 3 5 (lent 8) known_A 2 (replicate 6 7) (λ c. omega arith) in
    let t = zeros_served A 3 5 (lent 8) known_A 2 (replicate 6 8) (λ c. omega arith) in
    let q = settled fills_first_only d (replicate 2 0) (replicate 6 7) (replicate 6 8) 1 (λ c. omega arith) (λ c. omega arith) (omega arith) s t in
    let z : ◌≡◌ {A = ℕ} 7 8 = ap (λ l. get_or l 0 0) (sym (second (replicate 6 7) s) ∙ q ∙ second (replicate 6 8) t) in
    omega arith
  where
    -- the second block is as it was
    second : (out : List ℕ) → Served (scenarios A 3 (replicate 2 0) (lent 8) out)
        → block 3 1 (output_after (scenarios A 3 (replicate 2 0) (lent 8) out) (concat_map (scenario_of A 3) (take 1 (replicate 2 0))) out) ≡ take 3 (drop 3 out)
    second out (vs, s) = rw (s, append-nil, scenario_0_long A 3 5 (lent 8) known_A) (ap (take 3) (drop_at (scenario_of A 3 0) (drop 3 out) 3 (scenario_0_long A 3 5 (lent 8) known_A)))

-- with `ord` 1 0, what begins with event 0 does not come first
not_earlier : Comes A_ordered (0 ∷ 0 ∷ 0 ∷ []) (1 ∷ 0 ∷ 1 ∷ []) → ⊥
unfolding Comes Earlier index_of
not_earlier c = ⊎_elim (λ l. omega arith) (λ (q, r). omega arith) (rw values.order_is at c)

compares_rejected : Demand compares_numbers → ⊥
unfolding compares_numbers Gives Cells Room Case12 block output_after Served
compares_rejected d = go (whole A_ordered 3 5 (lent 8) known_ordered compares_numbers d)
  where
    is : List ℕ
    is = 0 ∷ 4 ∷ []

    room : length (lent 6) < length is * 3 → ⊥
    room c = omega arith

    given : Served (scenarios A_ordered 3 is (lent 8) (lent 6))
        → output_after (scenarios A_ordered 3 is (lent 8) (lent 6)) (concat_map (unrank (by_number A_ordered) 3 (start A_ordered)) is) (lent 6) ≡ 0 ∷ 0 ∷ 0 ∷ 1 ∷ 0 ∷ 1 ∷ []
    given (vs, s) = rw (s, values.numbers_0, values.numbers_4)

    go : (L : List (List ℕ)) × (length L ≡ 5) × Whole compares_numbers A_ordered 3 L → ⊥
    go (L, e, w) =
        let c8 = known_ordered.fits.room in
        let (u, b, g) = w.gives 0 (omega arith) in
        let (v, c, f) = w.gives 4 (omega arith) in
        let s = w.listed is (lent 8) (lent 6) c8 room below in
        let p : u ≡ 0 ∷ 0 ∷ 0 ∷ [] = sym (g is (lent 8) (lent 6) 0 c8 room (omega arith) refl s) ∙ ap (λ l. take 3 l) (given s) in
        let q : v ≡ 1 ∷ 0 ∷ 1 ∷ [] = sym (f is (lent 8) (lent 6) 1 c8 room (omega arith) refl s) ∙ ap (λ l. take 3 (drop 3 l)) (given s) in
        not_earlier (rw (p, q) at (w.ordered 0 4 u v (omega arith) (omega arith) g f))
      where
        below : (i : ℕ) → In i is → i < length L
        below i (here q) = omega arith
        below i (there (here q)) = omega arith
        below i (there (there m)) = absurd (Memᴰ.not-nil m)

-- ---- refusals

all_rejected : (n p : ℕ) → Demand (refuses_all n p) → ⊥
unfolding refuses_all Cells
all_rejected n p d = go (whole A 3 5 (lent 8) known_A (refuses_all n p) d)
  where
    go : (L : List (List ℕ)) × (length L ≡ 5) × Whole (refuses_all n p) A 3 L → ⊥
    go (L, e, w) = let (k, q) = w.counted (lent 8) known_A.fits.room in let z : ◌≡◌ {A = ℕ} 0 1 = cc in omega arith

-- nothing belongs to the rig of one state, but before pruning its one state, in set 0, is left
none_rejected : Demand none_before_pruning → ⊥
unfolding none_before_pruning generator Cells SaysNone fills admitted
none_rejected d = says (((d.none one_state 0 s.readable s.horizon).by_count (lent 1) s.room).1 nothing)
  where
    s : Sized one_state 0 (lent 1)
    s = count-sized one_state 0 (lent 1) (rw values.one_state_none)

    nothing : (w : List ℕ) → Belongs one_state 0 w → ⊥
    nothing = ((demand_3.none one_state 0 s.readable s.horizon).by_count (lent 1) s.room).0 (0, values.one_state_none)

    one_admitted : admitted (rig_automaton one_state) 0 (start one_state) ≡ 1
    one_admitted = rw (tells_true (tells_lt (start one_state) (rig_automaton one_state).states) (rig_start one_state s.readable))

    says : SaysNone (none_before_pruning.count one_state 0 (lent 1)) → ⊥
    says n =
        let m = rw (sized_on one_state 0 (lent 1) _ s.readable s.horizon s.room, one_admitted) at n in
        case (leb most (total one_state 0)) (λ q. refused_none 10 0 (omega arith) (rw q at m)) (λ q. served-none _ (rw q at m))

endings_rejected : Demand drops_endings → ⊥
unfolding drops_endings Cells
endings_rejected d = go (whole closes 1 1 (lent 8) known_closes drops_endings d)
  where
    go : (L : List (List ℕ)) × (length L ≡ 1) × Whole drops_endings closes 1 L → ⊥
    go (L, e, w) =
        let (k, q) = w.counted (lent 8) known_closes.fits.room in
        let r : refused 9 0 ≡ served (length L ∷ k ∷ []) = rw (sized_on closes 1 (lent 8) _ known_closes.fits.readable known_closes.fits.horizon known_closes.fits.room, values.unmarked_none) at q in
        let z : ◌≡◌ {A = ℕ} 0 1 = cc in
        omega arith

start_rejected : Demand none_by_start → ⊥
unfolding none_by_start Cells fills
start_rejected d = says (((d.none closes 2 s.readable s.horizon).by_count (lent 8) s.room).1 words.none_closed)
  where
    s : Sized closes 2 (lent 8)
    s = count-sized closes 2 (lent 8) (rw starred.closes_2)

    says : SaysNone (none_by_start.count closes 2 (lent 8)) → ⊥
    says n =
        let m = rw (sized_on closes 2 (lent 8) _ s.readable s.horizon s.room, values.closes_live) at n in
        case (leb most (total closes 2)) (λ q. refused_none 10 0 (omega arith) (rw q at m)) (λ q. served-none _ (rw q at m))

module _ (more : ℕ) where
  cells_rejected : Demand (eight_of_cells more) → ⊥
  unfolding eight_of_cells Cells Case8
  cells_rejected d = go (whole A 3 5 (lent 8) known_A (eight_of_cells more) d)
    where
      enough : List ℕ
      enough = lent ((3 + 1) * joint_states A)

      long : length enough ≡ (3 + 1) * joint_states A
      long = length-replicate {A = ℕ} ((3 + 1) * joint_states A) 7

      go : (L : List (List ℕ)) × (length L ≡ 5) × Whole (eight_of_cells more) A 3 L → ⊥
      go (L, e, w) =
          let (k, q) = w.counted enough (λ c. omega (arith, long)) in
          let r : refused 8 0 ≡ served (length L ∷ k ∷ []) = sym (check_failed 8 0 _ _ (tells_true (tells_le (length enough) ((3 + 1) * joint_states A + more)) (omega (arith, long)))) ∙ q in
          let z : ◌≡◌ {A = ℕ} 0 1 = cc in
          omega arith

  bytes_rejected : Demand (twelve_of_bytes more) → ⊥
  unfolding twelve_of_bytes Cells Room Case12
  bytes_rejected d = go (whole A 3 5 (lent 8) known_A (twelve_of_bytes more) d)
    where
      go : (L : List (List ℕ)) × (length L ≡ 5) × Whole (twelve_of_bytes more) A 3 L → ⊥
      go (L, e, w) =
          let s = w.listed (0 ∷ []) (lent 8) (lent 3) known_A.fits.room (λ c. omega arith) below in
          refused-serves 12 0 (rw (tells_true (tells_le 3 (1 * 3 + more)) (omega arith)) at s)
        where
          below : (i : ℕ) → In i (0 ∷ []) → i < length L
          below i (here q) = omega arith
          below i (there m) = absurd (Memᴰ.not-nil m)

-- ---- the shuffle

-- one draw each time is valid up to its own place
same-valid : (m d n : ℕ) → m ≤ suc d → d < n → Shufflable n (replicate m d) (lent (2 * m)) (lent m)
unfolding ValidDraws Case8Scratch Case12Draws
same-valid m d n le lt = record {
  valid = λ i l. let q = get_or-replicate {A = ℕ} m i d 0 (omega (arith, z)) in (omega (arith, z), omega arith);
  scratch_room = λ c. omega (arith, z, length-replicate {A = ℕ} (2 * m) 7);
  output_room = λ c. omega (arith, z, length-replicate {A = ℕ} m 7);
}
  where
    z : length (replicate m d) ≡ m
    z = length-replicate {A = ℕ} m d

-- draw 4 each time: valid where n is 5
abbrev fours : ℕ → List ℕ
fours m = replicate m 4

-- a full shuffle of A's five indices
record Full (C : Calls) : Type 0 where
  serves : Served (C.shuffle 5 (fours 5) (lent 10) (lent 5))
  differ : (is : List ℕ) → is ≡ output C 5 (fours 5) (lent 10) (lent 5) → Served (C.scenarios A 3 is (lent 8) (lent 15))
      × (block 3 0 (C.written A 3 is (lent 8) (lent 15)) ≡ block 3 1 (C.written A 3 is (lent 8) (lent 15)) → ⊥)

full : (C : Calls) → Demand C → Full C
unfolding Cells Room Case12
full C d = go (whole A 3 5 (lent 8) known_A C d)
  where
    go : (L : List (List ℕ)) × (length L ≡ 5) × Whole C A 3 L → Full C
    go (L, e, w) =
        let (s, f) = w.complete (fours 5) (lent 10) (lent 5) (lent 8) (lent 15) (same-valid 5 4 (length L) (omega arith) (omega arith)) (sym e) known_A.fits.room (λ c. omega arith) in
        record {
          serves = subst (λ n. Served (C.shuffle n (fours 5) (lent 10) (lent 5))) e s;
          differ = λ is q. let (l, r, a, b, c) = subst (λ i. EachOnce C A 3 5 i (lent 8) (lent 15)) (sym q) (rw e at f) in (r, λ same. let z : ◌≡◌ {A = ℕ} 0 1 = c 0 1 (omega arith) (omega arith) same in omega arith);
        }

scratch_rejected : (more : ℕ) → Demand (eight_of_scratch more) → ⊥
unfolding eight_of_scratch
scratch_rejected more d = refused-serves 8 0 (rw (tells_true (tells_le 10 (2 * 5 + more)) (omega arith)) at (full (eight_of_scratch more) d).serves)

numbers_rejected : (more : ℕ) → Demand (twelve_of_numbers more) → ⊥
unfolding twelve_of_numbers
numbers_rejected more d = refused-serves 12 0 (rw (tells_true (tells_le 5 (5 + more)) (omega arith)) at (full (twelve_of_numbers more) d).serves)

-- where swaps are forgotten draws 4 4 .. put out 4 4 ..
forgotten : (m : ℕ) → m ≤ 5 → output forgets_swaps 5 (fours m) (lent (2 * m)) (lent m) ≡ fours m
unfolding output forgets_swaps output_after
forgotten m le = rw (shuffle-served 5 (fours m) (lent (2 * m)) (lent m) (same-valid m 4 5 le (omega arith))) (take_at (fours m) _ (length (fours m)) refl)

swaps_rejected_2 : Demand2 forgets_swaps → ⊥
unfolding look rnd_perm_prefix_from rnd_perm_prefix
swaps_rejected_2 d =
    let (s, q) = d.permuted 5 (fours 3) (lent 6) (lent 3) (same-valid 3 4 5 (omega arith) (omega arith)) in
    let z : ◌≡◌ {A = ℕ} 4 0 = ap (λ l. get_or l 1 0) (sym (forgotten 3 (omega arith)) ∙ q) in
    omega arith

swaps_rejected_3 : Demand forgets_swaps → ⊥
unfolding forgets_swaps Case12
swaps_rejected_3 d =
    let (s, n) = (full forgets_swaps d).differ (fours 5) (sym (forgotten 5 (omega arith))) in
    n (at 0 (omega arith) s ∙ sym (at 1 (omega arith) s))
  where
    at : (n : ℕ) → n < 5 → Served (scenarios A 3 (fours 5) (lent 8) (lent 15)) → block 3 n (written A 3 (fours 5) (lent 8) (lent 15)) ≡ scenario_of A 3 4
    at n l s =
        block_written A 3 known_A.fits.readable known_A.fits.horizon (some_total A 3 5 (lent 8) known_A) (few_total A 3 5 (lent 8) known_A) (fours 5) (lent 8) (lent 15) known_A.fits.room (λ c. omega arith) s n l
        ∙ ap (scenario_of A 3) (get_or-replicate {A = ℕ} 5 n 4 0 l)

-- the draws 0, 1, 2, … are valid
each_once : (t : List ℕ) (h : ℕ) (L : List (List ℕ)) → Whole generator t h L → Whole ignores_draws t h L
unfolding ValidDraws Case8Scratch Case12Draws Cells Room Case12 Gives output generator ignores_draws
each_once t h L w = record {
  counted = w.counted;
  listed = w.listed;
  gives = w.gives;
  given = w.given;
  by_one = w.by_one;
  ordered = w.ordered;
  indexed = w.indexed;
  others = w.others;
  complete = λ ds scratch o cells out v l c8 c12. (
    (w.complete ds scratch o cells out v l c8 c12).0,
    rw (length-range (length ds)) at (w.complete (range (length ds)) scratch o cells out (in_order ds scratch o v l) (length-range (length ds) ∙ l) c8 (rw (length-range (length ds)) c12)).1,
  );
}
  where
    in_order : (ds scratch o : List ℕ) → Shufflable (length L) ds scratch o → length ds ≡ length L → Shufflable (length L) (range (length ds)) scratch o
    in_order ds scratch o v l = let z = length-range (length ds) in record {
      valid = λ i b. let q = get_or-range (length ds) i (omega arith) in (omega arith, omega arith);
      scratch_room = rw z v.scratch_room;
      output_room = rw z v.output_room;
    }

draws_rejected : Demand ignores_draws → ⊥
unfolding output ignores_draws
draws_rejected d =
    let q = (d.fair 2).by_one (0 ∷ []) (1 ∷ []) (lent 2) (lent 2) (lent 1) (lent 1) (same-valid 1 0 2 (omega arith) (omega arith)) (same-valid 1 1 2 (omega arith) (omega arith)) refl in
    let z : ◌≡◌ {A = ℕ} 0 1 = ap (λ l. get_or l 0 0) q in
    omega arith

-- ---- counts

admitted-told : counts_admitted.count B 1 (lent 8) ≡ served (2 ∷ 3 ∷ [])
unfolding counts_admitted most
admitted-told =
    sized_on B 1 (lent 8) _ known_B.fits.readable known_B.fits.horizon known_B.fits.room
    ∙ rw (values.B_admitted, (told B 1 (lent 8) 1 3 starred.b_1).passes_is)

admitted_rejected : Demand counts_admitted → ⊥
unfolding Cells
admitted_rejected d = go (whole B 1 1 (lent 8) known_B counts_admitted d)
  where
    go : (L : List (List ℕ)) × (length L ≡ 1) × Whole counts_admitted B 1 L → ⊥
    go (L, e, w) =
        let (k, q) = w.counted (lent 8) known_B.fits.room in
        let r : served (2 ∷ 3 ∷ []) ≡ served (length L ∷ k ∷ []) = sym admitted-told ∙ q in
        let z : ◌≡◌ {A = ℕ} 2 (length L) = cc in
        omega arith

ten_rejected : Demand ten_of_any_cell → ⊥
unfolding ten_of_any_cell Cells Case7 Case8
ten_rejected d = go (whole full_cell 64 1 (lent 130) known_full ten_of_any_cell d)
  where
    room : length (lent 130) < (64 + 1) * joint_states full_cell → ⊥
    room c = let q : joint_states full_cell ≡ 2 = sym (rig-states full_cell) ∙ values.full_states in omega arith

    known_full : Known full_cell 64 1 (lent 130)
    known_full = record {
      fits = record { readable = (served-sized full_cell 0 (lent 2) values.full_served).readable; horizon = λ c. omega arith; room = room };
      some = omega arith;
      few = omega (arith, known_A.few);
      total_is = full-total 64;
    }

    go : (L : List (List ℕ)) × (length L ≡ 1) × Whole ten_of_any_cell full_cell 64 L → ⊥
    go (L, e, w) =
        let (k, q) = w.counted (lent 130) room in
        let r : refused 10 0 ≡ served (length L ∷ k ∷ []) = rw (sized_on full_cell 64 (lent 130) _ known_full.fits.readable known_full.fits.horizon room, any_in (eqb most) full-row (tells_true (tells_eq most most) refl)) at q in
        let z : ◌≡◌ {A = ℕ} 0 1 = cc in
        omega arith

-- ---- passes

passes_only : (M : Automaton) (n : ℕ) → LastPass M n → n ≡ passes M
passes_only M n l = last_pass_unique M n (passes M) l (last_pass M)

passes-of-generator : PassesTold generator
unfolding PassesTold generator
passes-of-generator t h cells n p q s = subst (LastPass (rig_automaton t)) (count-told t h cells n p s.readable s.horizon s.room q).passes_is (last_pass (rig_automaton t))

-- whoever tells other passes tells those of the sets after all
passes_rejected : (f : Automaton → ℕ) → PassesTold (passes_as f) → (t : List ℕ) (h : ℕ) (cells : List ℕ) (n p : ℕ) → count t h cells ≡ served (n ∷ p ∷ []) → f (rig_automaton t) ≡ p
unfolding PassesTold
passes_rejected f d t h cells n p q =
    let k = known t h cells n p q in
    let s = k.fits in
    let l = d t h cells n (f (rig_automaton t)) (sized_on t h cells _ s.readable s.horizon s.room ∙ counted_on t h _ (some_total t h n cells k) (few_total t h n cells k) ∙ ap (λ m. served (m ∷ f (rig_automaton t) ∷ [])) k.total_is) s in
    passes_only (rig_automaton t) (f (rig_automaton t)) l ∙ (told t h cells n p q).passes_is

pub rejected : Rejected
unfolding last_pass_missing prunes_within
rejected = record {
  copies_index_0 = copies_rejected;
  untouched_output_lem = untouched_rejected;
  fills_first_only_lem = first_rejected;
  compares_numbers_lem = compares_rejected;
  refuses_all_lem = all_rejected;
  none_before_pruning_lem = none_rejected;
  drops_endings_lem = endings_rejected;
  none_by_start_lem = start_rejected;
  eight_of_cells_lem = cells_rejected;
  eight_of_scratch_lem = scratch_rejected;
  twelve_of_bytes_lem = bytes_rejected;
  twelve_of_numbers_lem = numbers_rejected;
  passes_unique = passes_only;
  passes_told = passes-of-generator;
  last_pass_missing_lem = λ d.
      let q : passes (rig_automaton A) - 1 ≡ 1 = passes_rejected (λ M. passes M - 1) d A 3 (lent 8) 5 1 starred.a_3 in
      omega (arith, (told A 3 (lent 8) 5 1 starred.a_3).passes_is);
  would_give_2 = admitted-told;
  counts_admitted_lem = admitted_rejected;
  ten_of_any_cell_lem = ten_rejected;
  forgets_swaps_2 = swaps_rejected_2;
  forgets_swaps_3 = swaps_rejected_3;
  each_once = each_once;
  ignores_draws_lem = draws_rejected;
  prunes_within_lem = λ d.
      let q : passes_within (rig_automaton B) ≡ 3 = passes_rejected passes_within d B 1 (lent 8) 1 3 starred.b_1 in
      omega (arith, values.B_within);
}
