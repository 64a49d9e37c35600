-- A batch of scenarios, from its first event to its last, and batches one after the other. Assumes nothing.
use mathlib.Core.Path.{◌≡◌, refl, sym, ap, ◌∙◌}
use mathlib.Core.List.{List, [], ◌++◌, append-nil, append_assoc}
use Prim.Native.Nat.{ℕ, ◌+◌, ◌-◌, ◌*◌, ◌≤◌, ◌<◌}
use native.Mathlib.Omega.{arith}
use native.Mathlib.Nat.{add-mul, mul-le-mul_right}
use lib.ListN.{length, get_or, take, drop, length-take, length-drop, take-append-drop, drop_of_length-le}
use lib.Seq.{take-add, take_at, drop_at, drop-drop, ext_get_or, get_or-take, get_or-drop}
use Rattle.lists.specs.Lists.{concat_map}
use Rattle.lists.proofs.Blocks.{concat_map-append, blocks_are}
use Rattle.automaton.specs.Automaton.{Automaton}
use Rattle.automaton.specs.Counting.{N, most}
use Rattle.automaton.specs.Ranking.{unrank}
use Rattle.ranking.specs.Ranks.{IndicesBelow, with_scenarios}
use Rattle.ranking.proofs.Walk.{length-unrank, length_concat_map_sized}
use Rattle.keeping.specs.Keeping.{Past}
use Rattle.batches.specs.declared.Standing.{Standing}
use Rattle.batches.specs.Batches.{AllBegun, StatesBelow, Copied}
use Rattle.keeping.proofs.Places.{place_below}

-- each state is x at first
pub states_first : (p x : ℕ) (is : List ℕ) (standings : List Standing) → length standings ≡ length is → x < p → Copied x is standings → StatesBelow p standings
unfolding StatesBelow Copied
states_first p x is standings long lt copied k l = let at = copied k (omega arith) in rw at lt

module _ (A : Automaton) (x h : ℕ) (is : List ℕ) (below : IndicesBelow (N A h x) is) where
  -- nothing is written, and each scenario is left whole
  pub begun_none : (standings : List Standing) (out : List ℕ) → N A h x < most → Copied x is standings → AllBegun A x h is (h - h) h standings out
  unfolding AllBegun Copied IndicesBelow
  begun_none standings out few copied k lt =
      let z : h - h ≡ 0 = omega arith in
      rw (copied k lt, z) (record { not_cut_off = few; is_below = below k lt; written = λ j l. absurd (omega arith); rest = refl })

  -- each scenario is written whole, in its own h bytes
  module _ (standings : List Standing) (out after : List ℕ) (all : AllBegun A x h is (h - 0) 0 standings after) (past : Past (length is * h) out after)
      (long : length after ≡ length out) (fits : length is * h ≤ length out) where
    block : (k : ℕ) → k < length is → take h (drop (k * h) after) ≡ unrank A h x (get_or is k 0)
    unfolding AllBegun IndicesBelow
    block k lt =
        let own = place_below k (length is) h lt in
        let n : length (take h (drop (k * h) after)) ≡ h = simp (length-take, length-drop) (omega arith) in
        ext_get_or 0 (take h (drop (k * h) after)) (unrank A h x (get_or is k 0)) (n ∙ sym (length-unrank A h x (get_or is k 0) (below k lt)))
        (λ j l. get_or-take h (drop (k * h) after) j 0 (omega arith) ∙ get_or-drop (k * h) after j 0 ∙ (all k lt).written j (omega arith))

    pub all_written : after ≡ with_scenarios A h x is out
    unfolding with_scenarios Past
    all_written =
        sym (take-append-drop (length is * h) after)
        ∙ ap (λ (l : List ℕ). l ++ drop (length is * h) after) (blocks_are (unrank A h x) h is after block)
        ∙ ap (λ (l : List ℕ). concat_map (unrank A h x) is ++ l) (ext_get_or 0 (drop (length is * h) after) (drop (length is * h) out) (rw (length-drop (length is * h) after, length-drop (length is * h) out, long))
        (λ j l. get_or-drop (length is * h) after j 0 ∙ past (length is * h + j) (omega arith) ∙ sym (get_or-drop (length is * h) out j 0)))

-- ---- batches one after the other

pub part_times : (n to h : ℕ) → n ≤ to → (to - n) * h ≡ to * h - n * h
part_times n to h le = let e : n + (to - n) ≡ to = omega arith in omega (arith, add-mul n (to - n) h, ap (λ (k : ℕ). k * h) e)

module _ (A : Automaton) (x h : ℕ) (is : List ℕ) (below : IndicesBelow (N A h x) is) where
  part_below : (n m : ℕ) → n + m ≤ length is → IndicesBelow (N A h x) (take m (drop n is))
  unfolding IndicesBelow
  part_below n m le k lt =
      let few : length (take m (drop n is)) ≡ m = simp (length-take, length-drop) (omega arith) in
      rw (get_or-take m (drop n is) k 0 (omega arith), get_or-drop n is k 0) (below (n + k) (omega arith))

  -- the indices n up to `to` are a batch: its indices are below the count too
  module _ (n to : ℕ) (le : n ≤ to) (within : to ≤ length is) where
    abbrev part : List ℕ
    part = take (to - n) (drop n is)

    pub batch_below : IndicesBelow (N A h x) part
    batch_below = part_below n (to - n) (omega arith)

    part_long : length part ≡ to - n
    part_long = simp (length-take, length-drop) (omega arith)

    written_long : (l : List ℕ) → IndicesBelow (N A h x) l → length (concat_map (unrank A h x) l) ≡ length l * h
    unfolding IndicesBelow
    written_long l b = length_concat_map_sized (unrank A h x) h l (λ k lt. length-unrank A h x (get_or l k 0) (b k lt))

    -- its scenarios follow those before it
    pub batch_more : (d out last : List ℕ) → to * h ≤ length d → out ≡ concat_map (unrank A h x) (take n is) ++ drop (n * h) d
        → last ≡ with_scenarios A h x part (take (to * h - n * h) (drop (n * h) out))
        → take (n * h) out ++ (last ++ drop (to * h - n * h) (drop (n * h) out)) ≡ concat_map (unrank A h x) (take to is) ++ drop (to * h) d
    unfolding with_scenarios
    batch_more d out last room now back =
        let f = unrank A h x in
        let few : length (take n is) ≡ n = simp length-take (omega arith) in
        let len : length (concat_map f (take n is)) ≡ n * h = written_long (take n is) (part_below 0 n (omega arith)) ∙ ap (λ (k : ℕ). k * h) few in
        let w : take (n * h) out ≡ concat_map f (take n is) = ap (take (n * h)) now ∙ take_at (concat_map f (take n is)) (drop (n * h) d) (n * h) len in
        let r : drop (n * h) out ≡ drop (n * h) d = ap (drop (n * h)) now ∙ drop_at (concat_map f (take n is)) (drop (n * h) d) (n * h) len in
        let order : n * h ≤ to * h = mul-le-mul_right h le in
        let sub = part_times n to h le in
        let none : drop (length part * h) (take (to * h - n * h) (drop (n * h) out)) ≡ [] =
        drop_of_length-le (take (to * h - n * h) (drop (n * h) out)) {i = length part * h} (rw (part_long, sub, length-take) (omega arith)) in
        let past : n * h + (to * h - n * h) ≡ to * h = omega arith in
        let tail : drop (to * h - n * h) (drop (n * h) out) ≡ drop (to * h) d = ap (drop (to * h - n * h)) r ∙ drop-drop (to * h - n * h) (n * h) d ∙ ap (λ (k : ℕ). drop k d) past in
        let all : concat_map f (take to is) ≡ concat_map f (take n is) ++ concat_map f part =
        ap (λ (k : ℕ). concat_map f (take k is)) (sym split_to) ∙ ap (concat_map f) (take-add n (to - n) is) ∙ concat_map-append f (take n is) part in
        rw (back, none, append-nil, tail, w, all) (sym (append_assoc (concat_map f (take n is)) (concat_map f part) (drop (to * h) d)))
      where
        split_to : n + (to - n) ≡ to
        split_to = omega arith
