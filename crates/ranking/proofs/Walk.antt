-- A list of indices: its check, its size, and its scenarios written one after the other. Why: a scenario has h events, so those before number n
-- end at n × h, where the part that is lent for it begins. Assumes nothing.
use mathlib.Core.Path.{◌≡◌, refl, sym, ap, ◌∙◌}
use mathlib.Core.Bool.{Bool, true, false}
use mathlib.Core.List.{List, [], ◌∷◌, ◌++◌, append_assoc}
use Prim.Native.Nat.{ℕ, zero, suc, ◌+◌, ◌-◌, ◌*◌, ◌≤◌, ◌<◌}
use native.Mathlib.Omega.{arith}
use native.Mathlib.Numerals.{add-one}
use native.Mathlib.Nat.{suc-mul, zero-mul}
use lib.ListN.{length, get_or, take, drop, length-append, length-take, length-drop}
use lib.Seq.{take_at, drop_at, take-suc, drop-drop, take-length}
use lib.Dec.{leb}
use borrow.Author.Tests.{leb-false}
use Rattle.lists.specs.Lists.{concat_map}
use Rattle.lists.proofs.Blocks.{concat_map_snoc}
use Rattle.lists.proofs.Members.{get_or-in}
use Rattle.automaton.specs.Automaton.{Automaton}
use Rattle.automaton.specs.Counting.{N, scenarios}
use Rattle.automaton.specs.Ranking.{unrank}
use Rattle.automaton.proofs.Counting.{scenarios_length, scenarios_sound}
use Rattle.automaton.proofs.Ranking.{unrank_at}
use Rattle.promises.specs.Calls.{not_below, first_bad, first_bad_from}
use Rattle.std.specs.Prelude.{None}
use Rattle.std.proofs.lemmas.Grind.{common_steps}
use Rattle.refusal.specs.Places.{place_in}
use Rattle.ranking.specs.Ranks.{IndicesBelow}

-- ---- the check of a list

all-below : (n p : ℕ) (l : List ℕ) → p + length l ≤ first_bad_from (not_below n) p l → (k : ℕ) → k < length l → get_or l k 0 < n
unfolding first_bad_from
all-below n p [] h k lt = absurd (omega arith)
all-below n p (i ∷ l) h k lt = go (leb n i) refl (all-below n (suc p) l) k lt
  where
    go : (b : Bool) → leb n i ≡ b → (suc p + length l ≤ first_bad_from (not_below n) (suc p) l → (k : ℕ) → k < length l → get_or l k 0 < n) → (k : ℕ) → k < suc (length l) → get_or (i ∷ l) k 0 < n
    go true e ih k lt = let z : p + suc (length l) ≤ p = rw e at h in absurd (omega arith)
    go false e ih zero lt = leb-false n i e
    go false e ih (suc k) lt = let z : p + suc (length l) ≤ first_bad_from (not_below n) (suc p) l = rw e at h in ih (omega arith) k (omega arith)

-- where no place is told, every index is below
pub good_all : (n : ℕ) (l : List ℕ) → length l ≤ first_bad (not_below n) l → IndicesBelow n l
unfolding first_bad IndicesBelow
good_all n l h = all-below n 0 l (omega arith)

-- and so is it where none is found
pub all_good : (n : ℕ) (l : List ℕ) → None ≡ place_in (length l) (first_bad (not_below n) l) → IndicesBelow n l
all_good n l h = let le : length l ≤ first_bad (not_below n) l = grind (arith, common_steps) in good_all n l le

-- ---- its scenarios

pub length-unrank : (A : Automaton) (r x i : ℕ) → i < N A r x → length (unrank A r x i) ≡ r
length-unrank A r x i h =
    ap length (unrank_at A r x i h) ∙ (scenarios_sound A r x (get_or (scenarios A r x) i []) (get_or-in (scenarios A r x) i [] (omega (arith, scenarios_length A r x)))).0

module _ (f : ℕ → List ℕ) (h : ℕ) (is : List ℕ) (sized : (k : ℕ) → k < length is → length (f (get_or is k 0)) ≡ h) where
  concat_map_suc : (n : ℕ) → n < length is → concat_map f (take (suc n) is) ≡ concat_map f (take n is) ++ f (get_or is n 0)
  concat_map_suc n lt = ap (concat_map f) (take-suc is n 0 lt) ∙ concat_map_snoc f (take n is) (get_or is n 0)

  length_concat_map_take : (n : ℕ) → n ≤ length is → length (concat_map f (take n is)) ≡ n * h
  length_concat_map_take zero le = sym (zero-mul h)
  length_concat_map_take (suc n) le =
      ap length (concat_map_suc n le) ∙ rw (length-append, length_concat_map_take n (omega arith), sized n le, suc-mul)

  pub length_concat_map_sized : length (concat_map f is) ≡ length is * h
  length_concat_map_sized = ap (λ (l : List ℕ). length (concat_map f l)) (sym (take-length is)) ∙ length_concat_map_take (length is) (omega arith)

  -- the h bytes from n × h were lent, and are the scenario of index n now
  pub walk_step : (d out : List ℕ) (n : ℕ) (last : List ℕ) → n < length is → out ≡ concat_map f (take n is) ++ drop (n * h) d → last ≡ f (get_or is n 0)
      → take (n * h) out ++ (last ++ drop (n * h + h - n * h) (drop (n * h) out)) ≡ concat_map f (take (n + 1) is) ++ drop ((n + 1) * h) d
  walk_step d out n last lt now back =
      let len : length (concat_map f (take n is)) ≡ n * h = length_concat_map_take n (omega arith) in
      let w : take (n * h) out ≡ concat_map f (take n is) = ap (take (n * h)) now ∙ take_at (concat_map f (take n is)) (drop (n * h) d) (n * h) len in
      let r : drop (n * h) out ≡ drop (n * h) d = ap (drop (n * h)) now ∙ drop_at (concat_map f (take n is)) (drop (n * h) d) (n * h) len in
      let one : n * h + h - n * h ≡ h = omega arith in
      rw (back, r, one, drop-drop h (n * h) d, w, add-one n, suc-mul n h, concat_map_suc n lt) (sym (append_assoc (concat_map f (take n is)) (f (get_or is n 0)) (drop (n * h + h) d)))

-- the part of h bytes from n × h on
pub length_part : (out : List ℕ) (a h : ℕ) → a + h ≤ length out → length (take (a + h - a) (drop a out)) ≡ h
length_part out a h le = simp (length-take, length-drop) (omega arith)

-- and the part from a up to b
pub length_between : (out : List ℕ) (a b : ℕ) → b ≤ length out → length (take (b - a) (drop a out)) ≡ b - a
length_between out a b le = simp (length-take, length-drop) (omega arith)
