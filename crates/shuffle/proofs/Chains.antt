-- The chains of steps. The last step that passes a test is found among those that pass a coarser one, so it is enough to walk the chain of
-- the draw's own bucket; a chain grows at its head, so what it links is not touched again. Assumes nothing.
use Rattle.std.proofs.Common.{◌≡◌, ℕ, zero, suc, ◌+◌, ◌-◌, ◌*◌, ◌<◌, ◌≤◌, Bool, true, false, eqb, leb, ◌≢◌, ◌⊎◌, List, ◌++◌, length, get_or, drop, set, sym, refl, ap, ◌∙◌, inl, inr, le_of_suc-le-suc, not-suc-le-zero, eq-or-lt_of_le, add-one, arith, length-append, length-set, get_or-set_other, get_or-set_same, get_or-append-add, drop-set-lt, eq-eqb, ne_eqb, eqb-true, le-leb, leb-true}
use Rattle.std.proofs.lemmas.List.{set-append_left, set-append_right}
use lib.ListN.{get_or-append}
use lib.Seq.{drop-append-add}
use borrow.Author.Tests.{lt-leb}
use Rattle.lists.specs.Lists.{pick}
use Rattle.lists.proofs.Tests.{case, contra, and_left, and_right, and_intro}
use Rattle.automaton.specs.Shuffle.{Valid}
use Rattle.promises.proofs.Answers.{valid_at}
use Rattle.shuffle.specs.Buckets.{bucket_of}
use Rattle.shuffle.specs.Places.{latest_step, in_bucket, chained, Linked, Prepared, Kept}
use Rattle.shuffle.proofs.Mixing.{bucket_below}
use Rattle.shuffle.proofs.Draws.{valid-few}

-- ---- the last step that passes a test

pub latest_step_le : (f : ℕ → Bool) (ds : List ℕ) (i : ℕ) → latest_step f ds i ≤ i
unfolding latest_step
latest_step_le f ds zero = omega arith
latest_step_le f ds (suc i) = let h = latest_step_le f ds i in case (f (get_or ds i 0)) (λ t. rw t (omega arith)) (λ t. rw t (omega arith))

pub latest_step_yes : (f : ℕ → Bool) (ds : List ℕ) (i : ℕ) → f (get_or ds i 0) ≡ true → latest_step f ds (suc i) ≡ suc i
unfolding latest_step
latest_step_yes f ds i t = rw t

pub latest_step_no : (f : ℕ → Bool) (ds : List ℕ) (i : ℕ) → f (get_or ds i 0) ≡ false → latest_step f ds (suc i) ≡ latest_step f ds i
unfolding latest_step
latest_step_no f ds i t = rw t

-- among the steps that pass a coarser test
pub latest_step_among : (f g : ℕ → Bool) → ((d : ℕ) → f d ≡ true → g d ≡ true) → (ds : List ℕ) (i : ℕ) → latest_step f ds i ≡ latest_step f ds (latest_step g ds i)
unfolding latest_step
latest_step_among f g h ds zero = refl
latest_step_among f g h ds (suc i) = go (f (get_or ds i 0)) (g (get_or ds i 0)) refl refl (latest_step_among f g h ds i)
  where
    go : (a b : Bool) → f (get_or ds i 0) ≡ a → g (get_or ds i 0) ≡ b → latest_step f ds i ≡ latest_step f ds (latest_step g ds i)
        → pick a (suc i) (latest_step f ds i) ≡ latest_step f ds (pick b (suc i) (latest_step g ds i))
    go a true p q ih = rw p
    go true false p q ih = contra (h (get_or ds i 0) p) q
    go false false p q ih = ih

-- a step that is the last one to pass does pass
pub latest_step-passes : (f : ℕ → Bool) (ds : List ℕ) (i : ℕ) → latest_step f ds (suc i) ≡ suc i → f (get_or ds i 0) ≡ true
latest_step-passes f ds i q = case (f (get_or ds i 0)) (λ t. t) (λ t. let h = latest_step_le f ds i in let e = latest_step_no f ds i t in absurd (omega arith))

-- ---- walking a chain

-- the walk for draw i has come to s: the step s - 1 is on the chain, and none from s on before i has the same draw
pub record Walked (m : ℕ) (ds : List ℕ) (i s : ℕ) : Type 0 where
  pub early : s ≤ i
  pub same : latest_step (eqb (get_or ds i 0)) ds i ≡ latest_step (eqb (get_or ds i 0)) ds s
  pub on : latest_step (in_bucket m (bucket_of m (get_or ds i 0))) ds s ≡ s

module _ (m : ℕ) (ds : List ℕ) (i : ℕ) (far : m ≤ get_or ds i 0) where
  same_in_bucket : (x : ℕ) → eqb (get_or ds i 0) x ≡ true → in_bucket m (bucket_of m (get_or ds i 0)) x ≡ true
  unfolding in_bucket
  same_in_bucket x t =
      let e : get_or ds i 0 ≡ x = eqb-true (get_or ds i 0) x t in
      rw (← e) (and_intro (le-leb m (get_or ds i 0) far) (eq-eqb (bucket_of m (get_or ds i 0)) (bucket_of m (get_or ds i 0)) refl))

  -- the last step before j that is on the chain
  walk_to : (j s : ℕ) → j ≤ i → latest_step (eqb (get_or ds i 0)) ds i ≡ latest_step (eqb (get_or ds i 0)) ds j → s ≡ latest_step (in_bucket m (bucket_of m (get_or ds i 0))) ds j → Walked m ds i s
  walk_to j s h p e =
      let l = latest_step_le (in_bucket m (bucket_of m (get_or ds i 0))) ds j in
      record {
        early = omega arith;
        same = rw e (p ∙ latest_step_among (eqb (get_or ds i 0)) (in_bucket m (bucket_of m (get_or ds i 0))) same_in_bucket ds j);
        on = rw e (sym (latest_step_among (in_bucket m (bucket_of m (get_or ds i 0))) (in_bucket m (bucket_of m (get_or ds i 0))) (λ x t. t) ds j));
      }

  -- a step on the chain has a draw from m on, in the same bucket
  on_chain : (t : ℕ) → latest_step (in_bucket m (bucket_of m (get_or ds i 0))) ds (suc t) ≡ suc t → (m ≤ get_or ds t 0) × (bucket_of m (get_or ds t 0) ≡ bucket_of m (get_or ds i 0))
  unfolding in_bucket
  on_chain t q =
      let p = latest_step-passes (in_bucket m (bucket_of m (get_or ds i 0))) ds t q in
      let x = leb m (get_or ds t 0) in
      let y = eqb (bucket_of m (get_or ds t 0)) (bucket_of m (get_or ds i 0)) in
      (leb-true m (get_or ds t 0) (and_left x y p), eqb-true (bucket_of m (get_or ds t 0)) (bucket_of m (get_or ds i 0)) (and_right x y p))

  module _ (s : List ℕ) (linked : Linked m ds s) (h : i < length ds) where
    pub walk_begins : Walked m ds i (get_or s (m + i) 0)
    walk_begins = walk_to i (get_or s (m + i) 0) (omega arith) refl (linked.link i h far)

    pub walk_goes_on : (t : ℕ) → Walked m ds i t → 0 < t → (get_or ds (t - 1) 0 ≡ get_or ds i 0 → ⊥) → (get_or s (m + (t - 1)) 0 < t) × Walked m ds i (get_or s (m + (t - 1)) 0)
    walk_goes_on zero w k n = absurd (not-suc-le-zero k)
    walk_goes_on (suc t) w k n =
        let p : suc t - 1 ≡ t = omega arith in
        let c = on_chain t w.on in
        let l = w.early in
        let e : get_or s (m + t) 0 ≡ latest_step (in_bucket m (bucket_of m (get_or ds i 0))) ds t = rw c.1 at (linked.link t (omega arith) c.0) in
        let b = latest_step_le (in_bucket m (bucket_of m (get_or ds i 0))) ds t in
        let no = latest_step_no (eqb (get_or ds i 0)) ds t (ne_eqb (get_or ds i 0) (get_or ds t 0) (λ x. n (rw p (sym x)))) in
        rw p (omega arith, walk_to t (get_or s (m + t) 0) (omega arith) (w.same ∙ no) e)

pub walk_finds : (m : ℕ) (ds : List ℕ) (i s : ℕ) → Walked m ds i s → 0 < s → get_or ds (s - 1) 0 ≡ get_or ds i 0 → s ≡ latest_step (eqb (get_or ds i 0)) ds i
walk_finds m ds i zero w h q = absurd (not-suc-le-zero h)
walk_finds m ds i (suc t) w h q =
    let p : suc t - 1 ≡ t = omega arith in
    sym (w.same ∙ latest_step_yes (eqb (get_or ds i 0)) ds t (eq-eqb (get_or ds i 0) (get_or ds t 0) (sym (rw p at q))))

pub walk_ends : (m : ℕ) (ds : List ℕ) (i s : ℕ) → Walked m ds i s → s ≡ 0 → 0 ≡ latest_step (eqb (get_or ds i 0)) ds i
unfolding latest_step
walk_ends m ds i s w e = sym (w.same ∙ ap (latest_step (eqb (get_or ds i 0)) ds) e)

-- ---- building the chains

-- the heads and the links after the first i steps
pub record Chains (ds : List ℕ) (i : ℕ) (s : List ℕ) : Type 0 where
  pub heads : (b : ℕ) → b < length ds → get_or s b 0 ≡ latest_step (in_bucket (length ds) b) ds i
  pub links : (j : ℕ) → j < i → length ds ≤ get_or ds j 0 → get_or s (length ds + j) 0 ≡ latest_step (in_bucket (length ds) (bucket_of (length ds) (get_or ds j 0))) ds j

pub chains_first : (ds a b : List ℕ) → length a ≡ length ds → ((k : ℕ) → k < length a → get_or a k 0 ≡ 0) → Chains ds 0 (a ++ b)
unfolding latest_step
chains_first ds a b q none =
    record {
      heads = λ k h. get_or-append a b 0 k (omega arith) ∙ none k (omega arith);
      links = λ j h k. absurd (not-suc-le-zero h);
    }

length-chained : (z i d : ℕ) (s : List ℕ) → length (chained z i d s) ≡ length s
unfolding chained
length-chained z i d s = case (leb z d) (λ t. rw (t, length-set, length-set)) (λ t. rw t)

drop-chained : (z i d : ℕ) (s : List ℕ) → i < z → drop (2 * z) (chained z i d s) ≡ drop (2 * z) s
unfolding chained
drop-chained z i d s h =
    let b = bucket_below z d (omega arith) in
    case (leb z d)
    (λ t. rw t (drop-set-lt (2 * z) (set s (z + i) (get_or s (bucket_of z d) 0)) (bucket_of z d) (i + 1) (omega arith) ∙ drop-set-lt (2 * z) s (z + i) (get_or s (bucket_of z d) 0) (omega arith)))
    (λ t. rw t)

-- the heads and the links are written apart
pub chained_parts : (a b : List ℕ) (i d k : ℕ) → length a ≤ d → k ≡ bucket_of (length a) d → k < length a → set a k (i + 1) ++ set b i (get_or a k 0) ≡ chained (length a) i d (a ++ b)
unfolding chained
chained_parts a b i d k h q l =
    let e : length a + i - length a ≡ i = omega arith in
    rw (le-leb (length a) d h, ← q, get_or-append a b 0 k l, set-append_right a b (length a) (length a + i) (get_or a k 0) refl (omega arith), e, set-append_left a (set b i (get_or a k 0)) k (i + 1) l)

pub chained_near : (z i d : ℕ) (s : List ℕ) → d < z → chained z i d s ≡ s
unfolding chained
chained_near z i d s a = rw (lt-leb z d a)

-- what stands at k after a step was chained: the head of its bucket, its link, and everything else as before
module _ (z i d : ℕ) (s : List ℕ) (h : i < z) (l : 2 * z ≤ length s) where
  chained_head : z ≤ d → get_or (chained z i d s) (bucket_of z d) 0 ≡ i + 1
  unfolding chained
  chained_head a =
      let b = bucket_below z d (omega arith) in
      rw (le-leb z d a) (get_or-set_same (set s (z + i) (get_or s (bucket_of z d) 0)) (bucket_of z d) (i + 1) 0 (rw length-set (omega arith)))

  chained_link : z ≤ d → get_or (chained z i d s) (z + i) 0 ≡ get_or s (bucket_of z d) 0
  unfolding chained
  chained_link a =
      let b = bucket_below z d (omega arith) in
      rw (le-leb z d a) (get_or-set_other (set s (z + i) (get_or s (bucket_of z d) 0)) (bucket_of z d) (z + i) (i + 1) 0 (λ e. omega arith)
      ∙ get_or-set_same s (z + i) (get_or s (bucket_of z d) 0) 0 (omega arith))

  chained_other : (k : ℕ) → (z ≤ d → k ≢ bucket_of z d) → k ≢ z + i → get_or (chained z i d s) k 0 ≡ get_or s k 0
  unfolding chained
  chained_other k p q =
      case (leb z d)
      (λ t. rw t (get_or-set_other (set s (z + i) (get_or s (bucket_of z d) 0)) (bucket_of z d) k (i + 1) 0 (p (leb-true z d t)) ∙ get_or-set_other s (z + i) k (get_or s (bucket_of z d) 0) 0 q))
      (λ t. rw t)

in_bucket_yes : (m d : ℕ) → m ≤ d → in_bucket m (bucket_of m d) d ≡ true
unfolding in_bucket
in_bucket_yes m d h = and_intro (le-leb m d h) (eq-eqb (bucket_of m d) (bucket_of m d) refl)

-- one step more
module _ (z : ℕ) (ds s : List ℕ) (i : ℕ) (h : i < z) (l : 2 * z ≤ length s) (heads : (b : ℕ) → b < z → get_or s b 0 ≡ latest_step (in_bucket z b) ds i) where
  heads_more : (b : ℕ) → b < z → get_or (chained z i (get_or ds i 0) s) b 0 ≡ latest_step (in_bucket z b) ds (suc i)
  unfolding in_bucket
  heads_more b k = case (in_bucket z b (get_or ds i 0)) yes_in_bucket no_in_bucket
    where
      yes_in_bucket : in_bucket z b (get_or ds i 0) ≡ true → get_or (chained z i (get_or ds i 0) s) b 0 ≡ latest_step (in_bucket z b) ds (suc i)
      yes_in_bucket t =
          let far : z ≤ get_or ds i 0 = leb-true z (get_or ds i 0) (and_left (leb z (get_or ds i 0)) (eqb (bucket_of z (get_or ds i 0)) b) t) in
          let same : bucket_of z (get_or ds i 0) ≡ b = eqb-true (bucket_of z (get_or ds i 0)) b (and_right (leb z (get_or ds i 0)) (eqb (bucket_of z (get_or ds i 0)) b) t) in
          ap (λ (x : ℕ). get_or (chained z i (get_or ds i 0) s) x 0) (sym same) ∙ chained_head z i (get_or ds i 0) s h l far ∙ add-one i ∙ sym (latest_step_yes (in_bucket z b) ds i t)

      no_in_bucket : in_bucket z b (get_or ds i 0) ≡ false → get_or (chained z i (get_or ds i 0) s) b 0 ≡ latest_step (in_bucket z b) ds (suc i)
      no_in_bucket t =
          chained_other z i (get_or ds i 0) s h l b (λ f e. contra (ap (λ (x : ℕ). in_bucket z x (get_or ds i 0)) e ∙ in_bucket_yes z (get_or ds i 0) f) t) (λ e. omega arith)
          ∙ heads b k
          ∙ sym (latest_step_no (in_bucket z b) ds i t)

  link_new : z ≤ get_or ds i 0 → get_or (chained z i (get_or ds i 0) s) (z + i) 0 ≡ latest_step (in_bucket z (bucket_of z (get_or ds i 0))) ds i
  link_new far = chained_link z i (get_or ds i 0) s h l far ∙ heads (bucket_of z (get_or ds i 0)) (bucket_below z (get_or ds i 0) (omega arith))

  link_old : (j : ℕ) → j < i → get_or (chained z i (get_or ds i 0) s) (z + j) 0 ≡ get_or s (z + j) 0
  link_old j k =
      let b = bucket_below z (get_or ds i 0) (omega arith) in
      chained_other z i (get_or ds i 0) s h l (z + j) (λ f e. omega arith) (λ e. omega arith)

pub chains_more : (ds s : List ℕ) (i : ℕ) → i < length ds → 2 * length ds ≤ length s → Chains ds i s → Chains ds (i + 1) (chained (length ds) i (get_or ds i 0) s)
chains_more ds s i h l c = rw (add-one i) (record { heads = heads_more (length ds) ds s i h l c.heads; links = λ j k f. link j (eq-or-lt_of_le (le_of_suc-le-suc k)) f })
  where
    link : (j : ℕ) → (j ≡ i) ⊎ (j < i) → length ds ≤ get_or ds j 0
        → get_or (chained (length ds) i (get_or ds i 0) s) (length ds + j) 0 ≡ latest_step (in_bucket (length ds) (bucket_of (length ds) (get_or ds j 0))) ds j
    link j (inl e) f = rw e (link_new (length ds) ds s i h l c.heads (rw e at f))
    link j (inr k) f = link_old (length ds) ds s i h l c.heads j k ∙ c.links j k f

pub chains_linked : (ds s : List ℕ) → 2 * length ds ≤ length s → Chains ds (length ds) s → Linked (length ds) ds s
chains_linked ds s l c = record { room = λ i h f. omega arith; link = λ i h f. c.links i h f }

-- ---- the places held come before the links, and are written alone

module _ (ds a a' b : List ℕ) (q : length a' ≡ length a) where
  linked_front : Linked (length a) ds (a ++ b) → Linked (length a') ds (a' ++ b)
  linked_front k =
      rw q (record {
        room = λ i h f. let r = k.room i h f in omega (arith, length-append a b, length-append a' b);
        link = λ i h f. ap (λ (n : ℕ). get_or (a' ++ b) (n + i) 0) (sym q) ∙ get_or-append-add a' b i 0 ∙ sym (get_or-append-add a b i 0) ∙ k.link i h f;
      })

  pub ready_front : Prepared (length a) ds (a ++ b) → Prepared (length a') ds (a' ++ b)
  ready_front r =
      let near = r.near in
      let small = r.small in
      let wide = r.wide in
      record { near = omega arith; small = omega arith; wide = omega (arith, length-append a b, length-append a' b); linked = linked_front r.linked }

  pub kept_front : length a ≤ 2 * length ds → Kept ds (a ++ b) (a' ++ b)
  kept_front h = record { long = rw (length-append, length-append, q); rest = past a' (omega arith) ∙ ap (λ (n : ℕ). drop (2 * length ds - n) b) q ∙ sym (past a h) }
    where
      past : (s : List ℕ) → length s ≤ 2 * length ds → drop (2 * length ds) (s ++ b) ≡ drop (2 * length ds - length s) b
      past s l =
          let e : 2 * length ds ≡ length s + (2 * length ds - length s) = omega arith in
          ap (λ (n : ℕ). drop n (s ++ b)) e ∙ drop-append-add s b (2 * length ds - length s)

-- ---- the rest is kept

pub kept_trans : (ds s t u : List ℕ) → Kept ds s t → Kept ds t u → Kept ds s u
kept_trans ds s t u a b = record { long = b.long ∙ a.long; rest = b.rest ∙ a.rest }

pub kept-chained : (ds s : List ℕ) (i d : ℕ) → i < length ds → Kept ds s (chained (length ds) i d s)
kept-chained ds s i d h = record { long = length-chained (length ds) i d s; rest = drop-chained (length ds) i d s h }

-- ---- ready to be swapped

-- where n is small every place is held, and no draw is linked
pub ready-all : (n : ℕ) (ds s : List ℕ) → n ≤ 2 * length ds → 2 * length ds ≤ length s → Valid n 0 ds → Prepared n ds s
ready-all n ds s a b v =
    record {
      near = valid-few n ds v;
      small = a;
      wide = b;
      linked = record { room = λ i h f. absurd (none i h f); link = λ i h f. absurd (none i h f) };
    }
  where
    none : (i : ℕ) → i < length ds → n ≤ get_or ds i 0 → ⊥
    none i h f = let r = (valid_at n 0 ds v i h).1 in omega arith
