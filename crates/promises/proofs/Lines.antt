-- What the lines of a readable text are: one `rig` line first, at most four monitors of 1 to 32 states, every move in range and at most one
-- for a state and an event, at most 1,024 joint states, every event once in their order.
-- Why: each sound line keeps it so, whatever sound lines stand before it.
--   Ranged E k         == the numbers of the kind k are in their ranges, in a rig with E events, and its a and b differ
--   PartRanged E k p   == so are those of the line p of a monitor of the kind k, which is the kind that has such lines
--   Kept E m           == all lines of the monitor m are in range, and no move and no step is given twice
--   Formed ls          == one `rig` line first, at most four monitors that are kept, at most 1,024 joint states, every event once in their order
-- Assumes nothing.
use mathlib.Core.Path.{◌≡◌, refl, sym, ap, ◌∙◌, subst}
use mathlib.Core.Logic.{◌⊎◌, inl, inr, ◌≢◌, ⊎_elim}
use mathlib.Core.Bool.{Bool}
use mathlib.Core.List.{List, [], ◌∷◌, ◌++◌, append-nil, append_assoc}
use mathlib.Core.List.Memᴰ
use mathlib.Core.List.Memᴰ.{append_cases as in-append}
use mathlib.Core.List.Memᴰ.{head as here}
use mathlib.Core.List.Memᴰ.{tail as there}
use mathlib.Core.List.{Memᴰ as In}
use mathlib.Core.Option.{some}
use Prim.Native.Nat.{ℕ, suc, ◌+◌, ◌*◌, ◌≤◌, ◌<◌}
use native.Mathlib.Omega.{arith}
use native.Mathlib.Nat.{mul-one, mul_assoc, one-mul}
use native.Mathlib.Decide.{ℕ_discrete}
use lib.IntN.{ℤ, pos, neg_ℤ, nat_abs, ◌+ℤ◌, ◌-ℤ◌}
use lib.Signed.{◌≤ℤ◌}
use lib.ListN.{length, get_or, length-append}
use Rattle.lists.specs.Lists.{none, Permutation}
use Rattle.lists.proofs.Tests.{split, ℕ_trichotomy}
use Rattle.lists.proofs.Integers.{not_belowℤ, more_le, more-back, more-more, leℤ_trans, more_zero}
use Rattle.lists.proofs.Distinct.{once-distinct}
use Rattle.lists.proofs.Permutations.{range_permutation, full_permutation}
use Rattle.lists.proofs.Tells.{Tells, tells_stable}
use Rattle.promises.specs.Text.{Kind, mon, gap, reply, bal, day, Part, go, stop, amp, opens, Line, rig, ord, begins, continues, other, Monitor, add_part, extended, monitors_from, monitors, states_of, start_of, latest, product, events_of, reordered, order_from, order_of, OutOfRange, Equal, beginning, OfLatest, continuing, IsMon, IsBal, IsDay, Twice, cases, Case2, Case3, Case16, Case17, Case18, Case4, Case5, Case6, Sound, AllSound, Readable, decoded}
use Rattle.promises.proofs.KindTests.{tells_mon, tells_bal, tells_day}

-- ---- one line more

monitors_from-append : (ms : List Monitor) (ls ks : List Line) → monitors_from ms (ls ++ ks) ≡ monitors_from (monitors_from ms ls) ks
unfolding monitors_from
monitors_from-append ms [] ks = refl
monitors_from-append ms (l ∷ ls) ks = monitors_from-append (extended ms l) ls ks

pub monitors-more : (ls : List Line) (l : Line) → monitors (ls ++ (l ∷ [])) ≡ extended (monitors ls) l
unfolding monitors monitors_from
monitors-more ls l = monitors_from-append [] ls (l ∷ [])

pub order_from-append : (es : List ℕ) (ls ks : List Line) → order_from es (ls ++ ks) ≡ order_from (order_from es ls) ks
unfolding order_from
order_from-append es [] ks = refl
order_from-append es (l ∷ ls) ks = order_from-append (reordered es l) ls ks

pub order_more : (ls : List Line) (l : Line) → order_of (ls ++ (l ∷ [])) ≡ reordered (order_of ls) l
unfolding order_of order_from
order_more ls l = order_from-append [] ls (l ∷ [])

-- the latest monitor with one line more
abbrev more_parts : Monitor → Part → Monitor
more_parts m p = record { kind = m.kind; parts = m.parts ++ (p ∷ []) }

-- a monitor after one more line of the latest is as it was, or it is the latest with that line
pub in_add_part : (p : Part) (ms : List Monitor) (m : Monitor) → In m (add_part p ms)
    → In m ms ⊎ ((k : Monitor) × (latest ms ≡ some k) × In k ms × (m ≡ more_parts k p))
unfolding add_part latest
in_add_part p [] m i = inl i
in_add_part p (k ∷ []) m i = inr (k, refl, here refl, Memᴰ.eq_of_singleton i)
in_add_part p (k ∷ (n ∷ ms)) m (here q) = inl (here q)
in_add_part p (k ∷ (n ∷ ms)) m (there i) = later (in_add_part p (n ∷ ms) m i)
  where
    later : In m (n ∷ ms) ⊎ ((k : Monitor) × (latest (n ∷ ms) ≡ some k) × In k (n ∷ ms) × (m ≡ more_parts k p))
        → In m (k ∷ (n ∷ ms)) ⊎ ((j : Monitor) × (latest (n ∷ ms) ≡ some j) × In j (k ∷ (n ∷ ms)) × (m ≡ more_parts j p))
    later (inl j) = inl (there j)
    later (inr (j, e, h, q)) = inr (j, e, there h, q)

pub length-add_part : (p : Part) (ms : List Monitor) → length (add_part p ms) ≡ length ms
unfolding add_part
length-add_part p [] = refl
length-add_part p (m ∷ []) = refl
length-add_part p (m ∷ (n ∷ ms)) = ap suc (length-add_part p (n ∷ ms))

pub product-add_part : (p : Part) (ms : List Monitor) → product (add_part p ms) ≡ product ms
unfolding add_part product
product-add_part p [] = refl
product-add_part p (m ∷ []) = refl
product-add_part p (m ∷ (n ∷ ms)) = ap (λ n. states_of m.kind * n) (product-add_part p (n ∷ ms))

pub product-append : (ms : List Monitor) (m : Monitor) → product (ms ++ (m ∷ [])) ≡ product ms * states_of m.kind
unfolding product
product-append [] m = mul-one _ ∙ sym (one-mul _)
product-append (k ∷ ms) m = ap (λ p. states_of k.kind * p) (product-append ms m) ∙ sym (mul_assoc (states_of k.kind) (product ms) (states_of m.kind))

-- ---- what sound lines are

unfoldable pub Ranged : ℕ → Kind → Type 0
Ranged E (mon S a) = (1 ≤ S) × (S ≤ 32) × (a < S)
Ranged E (gap e n) = (e < E) × (2 ≤ n) × (n ≤ 32)
Ranged E (reply a b lo hi) = (a < E) × (b < E) × (1 ≤ lo) × (lo ≤ hi) × (hi ≤ 31) × (a ≢ b)
Ranged E (bal lo hi) = (neg_ℤ (pos 15) ≤ℤ lo) × (lo ≤ℤ pos 0) × (pos 0 ≤ℤ hi) × (hi ≤ℤ pos 15)
Ranged E (day T) = (2 ≤ T) × (T ≤ 32)

unfoldable pub PartRanged : ℕ → Kind → Part → Type 0
PartRanged E k (go s e t) = IsMon k × (s < states_of k) × (e < E) × (t < states_of k)
PartRanged E k (stop s) = IsMon k × (s < states_of k)
PartRanged E k (amp e d) = IsBal k × (e < E) × (neg_ℤ (pos 15) ≤ℤ d) × (d ≤ℤ pos 15)
PartRanged E k (opens e a b) = IsDay k × (e < E) × (a < b) × (b ≤ states_of k)

-- the lines ps have at most one f
unfoldable pub Once : {A : Type 0} → (A → Part) → List Part → Type 0
Once {A} f ps = (a b : A) → In (f a) ps → In (f b) ps → a ≡ b

pub record Kept (E : ℕ) (m : Monitor) : Type 0 where
  pub ranged : Ranged E m.kind
  pub parts_ranged : (p : Part) → In p m.parts → PartRanged E m.kind p
  pub move_once : (s e : ℕ) → Once (go s e) m.parts
  pub step_once : (e : ℕ) → Once (amp e) m.parts

-- the monitors ms over E events
pub record WellFormed (E : ℕ) (ms : List Monitor) : Type 0 where
  pub few : length ms ≤ 4
  pub each : (m : Monitor) → In m ms → Kept E m
  pub small : product ms ≤ 1024

-- no line, or a `rig` line of 1 to 16 events first
unfoldable pub Headed : List Line → Type 0
Headed ls = (ls ≡ []) ⊎ ((E : ℕ) × (rest : List Line) × (ls ≡ rig E ∷ rest) × (1 ≤ E) × (E ≤ 16))

pub record Formed (ls : List Line) : Type 0 where
  pub headed : Headed ls
  pub monitored : WellFormed (events_of ls) (monitors ls)
  pub ordered : Permutation (events_of ls) (order_of ls)

-- the band of a `bal`: 0 is in it, and it is at most 31 wide
module _ (lo hi : ℤ) (low : lo ≤ℤ pos 0) (high : pos 0 ≤ℤ hi) where
  pub band : lo ≤ℤ hi
  band = leℤ_trans lo (pos 0) hi low high

  -- 'beginning at 0': −lo is a state
  zero_inside : nat_abs lo < nat_abs (hi -ℤ lo) + 1
  zero_inside =
      let k = nat_abs (hi -ℤ pos 0) in
      let top : hi ≡ lo +ℤ pos (nat_abs lo + k) = sym (more_le (pos 0) hi high) ∙ ap (λ c. c +ℤ pos k) (sym (more_zero lo low)) ∙ more-more lo (nat_abs lo) k in
      let wide : nat_abs (hi -ℤ lo) ≡ nat_abs lo + k = ap (λ c. nat_abs (c -ℤ lo)) top ∙ more-back lo (nat_abs lo + k) in
      omega arith

  band_few : neg_ℤ (pos 15) ≤ℤ lo → hi ≤ℤ pos 15 → nat_abs (hi -ℤ lo) ≤ 30
  band_few l h =
      let p = nat_abs (lo -ℤ neg_ℤ (pos 15)) in
      let n = nat_abs (hi -ℤ lo) in
      let q = nat_abs (pos 15 -ℤ hi) in
      let top : neg_ℤ (pos 15) +ℤ pos (p + n + q) ≡ pos 15 =
      sym (more-more (neg_ℤ (pos 15)) (p + n) q)
      ∙ ap (λ c. c +ℤ pos q) (sym (more-more (neg_ℤ (pos 15)) p n) ∙ ap (λ c. c +ℤ pos n) (more_le (neg_ℤ (pos 15)) lo l) ∙ more_le lo hi band)
      ∙ more_le hi (pos 15) h
      in
      omega (arith, sym (more-back (neg_ℤ (pos 15)) (p + n + q)) ∙ ap (λ c. nat_abs (c -ℤ neg_ℤ (pos 15))) top)

-- a monitor starts in one of its states, which are at most 32
pub start_below : (E : ℕ) (k : Kind) → Ranged E k → start_of k < states_of k
unfolding Ranged start_of states_of
start_below E (mon S a) r = omega arith
start_below E (gap e n) r = omega arith
start_below E (reply a b lo hi) r = omega arith
start_below E (bal lo hi) (l, low, high, h) = omega (arith, zero_inside lo hi low high)
start_below E (day T) r = omega arith

pub few_states : (E : ℕ) (k : Kind) → Ranged E k → states_of k ≤ 32
unfolding Ranged states_of
few_states E (mon S a) r = omega arith
few_states E (gap e n) r = omega arith
few_states E (reply a b lo hi) (x, y, one, le, h, ne) = omega arith
few_states E (bal lo hi) (l, low, high, h) = omega (arith, band_few lo hi low high l h)
few_states E (day T) r = omega arith

-- ---- what a sound line says

within : (a b : ℕ) → ((b < a) → ⊥) → a ≤ b
within a b h = ⊎_elim (λ k. k) (λ k. absurd (h k)) (split a b)

pub in_range : (E : ℕ) (k : Kind) → (OutOfRange E k → ⊥) → (Equal k → ⊥) → Ranged E k
unfolding OutOfRange Equal Ranged
in_range E (mon S a) r d = (within 1 S (λ h. r (inl (inl h))), within S 32 (λ h. r (inl (inr h))), within (suc a) S (λ h. r (inr (omega arith))))
in_range E (gap e n) r d = (within (suc e) E (λ h. r (inl (omega arith))), within 2 n (λ h. r (inr (inl h))), within n 32 (λ h. r (inr (inr h))))
in_range E (reply a b lo hi) r d = (
  within (suc a) E (λ h. r (inl (omega arith))),
  within (suc b) E (λ h. r (inr (inl (omega arith)))),
  within 1 lo (λ h. r (inr (inr (inl h)))),
  within lo hi (λ h. r (inr (inr (inr (inl h))))),
  within hi 31 (λ h. r (inr (inr (inr (inr h))))),
  d,
)
in_range E (bal lo hi) r d = (
  not_belowℤ lo (neg_ℤ (pos 15)) (λ h. r (inl (inl h))),
  not_belowℤ (pos 0) lo (λ h. r (inl (inr h))),
  not_belowℤ hi (pos 0) (λ h. r (inr (inl h))),
  not_belowℤ (pos 15) hi (λ h. r (inr (inr h))),
)
in_range E (day T) r d = (within 2 T (λ h. r (inl h)), within T 32 (λ h. r (inr h)))

pub begun : (ls : List Line) (k : Kind) → Sound ls (begins k) → Ranged (events_of ls) k × (length (monitors ls) < 4) × (product (monitors ls) * states_of k ≤ 1024)
unfolding Case3 Case17 Case6 cases beginning
begun ls k s = (
  in_range (events_of ls) k (λ o. s.ranged (inl o)) (λ q. s.unequal (refl, q)),
  within (suc (length (monitors ls))) 4 (λ h. s.ranged (inr (omega arith))),
  within _ 1024 s.fits,
)

module _ (ls : List Line) (m : Monitor) (q : latest (monitors ls) ≡ some m) where
  -- the latest monitor is of the kind that has such lines
  right_kind : {b : Bool} (R : Kind → Type 0) → Tells b (R m.kind) → ((OfLatest (λ m. R m.kind) (latest (monitors ls)) → ⊥) → ⊥) → R m.kind
  unfolding OfLatest
  right_kind R t placed = tells_stable t (λ n. placed (λ r. n (rw q at r)))

  continued : (p : Part) → Sound ls (continues p) → PartRanged (events_of ls) m.kind p
  unfolding Case5 Case3 Case18 cases continuing OfLatest PartRanged
  continued (go s e t) h = (
    right_kind IsMon (tells_mon m.kind) h.placed,
    within (suc s) (states_of m.kind) (λ l. h.ranged (rw q (inl (omega arith)))),
    within (suc e) (events_of ls) (λ l. h.ranged (rw q (inr (inl (omega arith))))),
    within (suc t) (states_of m.kind) (λ l. h.ranged (rw q (inr (inr (omega arith))))),
  )
  continued (stop s) h = (
    right_kind IsMon (tells_mon m.kind) h.placed,
    within (suc s) (states_of m.kind) (λ l. h.ranged (rw q (let k : states_of m.kind ≤ s = omega arith in k))),
  )
  continued (amp e d) h = (
    right_kind IsBal (tells_bal m.kind) h.placed,
    within (suc e) (events_of ls) (λ l. h.ranged (rw q (inl (omega arith)))),
    not_belowℤ d (neg_ℤ (pos 15)) (λ l. h.ranged (rw q (inr (inl l)))),
    not_belowℤ (pos 15) d (λ l. h.ranged (rw q (inr (inr l)))),
  )
  continued (opens e a b) h = (
    right_kind IsDay (tells_day m.kind) h.placed,
    within (suc e) (events_of ls) (λ l. h.ranged (rw q (inl (omega arith)))),
    within (suc a) b (λ l. h.nonempty (refl, omega arith)),
    within b (states_of m.kind) (λ l. h.ranged (rw q (inr l))),
  )

  new_move : (s e t : ℕ) → Sound ls (continues (go s e t)) → (u : ℕ) → In (go s e u) m.parts → ⊥
  unfolding Case4 cases continuing OfLatest
  new_move s e t h u i = h.new (rw q (u, i))

  new_step : (e : ℕ) (d : ℤ) → Sound ls (continues (amp e d)) → (c : ℤ) → In (amp e c) m.parts → ⊥
  unfolding Case4 cases continuing OfLatest
  new_step e d h c i = h.new (rw q (c, i))

-- an `ord` line has E different numbers below E, so it has them all
module _ (ls : List Line) (es : List ℕ) (s : Sound ls (ord es)) where
  pub sound_second : length ls ≡ 1
  unfolding Case5 cases
  sound_second = is (ℕ_discrete (length ls) 1)
    where
      is : Dec (length ls ≡ 1) → length ls ≡ 1
      is (yes q) = q
      is (no n) = absurd (s.placed n)

  pub sound_listed : Permutation (events_of ls) es
  unfolding Case2 Case3 Case16 cases Twice
  sound_listed = full_permutation (events_of ls) es (full (ℕ_discrete (length es) (events_of ls))) (record {
    once = once-distinct 0 es (λ i j a b q. one i j a b q (ℕ_trichotomy i j));
    below = λ e i. within (suc e) (events_of ls) (λ h. s.ranged (e, i, omega arith));
  })
    where
      full : Dec (length es ≡ events_of ls) → length es ≡ events_of ls
      full (yes r) = r
      full (no n) = absurd (s.formed (sound_second, n))

      one : (i j : ℕ) → i < length es → j < length es → get_or es i 0 ≡ get_or es j 0 → (i < j) ⊎ ((i ≡ j) ⊎ (j < i)) → i ≡ j
      one i j a b q (inl h) = absurd (s.named_once (refl, (i, j, h, b, q)))
      one i j a b q (inr (inl h)) = h
      one i j a b q (inr (inr h)) = absurd (s.named_once (refl, (j, i, h, a, sym q)))

once_more : {A : Type 0} (f : A → Part) (ps : List Part) (p : Part) → ((a b : A) → f a ≡ f b → a ≡ b) → ((a b : A) → f a ≡ p → In (f b) ps → ⊥) → Once f ps → Once f (ps ++ (p ∷ []))
unfolding Once
once_more {A} f ps p inj new old a b i j = either (in-append ps i) (in-append ps j)
  where
    either : In (f a) ps ⊎ In (f a) (p ∷ []) → In (f b) ps ⊎ In (f b) (p ∷ []) → a ≡ b
    either (inl h) (inl k) = old a b h k
    either (inl h) (inr k) = absurd (new b a (Memᴰ.eq_of_singleton k) h)
    either (inr h) (inl k) = absurd (new a b (Memᴰ.eq_of_singleton h) k)
    either (inr h) (inr k) = inj a b (Memᴰ.eq_of_singleton h ∙ sym (Memᴰ.eq_of_singleton k))

-- ---- line by line

no_monitor : (E : ℕ) → WellFormed E []
unfolding product
no_monitor E = record { few = omega arith; each = λ m i. absurd (Memᴰ.not-nil i); small = omega arith }

one_monitor_more : (ls : List Line) (k : Kind) → WellFormed (events_of ls) (monitors ls) → Sound ls (begins k)
    → WellFormed (events_of ls) (monitors ls ++ (record { kind = k; parts = [] } ∷ []))
unfolding Once
one_monitor_more ls k w s =
    let (ranged, few, small) = begun ls k s in
    record {
      few = rw length-append (omega arith);
      each = λ m i. ⊎_elim (w.each m) (λ j. subst (Kept (events_of ls)) (sym (Memᴰ.eq_of_singleton j)) (kept ranged)) (in-append (monitors ls) i);
      small = rw (product-append (monitors ls) (record { kind = k; parts = [] })) small;
    }
  where
    kept : Ranged (events_of ls) k → Kept (events_of ls) (record { kind = k; parts = [] })
    kept ranged = record {
      ranged = ranged;
      parts_ranged = λ p i. absurd (Memᴰ.not-nil i);
      move_once = λ s e a b i j. absurd (Memᴰ.not-nil i);
      step_once = λ e a b i j. absurd (Memᴰ.not-nil i);
    }

one-part-more : (ls : List Line) (p : Part) → WellFormed (events_of ls) (monitors ls) → Sound ls (continues p) → WellFormed (events_of ls) (add_part p (monitors ls))
one-part-more ls p w h = record {
  few = rw length-add_part w.few;
  each = λ m i. ⊎_elim (w.each m) (λ (k, q, j, r). subst (Kept (events_of ls)) (sym r) (kept k q (w.each k j))) (in_add_part p (monitors ls) m i);
  small = rw product-add_part w.small;
}
  where
    kept : (k : Monitor) → latest (monitors ls) ≡ some k → Kept (events_of ls) k → Kept (events_of ls) (more_parts k p)
    kept k q o = record {
      ranged = o.ranged;
      parts_ranged = λ r i. ⊎_elim (o.parts_ranged r) (λ j. subst (PartRanged (events_of ls) k.kind) (sym (Memᴰ.eq_of_singleton j)) (continued ls k q p h)) (in-append k.parts i);
      move_once = λ s e. once_more (go s e) k.parts p (λ a b r. cc) (λ a b r. new_move ls k q s e a (subst (λ p. Sound ls (continues p)) (sym r) h) b) (o.move_once s e);
      step_once = λ e. once_more (amp e) k.parts p (λ a b r. cc) (λ a b r. new_step ls k q e a (subst (λ p. Sound ls (continues p)) (sym r) h) b) (o.step_once e);
    }

pub not_empty : {A : Type 0} (x : A) (l : List A) → (x ∷ l) ≢ []
not_empty x l q = let z : ◌≡◌ {A = ℕ} 0 1 = cc in omega arith

pub events_of-more : (l : Line) (ls ks : List Line) → events_of ((l ∷ ls) ++ ks) ≡ events_of (l ∷ ls)
unfolding events_of
events_of-more (rig E) ls ks = refl
events_of-more (ord es) ls ks = refl
events_of-more (begins k) ls ks = refl
events_of-more (continues p) ls ks = refl
events_of-more other ls ks = refl

headed_more : (l : Line) (ls : List Line) (k : Line) → Headed (l ∷ ls) → Headed ((l ∷ ls) ++ (k ∷ []))
unfolding Headed
headed_more l ls k (inl q) = absurd (not_empty l ls q)
headed_more l ls k (inr (E, rest, q, a, b)) = inr (E, rest ++ (k ∷ []), ap (λ x. x ++ (k ∷ [])) q, a, b)

-- a line that is not the first, whatever it adds to the monitors and makes of the order
line_formed : (l : Line) (ls : List Line) (k : Line) → Formed (l ∷ ls) → WellFormed (events_of (l ∷ ls)) (extended (monitors (l ∷ ls)) k)
    → Permutation (events_of (l ∷ ls)) (reordered (order_of (l ∷ ls)) k) → Formed ((l ∷ ls) ++ (k ∷ []))
line_formed l ls k f w o = record {
  headed = headed_more l ls k f.headed;
  monitored = rw (events_of-more l ls (k ∷ []), monitors-more (l ∷ ls) k) w;
  ordered = rw (events_of-more l ls (k ∷ []), order_more (l ∷ ls) k) o;
}

first_line_lem : (l : Line) → Sound [] l → Formed (l ∷ [])
unfolding Case2 Case5 Case3 cases beginning continuing OfLatest latest Headed monitors monitors_from extended events_of order_of order_from reordered
first_line_lem (rig E) s = record {
  headed = inr (E, [], refl, within 1 E (λ h. s.ranged (inl h)), within E 16 (λ h. s.ranged (inr h)));
  monitored = no_monitor _;
  ordered = range_permutation E;
}
first_line_lem (ord es) s = absurd (s.placed (λ q. omega arith))
first_line_lem (begins k) s = absurd (s.placed refl)
first_line_lem (continues (go a b c)) s = absurd (s.placed (λ h. h))
first_line_lem (continues (stop a)) s = absurd (s.placed (λ h. h))
first_line_lem (continues (amp a d)) s = absurd (s.placed (λ h. h))
first_line_lem (continues (opens a b c)) s = absurd (s.placed (λ h. h))
first_line_lem other s = absurd (s.formed tt)

later_line : (l : Line) (ls : List Line) (k : Line) → Formed (l ∷ ls) → Sound (l ∷ ls) k → Formed ((l ∷ ls) ++ (k ∷ []))
unfolding Case2 Case5 cases extended reordered
later_line l ls (rig E) f s = absurd (s.placed (not_empty l ls))
later_line l ls (ord es) f s = line_formed l ls (ord es) f f.monitored (sound_listed (l ∷ ls) es s)
later_line l ls (begins k) f s = line_formed l ls (begins k) f (one_monitor_more (l ∷ ls) k f.monitored s) f.ordered
later_line l ls (continues p) f s = line_formed l ls (continues p) f (one-part-more (l ∷ ls) p f.monitored s) f.ordered
later_line l ls other f s = absurd (s.formed tt)

pub sound-formed : (ls : List Line) (l : Line) → Formed ls → Sound ls l → Formed (ls ++ (l ∷ []))
sound-formed [] l f s = first_line_lem l s
sound-formed (k ∷ ls) l f s = later_line k ls l f s

pub nothing-formed : Formed []
unfolding Headed monitors monitors_from events_of order_of order_from
nothing-formed = record { headed = inl refl; monitored = no_monitor _; ordered = record { once = none; just = λ e. (λ i. absurd (Memᴰ.not-nil i), λ h. absurd (omega arith)) } }

all-formed : (front back : List Line) → Formed front → AllSound front back → Formed (front ++ back)
unfolding AllSound
all-formed front [] f s = rw append-nil f
all-formed front (l ∷ back) f s =
    subst Formed (append_assoc front (l ∷ []) back) (all-formed (front ++ (l ∷ [])) back (sound-formed front l f s.0) s.1)

-- ---- what a readable text is

pub lines-formed : (ls : List Line) → AllSound [] ls → Formed ls
lines-formed ls s = all-formed [] ls nothing-formed s

pub readable-formed : (t : List ℕ) → Readable t → Formed (decoded t)
readable-formed t r = lines-formed (decoded t) r.sound
