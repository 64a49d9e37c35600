-- The order of sequences is by the first differing event, and strict and total on sequences of one length.
-- Why: the lexicographic order over any strict total order of events is; `Comes` is the one over the places in the list of events. Assumes nothing.
use mathlib.Core.Path.{◌≡◌, refl, sym, ap, ◌∙◌, subst}
use mathlib.Core.Logic.{◌⊎◌, inl, inr, ◌≢◌, ⊎_elim}
use mathlib.Core.List.Memᴰ.{head as here}
use mathlib.Core.List.Memᴰ.{tail as there}
use mathlib.Core.List.{List, [], ◌∷◌, ◌++◌, Memᴰ as In}
use Prim.Native.Nat.{ℕ, zero, suc, ◌≤◌, ◌<◌}
use native.Mathlib.Omega.{arith}
use lib.ListN.{length, get_or, take, length-append}
use Rattle.lists.specs.Lists.{range, index_of, Pairwise}
use Rattle.lists.proofs.Tests.{ℕ_trichotomy}
use Rattle.lists.proofs.Distinct.{in_split}
use Rattle.lists.proofs.Permutations.{index_of-one, index_of_at, index_of-range}
use Rattle.automaton.specs.Counting.{Lex}
use Rattle.automaton.proofs.Counting.{lex_irreflexive}
use Rattle.promises.specs.Text.{Line, rig, ord, begins, continues, other, monitors_from, monitors, events_of, reordered, order_from, order_of, decoded, cases, Case5, Sound, AllSound, Readable}
use Rattle.promises.specs.Meaning.{Earlier, Comes}
use Rattle.promises.specs.Order.{OfEvents, Order}
use Rattle.promises.proofs.Lines.{order_from-append, Headed, sound_second, readable-formed}
use Rattle.promises.proofs.Reading.{all_sound_append}
use Rattle.promises.proofs.Meaning.{order_permutes}

module _ (R : ℕ → ℕ → Type 0) where
  -- the sequences differ first at some place, and there R holds
  abbrev First : List ℕ → List ℕ → Type 0
  First v w = (p : ℕ) × (p < length v) × (p < length w) × (take p v ≡ take p w) × R (get_or v p 0) (get_or w p 0)

  lex_first : (v w : List ℕ) → Lex R v w → First v w
  unfolding Lex
  lex_first [] w l = absurd l
  lex_first (a ∷ v) [] l = absurd l
  lex_first (a ∷ v) (b ∷ w) (inl r) = (0, omega arith, omega arith, refl, r)
  lex_first (a ∷ v) (b ∷ w) (inr (q, l)) = let (p, i, j, e, r) = lex_first v w l in (suc p, omega arith, omega arith, rw (q, e), r)

  first_lex : (v w : List ℕ) → First v w → Lex R v w
  unfolding Lex
  first_lex [] w (p, i, j, e, r) = absurd (omega arith)
  first_lex (a ∷ v) [] (p, i, j, e, r) = absurd (omega arith)
  first_lex (a ∷ v) (b ∷ w) (zero, i, j, e, r) = inl r
  first_lex (a ∷ v) (b ∷ w) (suc p, i, j, e, r) = inr (cc, first_lex v w (p, omega arith, omega arith, cc, r))

  lex_transitive : ((a b c : ℕ) → R a b → R b c → R a c) → (u v w : List ℕ) → Lex R u v → Lex R v w → Lex R u w
  unfolding Lex
  lex_transitive tr [] v w l m = absurd l
  lex_transitive tr (a ∷ u) [] w l m = absurd l
  lex_transitive tr (a ∷ u) (b ∷ v) [] l m = absurd m
  lex_transitive tr (a ∷ u) (b ∷ v) (c ∷ w) (inl r) (inl s) = inl (tr a b c r s)
  lex_transitive tr (a ∷ u) (b ∷ v) (c ∷ w) (inl r) (inr (q, m)) = inl (subst (R a) q r)
  lex_transitive tr (a ∷ u) (b ∷ v) (c ∷ w) (inr (q, l)) (inl s) = inl (rw q s)
  lex_transitive tr (a ∷ u) (b ∷ v) (c ∷ w) (inr (q, l)) (inr (e, m)) = inr (q ∙ e, lex_transitive tr u v w l m)

  lex_total : (v w : List ℕ) → ((a b : ℕ) → In a v → In b w → R a b ⊎ ((a ≡ b) ⊎ R b a)) → length v ≡ length w → v ≢ w → Lex R v w ⊎ Lex R w v
  unfolding Lex
  lex_total [] [] compare e n = absurd (n refl)
  lex_total [] (b ∷ w) compare e n = absurd (omega arith)
  lex_total (a ∷ v) [] compare e n = absurd (omega arith)
  lex_total (a ∷ v) (b ∷ w) compare e n = go (compare a b (here refl) (here refl)) (lex_total v w (λ a b i j. compare a b (there i) (there j)) (omega arith))
    where
      go : R a b ⊎ ((a ≡ b) ⊎ R b a) → (v ≢ w → Lex R v w ⊎ Lex R w v) → (R a b ⊎ ((a ≡ b) × Lex R v w)) ⊎ (R b a ⊎ ((b ≡ a) × Lex R w v))
      go (inl r) ih = inl (inl r)
      go (inr (inr r)) ih = inr (inl r)
      go (inr (inl q)) ih = ⊎_elim (λ l. inl (inr (q, l))) (λ l. inr (inr (sym q, l))) (ih (λ s. n (rw (q, s))))

-- `Comes` is the lexicographic order over `Earlier`
pub comes_lex : (t v w : List ℕ) → Comes t v w ≡ Lex (Earlier (decoded t)) v w
unfolding Lex Comes
comes_lex t [] w = refl
comes_lex t (a ∷ v) [] = refl
comes_lex t (a ∷ v) (b ∷ w) = ap (λ T. Earlier (decoded t) a b ⊎ ((a ≡ b) × T)) (comes_lex t v w)

-- ---- which order of events the lines give

-- neither another `rig` nor another `ord` is sound
order_kept : (front back : List Line) (es : List ℕ) → AllSound front back → 1 ≤ length front → ((ds : List ℕ) → In (ord ds) back → ⊥) → order_from es back ≡ es
unfolding AllSound order_from reordered Case5 cases
order_kept front [] es s h free = refl
order_kept front (rig E ∷ back) es s h free = absurd (s.0.placed (λ q. omega (arith, ap length q)))
order_kept front (ord ds ∷ back) es s h free = absurd (free ds (here refl))
order_kept front (begins k ∷ back) es s h free = order_kept (front ++ (begins k ∷ [])) back es s.1 (rw length-append (omega arith)) (λ ds i. free ds (there i))
order_kept front (continues p ∷ back) es s h free = order_kept (front ++ (continues p ∷ [])) back es s.1 (rw length-append (omega arith)) (λ ds i. free ds (there i))
order_kept front (other ∷ back) es s h free = order_kept (front ++ (other ∷ [])) back es s.1 (rw length-append (omega arith)) (λ ds i. free ds (there i))

never_later : (front back : List Line) (es : List ℕ) → AllSound front back → 2 ≤ length front → In (ord es) back → ⊥
unfolding AllSound
never_later front [] es s h x3 = elim x3 [ ]
never_later front (l ∷ back) es s h (here q) = omega (arith, sound_second front es (subst (Sound front) (sym q) s.0))
never_later front (l ∷ back) es s h (there i) = never_later (front ++ (l ∷ [])) back es s.1 (rw length-append (omega arith)) i

module _ (t : List ℕ) (r : Readable t) where
  -- an `ord` line is the second, and lists every event once
  module _ (front : List Line) (es : List ℕ) (back : List Line) (q : decoded t ≡ front ++ (ord es ∷ back)) where
    parted : AllSound [] front × AllSound front (ord es ∷ back)
    parted = (all_sound_append [] front (ord es ∷ back)).0 (subst (AllSound []) q r.sound)

    pub ord_second : length front ≡ 1
    unfolding AllSound
    ord_second = sound_second front es parted.1.0

    -- and it is the order
    ord_order : order_of (decoded t) ≡ es
    unfolding order_of AllSound order_from reordered
    ord_order =
        let later : 2 ≤ length (front ++ (ord es ∷ [])) = rw length-append (omega (arith, ord_second)) in
        ap order_of q ∙ order_from-append [] front (ord es ∷ back)
        ∙ order_kept (front ++ (ord es ∷ [])) back es parted.1.1 (omega arith) (λ ds i. never_later (front ++ (ord es ∷ [])) back ds parted.1.1 later i)

  pub order_listed : (es : List ℕ) → In (ord es) (decoded t) → order_of (decoded t) ≡ es
  order_listed es i = let (front, back, q) = in_split i in ord_order front es back q

  -- without one it is 01's
  order_plain : ((es : List ℕ) → In (ord es) (decoded t) → ⊥) → order_of (decoded t) ≡ range (events_of (decoded t))
  unfolding Headed monitors monitors_from
  order_plain free = headed (readable-formed t r).headed
    where
      headed : (decoded t ≡ []) ⊎ ((E : ℕ) × (rest : List Line) × (decoded t ≡ rig E ∷ rest) × (1 ≤ E) × (E ≤ 16)) → order_of (decoded t) ≡ range (events_of (decoded t))
      headed (inl q) = absurd (r.monitored (ap monitors q))
      headed (inr (E, rest, q, a, b)) = rw q (unfold order_of order_from reordered events_of in order_kept (rig E ∷ []) rest (range E) (sound_rest (subst (AllSound []) q r.sound)) (omega arith) (λ ds i. free ds (rw q (there i))))
        where
          sound_rest : AllSound [] (rig E ∷ rest) → AllSound (rig E ∷ []) rest
          sound_rest s = unfold AllSound in s.1

  -- two different events are one earlier than the other
  compare : (a b : ℕ) → a < events_of (decoded t) → b < events_of (decoded t) → Earlier (decoded t) a b ⊎ ((a ≡ b) ⊎ Earlier (decoded t) b a)
  unfolding Earlier
  compare a b h k = ⊎_elim inl (λ o. inr (⊎_elim (λ q. inl (index_of-one (((order_permutes t r).just a).1 h) (((order_permutes t r).just b).1 k) q)) inr o)) (ℕ_trichotomy (index_of (order_of (decoded t)) a) (index_of (order_of (decoded t)) b))

pub order : Order
unfolding Earlier OfEvents
order = record {
  first_differing = λ t v w. rw comes_lex (lex_first (Earlier (decoded t)) v w, first_lex (Earlier (decoded t)) v w);
  irreflexive = λ t v. rw comes_lex (lex_irreflexive (Earlier (decoded t)) (λ a l. omega arith) v v refl);
  transitive = λ t u v w. rw (comes_lex t u v, comes_lex t v w, comes_lex t u w) (lex_transitive (Earlier (decoded t)) (λ a b c l m. omega arith) u v w);
  total = λ t r v w i j. rw (comes_lex t v w, comes_lex t w v) (lex_total (Earlier (decoded t)) v w (λ a b k l. compare t r a b (i a k) (j b l)));
  by_ord = λ t es r k i j a b. let d : Pairwise ◌≢◌ es = rw (order_listed t r es k) at (order_permutes t r).once in rw (order_listed t r es k, index_of_at es i d a, index_of_at es j d b) (λ h. h, λ h. h);
  lower_first_lem = λ t r free a b h k. rw (order_plain t r free, index_of-range (events_of (decoded t)) a h, index_of-range (events_of (decoded t)) b k) (λ h. h, λ h. h);
}
