-- The steps of a draw and of the list of draws.
-- Why: each is one step of its definition. Assumes nothing.
use mathlib.Core.Path.{◌≡◌, refl, sym, ap, ◌∙◌}
use mathlib.Core.Bool.{true, false, not}
use mathlib.Core.List.{List, [], ◌∷◌, ◌++◌, append_assoc, append-nil}
use mathlib.Core.Option.{none, some}
use Prim.Native.Nat.{ℕ, suc, ◌+◌, ◌-◌, ◌%◌, ◌^◌, ◌≤◌, ◌<◌}
use native.Mathlib.Omega.{arith}
use native.Mathlib.Nat.{sub-zero}
use native.Mathlib.Numerals.{add-one}
use mathlib.Mathlib.Data.Bool.Basic.{eq-true_of_not-eq-false', eq-false_of_not-eq-true'}
use lib.ListN.{length, set, drop, length-append}
use Rattle.lists.proofs.Fronts.{front_put}
use Rattle.promises.specs.Answer.{refused}
use Rattle.promises.specs.Calls.{output_after}
use Rattle.promises.specs.SplitMix.{next_state, mix, raw}
use Rattle.promises.specs.Draws.{thrown_away, taken, Outcome, drawn, failed, onto, draws_from, outcome, said, draws, draws_output}
use Rattle.promises.proofs.Draws.{draws_is, draws_owed}
use Rattle.std.specs.Prelude.{Some, None, IsSome}
use Rattle.std.specs.Prelude.{Option as Choice}
use Rattle.draws.specs.Making.{taken_of, first_failed, AllMade}
use Rattle.draws.specs.declared.Draw.{Draw}

-- ---- one draw

-- one less is left
left : (m k : ℕ) → k < m → m - k ≡ suc (m - (k + 1))
left m k h = omega arith

module _ (limit k w s u r : ℕ) (within : k < limit) (next : u ≡ next_state s) (is : r ≡ mix u) where
  -- raw number k is kept
  pub taken_here : not (thrown_away (2 ^ 64) w r) ≡ true → taken (limit - k) w s ≡ some (r, u)
  unfolding taken raw
  taken_here h = rw (left limit k within, ← next, ← is, eq-false_of_not-eq-true' {a = thrown_away (2 ^ 64) w r} h)

  -- raw number k is thrown away
  pub taken_later : not (thrown_away (2 ^ 64) w r) ≡ false → taken (limit - k) w s ≡ taken (limit - (k + 1)) w u
  unfolding taken raw
  taken_later h = rw (left limit k within, ← next, ← is, eq-true_of_not-eq-false' {a = thrown_away (2 ^ 64) w r} h)

-- none is left
pub taken_nowhere : (limit k w s : ℕ) → limit ≤ k → taken (limit - k) w s ≡ none
unfolding taken
taken_nowhere limit k w s h = let e : limit - k ≡ 0 = omega arith in rw e

-- ---- the draws from place i on

module _ (limit n z i s : ℕ) where
  module _ (within : i < z) where
    pub from_failed : taken limit (n - i) s ≡ none → draws_from limit n (z - i) i s ≡ failed i
    unfolding draws_from
    from_failed q = rw (left z i within, q)

    pub from_more : (r u : ℕ) → taken limit (n - i) s ≡ some (r, u) → draws_from limit n (z - i) i s ≡ onto (i + r % (n - i)) (draws_from limit n (z - (i + 1)) (i + 1) u)
    unfolding draws_from
    from_more r u q = rw (left z i within, q, add-one i)

  pub from_end : z ≤ i → draws_from limit n (z - i) i s ≡ drawn []
  unfolding draws_from
  from_end h = let e : z - i ≡ 0 = omega arith in rw e

-- a draw that is made fails nowhere
pub failed-onto : (z d : ℕ) (o : Outcome) → first_failed z (onto d o) ≡ first_failed z o
unfolding onto
failed-onto z d (drawn ds) = refl
failed-onto z d (failed i) = refl

not-drawn : (i : ℕ) (ds : List ℕ) → failed i ≡ drawn ds → ⊥
not-drawn i ds q = let z : ◌≡◌ {A = ℕ} 0 1 = cc in omega arith

onto-drawn : (d : ℕ) (o : Outcome) (ds : List ℕ) → onto d o ≡ drawn ds → (es : List ℕ) × (o ≡ drawn es) × (d ∷ es ≡ ds)
unfolding onto
onto-drawn d (drawn es) ds q = (es, refl, cc)
onto-drawn d (failed i) ds q = absurd (not-drawn i ds q)

-- ---- the draws that are written

-- the first i places of the output hold the first i of the draws of o, and the state s is where the others begin
pub record Written (limit n z : ℕ) (o : Outcome) (out₀ : List ℕ) (i s : ℕ) (out : List ℕ) : Type 0 where
  pub front : List ℕ
  pub rest : List ℕ
  pub all : o ≡ drawn (front ++ rest)
  pub ahead : draws_from limit n (z - i) i s ≡ drawn rest
  pub long : length front ≡ i
  pub holds : out ≡ front ++ drop (length front) out₀

module _ (limit n z : ℕ) (o : Outcome) (out₀ : List ℕ) where
  pub written_first : (s : ℕ) → o ≡ draws_from limit n z 0 s → AllMade o → Written limit n z o out₀ 0 s out₀
  written_first s q (ds, e) = record { front = []; rest = ds; all = e; ahead = rw sub-zero (sym q ∙ e); long = refl; holds = refl }

  module _ (i s : ℕ) (out : List ℕ) (w : Written limit n z o out₀ i s out) where
    -- so that draw i is made
    pub written_made : (t : Choice Draw) → i < z → taken_of t ≡ taken limit (n - i) s → IsSome t
    written_made None lt q = absurd (not-drawn i w.rest (sym (from_failed limit n z i s lt (sym q)) ∙ w.ahead))
    written_made (Some d) lt q = refl

    pub written_more : (t : Draw) → i < z → z ≤ length out₀ → some (t.raw, t.state) ≡ taken limit (n - i) s → Written limit n z o out₀ (i + 1) t.state (set out i (i + t.raw % (n - i)))
    written_more t lt room q =
        let d = i + t.raw % (n - i) in
        let (es, a, c) = onto-drawn d _ w.rest (sym (from_more limit n z i s lt t.raw t.state (sym q)) ∙ w.ahead) in
        record {
          front = w.front ++ d ∷ [];
          rest = es;
          all = w.all ∙ ap (λ l. drawn (w.front ++ l)) (sym c) ∙ ap drawn (sym (append_assoc w.front (d ∷ []) es));
          ahead = a;
          long = rw length-append (omega (arith, w.long));
          holds = ap (λ l. set l i d) w.holds ∙ ap (λ k. set (w.front ++ drop (length w.front) out₀) k d) (sym w.long) ∙ front_put w.front out₀ d (omega (arith, w.long));
        }

    pub written_all : z ≤ i → o ≡ drawn w.front
    written_all h = w.all ∙ ap drawn (ap (λ l. w.front ++ l) (nothing w.rest (sym (from_end limit n z i s h) ∙ w.ahead)) ∙ append-nil w.front)
      where
        nothing : (rest : List ℕ) → drawn [] ≡ drawn rest → rest ≡ []
        nothing rest e = cc

-- ---- the call

module _ (n z seed limit : ℕ) (out : List ℕ) where
  pub refused_output : (k p : ℕ) → draws n z seed limit out ≡ refused k p → draws_output n z seed limit out ≡ out
  unfolding draws_output output_after
  refused_output k p q = rw q

  module _ (a : z ≤ length out) (b : z ≤ n) where
    pub failed_refused : first_failed z (outcome n z seed limit) < z → draws n z seed limit out ≡ refused 19 (first_failed z (outcome n z seed limit))
    failed_refused = rw (draws_is n z seed limit out a b) (go (outcome n z seed limit))
      where
        go : (o : Outcome) → first_failed z o < z → said o ≡ refused 19 (first_failed z o)
        go (drawn ds) h = absurd (omega arith)
        go (failed i) h = unfold said in refl

    pub all_made : z ≤ first_failed z (outcome n z seed limit) → AllMade (outcome n z seed limit)
    unfolding said
    all_made h = go (outcome n z seed limit) refl
      where
        go : (o : Outcome) → outcome n z seed limit ≡ o → AllMade (outcome n z seed limit)
        go (drawn ds) q = (ds, q)
        go (failed i) q = let lt = (((draws_owed n z seed limit out).nineteen a b i).0 (draws_is n z seed limit out a b ∙ ap said q)).0 in absurd (omega (arith, rw q at h))
