-- The draws of a seed owe what their request says.
-- Why: a draw is i plus a number below n − i, made where the one before left the state; the first that is not made ends the list. Assumes nothing.
use mathlib.Core.Path.{◌≡◌, refl, ap, ◌∙◌}
use mathlib.Core.Logic.{◌⊎◌, inl, inr, ⊎_elim}
use mathlib.Core.List.{List, [], ◌∷◌, ◌++◌}
use mathlib.Core.Option.{none, some}
use Prim.Native.Nat.{ℕ, zero, suc, ◌+◌, ◌-◌, ◌%◌, ◌^◌, ◌≤◌, ◌<◌}
use native.Mathlib.Omega.{arith}
use native.Mathlib.Nat.{zero-add, add-zero, mod-lt}
use lib.ListN.{length, drop}
use lib.Seq.{take_at}
use lib.Dec.{ltb}
use borrow.Author.Tests.{ltb-true, ltb-false, lt-ltb, le-ltb}
use Rattle.lists.proofs.Tests.{case}
use Rattle.automaton.specs.Shuffle.{Valid}
use Rattle.promises.specs.Answer.{served, refused, Served}
use Rattle.promises.specs.Calls.{output_after}
use Rattle.promises.specs.Demand3.{Calls, Whole}
use Rattle.promises.specs.Shapes.{Shaped}
use Rattle.promises.specs.SplitMix.{next_state, raw, advance, raws, mix, mix_first, mix_second, mix_third, Vectors}
use Rattle.promises.specs.Draws.{thrown_away, taken, Outcome, drawn, failed, onto, draws_from, outcome, said, made, draws, draws_output, draw_list, TakenAt, AllThrown, Chain, DrawsOwed, CompleteFromSeed, DrawsExamples}
use Rattle.promises.proofs.Answers.{valid_places}
use Rattle.promises.proofs.Buffers.{refused-serves, unless-served, output_left}
use Rattle.promises.proofs.Shapes.{checked}

pub vectors : Vectors
unfolding raws raw mix mix_first mix_second mix_third next_state
vectors = record { seed_1234567 = refl }

pub draws_examples : DrawsExamples
unfolding draws_output draws outcome draws_from taken thrown_away onto said made output_after raw mix mix_first mix_second mix_third next_state
draws_examples = record { five = refl; half_thrown = refl; third_fails = refl; first_fails = refl }

said-shaped : (o : Outcome) → Shaped 0 (said o)
unfolding said Shaped
said-shaped (drawn ds) = refl
said-shaped (failed i) = λ e. omega arith

-- ---- one draw

taken_none : (limit w s : ℕ) → AllThrown limit w s → taken limit w s ≡ none
unfolding taken thrown_away AllThrown advance
taken_none zero w s h = refl
taken_none (suc limit) w s h = rw (lt-ltb (raw s) (2 ^ 64 % w) (h 0 (omega arith))) (taken_none limit w (next_state s) (λ m l. h (suc m) (omega arith)))

taken-some : (limit w s r k : ℕ) → TakenAt limit w s r k → taken limit w s ≡ some (r, advance (suc k) s)
unfolding taken thrown_away advance
taken-some zero w s r k t = absurd (omega (arith, t.within))
taken-some (suc limit) w s r zero t = rw (le-ltb (raw s) (2 ^ 64 % w) (rw t.is t.kept)) (ap (λ x. some (x, next_state s)) t.is)
taken-some (suc limit) w s r (suc k) t =
    rw (lt-ltb (raw s) (2 ^ 64 % w) (t.thrown 0 (omega arith)))
    (taken-some limit w (next_state s) r k (record { within = omega (arith, t.within); is = t.is; kept = t.kept; thrown = λ m l. t.thrown (suc m) (omega arith) }))

taken-or-thrown : (limit w s : ℕ) → AllThrown limit w s ⊎ ((r : ℕ) × (k : ℕ) × TakenAt limit w s r k)
unfolding AllThrown advance
taken-or-thrown zero w s = inl (λ m l. absurd (omega arith))
taken-or-thrown (suc limit) w s =
    case (ltb (raw s) (2 ^ 64 % w))
    (λ t. let first = ltb-true (raw s) (2 ^ 64 % w) t in ⊎_elim (λ h. inl (all first limit h)) (λ (r, k, u). inr (r, suc k, later first r k u)) (taken-or-thrown limit w (next_state s)))
    (λ t. inr (raw s, 0, record { within = omega arith; is = refl; kept = ltb-false (raw s) (2 ^ 64 % w) t; thrown = λ m l. absurd (omega arith) }))
  where
    all : raw s < 2 ^ 64 % w → (b : ℕ) → ((m : ℕ) → m < b → raw (advance m (next_state s)) < 2 ^ 64 % w) → (m : ℕ) → m < suc b → raw (advance m s) < 2 ^ 64 % w
    all a b h zero l = a
    all a b h (suc m) l = h m (omega arith)

    later : raw s < 2 ^ 64 % w → (r k : ℕ) → TakenAt limit w (next_state s) r k → TakenAt (suc limit) w s r (suc k)
    later a r k t = record { within = omega (arith, t.within); is = t.is; kept = t.kept; thrown = all a k t.thrown }

-- ---- all draws

module _ (limit n : ℕ) where
  -- as many draws as are wanted, or those before the first that is not made
  abbrev Made : ℕ → ℕ → ℕ → Type 0
  Made z i s = (ds : List ℕ) × (u : ℕ) × (length ds ≡ z) × Chain limit n i s ds u

  abbrev Stuck : ℕ → ℕ → ℕ → Type 0
  Stuck z i s = (ds : List ℕ) × (u : ℕ) × (length ds < z) × Chain limit n i s ds u × AllThrown limit (n - (i + length ds)) u

  chain_drawn : (z i s : ℕ) (ds : List ℕ) (u : ℕ) → Chain limit n i s ds u → length ds ≡ z → draws_from limit n z i s ≡ drawn ds
  unfolding Chain draws_from onto
  chain_drawn zero i s [] u c l = refl
  chain_drawn zero i s (d ∷ ds) u c l = absurd (omega arith)
  chain_drawn (suc z) i s [] u c l = absurd (omega arith)
  chain_drawn (suc z) i s (d ∷ ds) u (r, k, t, q, c) l = rw (taken-some limit (n - i) s r k t, chain_drawn z (suc i) (advance (suc k) s) ds u c (omega arith), q)

  chain_failed : (z i s : ℕ) (ds : List ℕ) (u : ℕ) → Chain limit n i s ds u → length ds < z → AllThrown limit (n - (i + length ds)) u → draws_from limit n z i s ≡ failed (i + length ds)
  unfolding Chain draws_from onto
  chain_failed zero i s ds u c l a = absurd (omega arith)
  chain_failed (suc z) i s [] u c l a = let b : AllThrown limit (n - i) s = rw (add-zero, ← c) at a in rw (taken_none limit (n - i) s b, add-zero)
  chain_failed (suc z) i s (d ∷ ds) u (r, k, t, q, c) l a =
      let on : i + suc (length ds) ≡ suc i + length ds = omega arith in
      rw (taken-some limit (n - i) s r k t, on) (ap (onto (i + r % (n - i))) (chain_failed z (suc i) (advance (suc k) s) ds u c (omega arith) (rw on at a)))

  made_or_stuck : (z i s : ℕ) → Made z i s ⊎ Stuck z i s
  unfolding Chain
  made_or_stuck zero i s = inl ([], s, refl, refl)
  made_or_stuck (suc z) i s =
      ⊎_elim
      (λ a. inr ([], s, omega arith, refl, rw add-zero a))
      (λ (r, k, t). let d = i + r % (n - i) in
      ⊎_elim (λ (ds, u, l, c). inl (d ∷ ds, u, ap suc l, (r, k, t, refl, c))) (λ (ds, u, l, c, a). inr (d ∷ ds, u, omega arith, (r, k, t, refl, c), thrown_on ds u a)) (made_or_stuck z (suc i) (advance (suc k) s)))
      (taken-or-thrown limit (n - i) s)
    where
      thrown_on : (ds : List ℕ) (u : ℕ) → AllThrown limit (n - (suc i + length ds)) u → AllThrown limit (n - (i + suc (length ds))) u
      thrown_on ds u a = let on : i + suc (length ds) ≡ suc i + length ds = omega arith in rw on a

  -- a draw is from i to n - 1
  chain_valid : (i s : ℕ) (ds : List ℕ) (u : ℕ) → Chain limit n i s ds u → i + length ds ≤ n → Valid n i ds
  unfolding Chain Valid
  chain_valid i s [] u c h = tt
  chain_valid i s (d ∷ ds) u (r, k, t, q, c) h = let b : r % (n - i) < n - i = mod-lt r (omega arith) in (omega arith, omega arith, chain_valid (suc i) (advance (suc k) s) ds u c (omega arith))

-- ---- the call

module _ (n z seed limit : ℕ) (out : List ℕ) where
  pub draws_is : z ≤ length out → z ≤ n → draws n z seed limit out ≡ said (outcome n z seed limit)
  unfolding draws
  draws_is a b = rw (le-ltb (length out) z a, le-ltb n z b)

  room : Served (draws n z seed limit out) → (z ≤ length out) × (z ≤ n)
  unfolding draws
  room s =
      let (q, s₁) = unless-served 12 0 (ltb (length out) z) _ s in
      (ltb-false (length out) z q, ltb-false n z (unless-served 15 n (ltb n z) _ s₁).0)

  -- where the draws are made they are what is written
  pub drawn_served : z ≤ length out → z ≤ n → (ds : List ℕ) → outcome n z seed limit ≡ drawn ds → (draws n z seed limit out ≡ served []) × (draws_output n z seed limit out ≡ ds ++ drop (length ds) out)
  unfolding said made draws_output output_after
  drawn_served a b ds q = let e = draws_is a b ∙ ap said q in (e, rw (e, q))

  made_served : z ≤ length out → z ≤ n → (ds : List ℕ) (u : ℕ) → length ds ≡ z → Chain limit n 0 seed ds u → (draws n z seed limit out ≡ served []) × (draw_list n z seed limit out ≡ ds)
  unfolding outcome draw_list
  made_served a b ds u l c = let (e, o) = drawn_served a b ds (chain_drawn limit n z 0 seed ds u c l) in (e, rw o (take_at ds _ z l))

  stuck_refused : z ≤ length out → z ≤ n → (ds : List ℕ) (u : ℕ) → length ds < z → Chain limit n 0 seed ds u → AllThrown limit (n - (0 + length ds)) u → draws n z seed limit out ≡ refused 19 (length ds)
  unfolding outcome said
  stuck_refused a b ds u l c t = draws_is a b ∙ ap said (chain_failed limit n z 0 seed ds u c l t) ∙ ap (refused 19) (zero-add (length ds))

  served_made : Served (draws n z seed limit out) → Made limit n z 0 seed
  served_made s =
      let (a, b) = room s in
      ⊎_elim (λ m. m) (λ (ds, u, l, c, t). absurd (refused-serves 19 (length ds) (rw (stuck_refused a b ds u l c t) at s))) (made_or_stuck limit n z 0 seed)

  refused_stuck : z ≤ length out → z ≤ n → (i : ℕ) → draws n z seed limit out ≡ refused 19 i → Made limit n z 0 seed ⊎ Stuck limit n z 0 seed
      → (i < z) × (ds : List ℕ) × (u : ℕ) × (length ds ≡ i) × Chain limit n 0 seed ds u × AllThrown limit (n - i) u
  unfolding Served
  refused_stuck a b i q (inl (ds, u, l, c)) = absurd (refused-serves 19 i ([], rw q at (made_served a b ds u l c).0))
  refused_stuck a b i q (inr (ds, u, l, c, t)) =
      let e = stuck_refused a b ds u l c t in
      let w : length ds ≡ i = cc in
      (omega arith, ds, u, w, c, rw (zero-add, w) at t)

  short_refused : length out < z → draws n z seed limit out ≡ refused 12 0
  unfolding draws
  short_refused h = rw (lt-ltb (length out) z h)

  many_refused : z ≤ length out → n < z → draws n z seed limit out ≡ refused 15 n
  unfolding draws
  many_refused a h = rw (le-ltb (length out) z a, lt-ltb n z h)

  never_drawn : limit ≡ 0 → 0 < z → z ≤ length out → z ≤ n → draws n z seed limit out ≡ refused 19 0
  unfolding Chain AllThrown
  never_drawn q p a b = stuck_refused a b [] seed p refl (λ m l. absurd (omega arith))

  pub draws_owed : DrawsOwed n z seed limit out
  unfolding Served
  draws_owed = record {
    just = λ a b. (
      λ s. let (ds, u, l, c) = served_made s in (ds, u, l, c, (made_served a b ds u l c).1),
      λ (ds, u, l, c, q). ([], (made_served a b ds u l c).0),
    );
    valid = λ s. let (ds, u, l, c) = served_made s in let (a, b) = room s in rw (made_served a b ds u l c).1 (l, valid_places n ds (chain_valid limit n 0 seed ds u c (omega arith)));
    twelve = short_refused;
    output_left = unfold draws_output in (output_left z (draws n z seed limit out) (made (outcome n z seed limit)) out (λ s. (long (served_made s), (room s).0)));
    fifteen = many_refused;
    nineteen = λ a b i. (
      λ q. refused_stuck a b i q (made_or_stuck limit n z 0 seed),
      λ (lt, ds, u, l, c, t). stuck_refused a b ds u (rw l lt) c (rw (zero-add, l) t) ∙ ap (refused 19) l,
    );
    limit_0 = never_drawn;
    shaped = unfold draws in (checked 0 12 0 (ltb (length out) z) _ (λ q e. omega arith) (checked 0 15 n (ltb n z) _ (λ q e. omega arith) (said-shaped (outcome n z seed limit))));
  }
    where
      long : Made limit n z 0 seed → length (made (outcome n z seed limit)) ≡ z
      long (ds, u, l, c) = unfold made outcome in (rw (chain_drawn limit n z 0 seed ds u c l) l)

-- ---- the shuffle

-- 'A shuffled list from a seed is complete as one from the stick was': it is one of the lists of valid draws that demand 3 speaks of
pub seed_complete : (C : Calls) (t : List ℕ) (h : ℕ) (L : List (List ℕ)) → Whole C t h L → CompleteFromSeed C t h L
unfolding CompleteFromSeed
seed_complete C t h L whole seed limit d scratch o cells out s ds q s8 s12 c8 c12 =
    let (l, v) = (draws_owed (length L) (length L) seed limit d).valid s in
    whole.complete ds scratch o cells out (record { valid = rw q v; scratch_room = s8; output_room = s12 }) (rw q l) c8 c12
