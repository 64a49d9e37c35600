-- A sheet, run on the bench, arrives at every scenario in list order, by loads, runs and saves that the request allows; and it runs as many events as
-- the sum of h less the loaded depth.
--   play b cs         == the machine after the commands cs
--   Kept g s b        == slot j holds the first j × g events of s, as far as s goes
-- Why: after a scenario each slot up to its end holds what it begins with, and the next one loads a slot whose events it shares. Assumes nothing.
use mathlib.Core.Path.{◌≡◌, refl, sym, ap, ap₂, ◌∙◌}
use mathlib.Core.Logic.{◌⊎◌, inl, inr, ◌≢◌, ⊎_elim}
use mathlib.Core.List.{List, [], ◌∷◌, ◌++◌, head-eq_of_cons-eq, tail-eq_of_cons-eq}
use mathlib.Core.Option.{none, some}
use Prim.Native.Nat.{ℕ, zero, suc, ◌+◌, ◌-◌, ◌*◌, ◌/◌, ◌%◌, ◌≤◌, ◌<◌, min}
use native.Mathlib.Omega.{arith}
use native.Mathlib.Nat.{zero-add, le_of_suc-le-suc, suc-mul, zero-mul, zero-div, le_of_mul-le-mul_right, lt_of_mul-lt-mul_right, div-mul-le_self, le-div_iff_mul-le, mul-div_cancel, mul-le-mul_right, mul-mod_left, mul-add-mod_self_right, mod-eq_of_lt}
use lib.ListN.{length, take, drop, length-take, length-drop, drop_of_length-le}
use lib.Seq.{take_all, take-add, drop-drop, length-take-le}
use lib.Dec.{eqb}
use borrow.Author.Tests.{eqb-true, eqb-false, eq-eqb, ne_eqb}
use Rattle.lists.specs.Lists.{pick, sum, tabulate, stack}
use Rattle.lists.proofs.Tests.{case, split}
use Rattle.lists.proofs.Sums.{sum_snoc}
use Rattle.promises.specs.Sheets.{Command, load, run, save, shared, slot_for, depth_for, tail, leg, legs, part, previous, sheet, events, Bench, step, arrivals, saves_next, Allowed, Proper, loads, Shares, Deepest}

-- ---- the start that two scenarios share

pub shared_left : (a b : List ℕ) → shared a b ≤ length a
unfolding shared
shared_left [] b = omega arith
shared_left (x ∷ a) [] = omega arith
shared_left (x ∷ a) (y ∷ b) = case (eqb x y) (λ p. rw p (omega (arith, shared_left a b))) (λ p. rw p (omega arith))

pub shared_right : (a b : List ℕ) → shared a b ≤ length b
unfolding shared
shared_right [] b = omega arith
shared_right (x ∷ a) [] = omega arith
shared_right (x ∷ a) (y ∷ b) = case (eqb x y) (λ p. rw p (omega (arith, shared_right a b))) (λ p. rw p (omega arith))

-- they begin alike up to there
shared-take : (n : ℕ) (a b : List ℕ) → n ≤ shared a b → take n a ≡ take n b
unfolding shared
shared-take zero a b h = refl
shared-take (suc n) [] b h = absurd (omega arith)
shared-take (suc n) (x ∷ a) [] h = absurd (omega arith)
shared-take (suc n) (x ∷ a) (y ∷ b) h =
    case (eqb x y)
    (λ p. let l : suc n ≤ suc (shared a b) = rw p at h in ap₂ ◌∷◌ (eqb-true x y p) (shared-take n a b (omega arith)))
    (λ p. let l = rw p at h in absurd (omega arith))

-- and no further
shared-most : (n : ℕ) (a b : List ℕ) → n ≤ length a → n ≤ length b → take n a ≡ take n b → n ≤ shared a b
unfolding shared
shared-most zero a b h k q = omega arith
shared-most (suc n) [] b h k q = absurd (omega arith)
shared-most (suc n) (x ∷ a) [] h k q = absurd (omega arith)
shared-most (suc n) (x ∷ a) (y ∷ b) h k q = rw (eq-eqb x y (head-eq_of_cons-eq q)) (omega (arith, shared-most n a b (omega arith) (omega arith) (tail-eq_of_cons-eq q)))

-- ---- commands one after the other

play : Bench → List Command → Bench
play b [] = b
play b (c ∷ cs) = play (step b c) cs

play_append : (b : Bench) (cs ds : List Command) → play b (cs ++ ds) ≡ play (play b cs) ds
unfolding play
play_append b [] ds = refl
play_append b (c ∷ cs) ds = play_append (step b c) cs ds

arrivals-load : (b : Bench) (cs : List Command) (j : ℕ) (ds : List Command) → arrivals b (cs ++ load j ∷ ds) ≡ arrivals b cs ++ arrivals (step (play b cs) (load j)) ds
unfolding play arrivals
arrivals-load b [] j ds = refl
arrivals-load b (load i ∷ cs) j ds = ap (λ l. b.current ∷ l) (arrivals-load (step b (load i)) cs j ds)
arrivals-load b (run es ∷ cs) j ds = arrivals-load (step b (run es)) cs j ds
arrivals-load b (save i ∷ cs) j ds = arrivals-load (step b (save i)) cs j ds

saves_append : (cs ds : List Command) → saves_next ds ≡ none → saves_next (cs ++ ds) ≡ saves_next cs
unfolding saves_next
saves_append [] ds q = q
saves_append (load j ∷ cs) ds q = refl
saves_append (run es ∷ cs) ds q = refl
saves_append (save j ∷ cs) ds q = refl

loads-append : (cs ds : List Command) → loads (cs ++ ds) ≡ loads cs ++ loads ds
unfolding loads
loads-append [] ds = refl
loads-append (load j ∷ cs) ds = ap (λ l. j ∷ l) (loads-append cs ds)
loads-append (run es ∷ cs) ds = loads-append cs ds
loads-append (save j ∷ cs) ds = loads-append cs ds

pub events-append : (cs ds : List Command) → events (cs ++ ds) ≡ events cs + events ds
unfolding events
events-append [] ds = sym (zero-add (events ds))
events-append (load j ∷ cs) ds = events-append cs ds
events-append (run es ∷ cs) ds = omega (arith, events-append cs ds)
events-append (save j ∷ cs) ds = events-append cs ds

Kept : ℕ → List ℕ → Bench → Type 0
Kept g s b = (i : ℕ) → i * g ≤ length s → b.slot i ≡ take (i * g) s

module _ (g : ℕ) where
  allowed_append : (h : ℕ) (b : Bench) (c : Command) (cs ds : List Command) → saves_next ds ≡ none → Allowed g h b c cs → Allowed g h b c (cs ++ ds)
  unfolding Allowed
  allowed_append h b (load j) cs ds q p = (p.0, saves_append cs ds q ∙ p.1)
  allowed_append h b (run es) cs ds q p = (p.0, p.1, saves_append cs ds q ∙ p.2)
  allowed_append h b (save j) cs ds q p = (p.0, saves_append cs ds q ∙ p.1)

  proper_append : (h : ℕ) (b : Bench) (cs ds : List Command) → saves_next ds ≡ none → Proper g h b cs → Proper g h (play b cs) ds → Proper g h b (cs ++ ds)
  unfolding Proper play
  proper_append h b [] ds n p q = q
  proper_append h b (c ∷ cs) ds n p q = (allowed_append h b c cs ds n p.0, proper_append h (step b c) cs ds n p.1 q)

  -- ---- the legs of a scenario

  -- a leg up to the next depth, and one that ends before it
  module _ (f j e : ℕ) (r : List ℕ) where
    legs_more : g ≤ length (e ∷ r) → legs (suc f) g j (e ∷ r) ≡ run (take g (e ∷ r)) ∷ save (suc j) ∷ legs f g (suc j) (drop g (e ∷ r))
    unfolding legs leg
    legs_more h = rw (eq-eqb (length (take g (e ∷ r))) g (length-take-le g (e ∷ r) h))

    legs_last : length (e ∷ r) < g → legs (suc f) g j (e ∷ r) ≡ run (take g (e ∷ r)) ∷ []
    unfolding legs leg
    legs_last h =
        rw (ne_eqb (length (take g (e ∷ r))) g (λ q. omega (arith, length-take g (e ∷ r))), drop_of_length-le (e ∷ r) {i = g} (omega arith))
        (ap (λ l. run (take g (e ∷ r)) ∷ l) (none_left f))
      where
        none_left : (f : ℕ) → legs f g (suc j) [] ≡ []
        none_left zero = refl
        none_left (suc f) = refl

  legs_unsaved : (f j : ℕ) (rest : List ℕ) → saves_next (legs f g j rest) ≡ none
  unfolding legs leg saves_next
  legs_unsaved zero j rest = refl
  legs_unsaved (suc f) j [] = refl
  legs_unsaved (suc f) j (e ∷ r) = refl

  loads_legs : (f j : ℕ) (rest : List ℕ) → loads (legs f g j rest) ≡ []
  unfolding legs leg loads
  loads_legs zero j rest = refl
  loads_legs (suc f) j [] = refl
  loads_legs (suc f) j (e ∷ r) = case (eqb (length (take g (e ∷ r))) g) (λ t. rw t (loads_legs f (suc j) (drop g (e ∷ r)))) (λ t. rw t (loads_legs f (suc j) (drop g (e ∷ r))))

  module _ (ss : ℕ → List ℕ) where
    pub loads_sheet : (m : ℕ) → loads (sheet g ss m) ≡ tabulate (λ k. slot_for g (previous ss k) (ss k)) m
    unfolding sheet stack tabulate part loads
    loads_sheet zero = refl
    loads_sheet (suc m) =
        loads-append (sheet g ss m) (part g (previous ss m) (ss m))
        ∙ ap₂ (λ l r. l ++ slot_for g (previous ss m) (ss m) ∷ r) (loads_sheet m) (loads_legs (length (tail g (previous ss m) (ss m))) (slot_for g (previous ss m) (ss m)) (tail g (previous ss m) (ss m)))

    pub sheet_unsaved : (m : ℕ) → saves_next (sheet g ss m) ≡ none
    unfolding sheet stack
    sheet_unsaved zero = unfold saves_next in refl
    sheet_unsaved (suc m) = saves_append (sheet g ss m) (part g (previous ss m) (ss m)) (unfold part saves_next in refl) ∙ sheet_unsaved m

    -- 'the deepest such depth within the start it shares with the one before (slot 0 for the first)'
    pub first_slot : slot_for g (previous ss 0) (ss 0) ≡ 0
    unfolding slot_for previous shared
    first_slot = zero-div g

  module _ (pos : 0 < g) where
    module _ (s : List ℕ) where
      record Done (b : Bench) (cs : List Command) : Type 0 where
        arrived : (play b cs).current ≡ s
        kept : Kept g s (play b cs)
        proper : Proper g (length s) b cs
        alone : arrivals b cs ≡ (play b cs).current ∷ []

      -- where nothing is left
      finished : (j : ℕ) (b : Bench) → [] ≡ drop (j * g) s → j * g ≤ length s → b.current ≡ take (j * g) s → ((i : ℕ) → i ≤ j → b.slot i ≡ take (i * g) s) → Done b []
      unfolding play Proper Kept arrivals
      finished j b q le c k =
          let all : length s ≤ j * g = omega (arith, ap length q, length-drop (j * g) s) in record {
            arrived = c ∙ take_all (j * g) s all;
            kept = λ i h. k i (le_of_mul-le-mul_right {k = g} (omega arith) pos);
            proper = tt;
            alone = refl;
          }

      -- after a run the machine stands at the next depth
      ran : (j : ℕ) (rest : List ℕ) (b : Bench) → rest ≡ drop (j * g) s → b.current ≡ take (j * g) s → b.current ++ take g rest ≡ take (suc j * g) s
      ran j rest b q c = rw (c, q, suc-mul) (sym (take-add (j * g) g s))

      -- the leg from the depth of slot j on, where the machine stands
      module _ (j e : ℕ) (r : List ℕ) (b : Bench) (q : e ∷ r ≡ drop (j * g) s) (le : j * g ≤ length s) (c : b.current ≡ take (j * g) s) where
        left : suc (length r) ≡ length s - j * g
        left = ap length q ∙ length-drop (j * g) s

        run_allowed : (cs : List Command) → (g ≤ length (e ∷ r) → saves_next cs ≡ some (suc j)) → (length (e ∷ r) < g → saves_next cs ≡ none) → Allowed g (length s) b (run (take g (e ∷ r))) cs
        unfolding Allowed
        run_allowed cs more last = rw (here, long, mul-div_cancel j pos) (omega arith, omega (arith, left), save_next (split g (suc (length r))))
          where
            here : length b.current ≡ j * g
            here = ap length c ∙ length-take-le (j * g) s le

            long : length (take g (e ∷ r)) ≡ min g (suc (length r))
            long = length-take g (e ∷ r)

            save_next : (g ≤ suc (length r)) ⊎ (suc (length r) < g)
                → saves_next cs ≡ pick (eqb ((j * g + min g (suc (length r))) % g) 0) (some ((j * g + min g (suc (length r))) / g)) none
            save_next (inl h) =
                let whole : j * g + min g (suc (length r)) ≡ suc j * g = omega (arith, suc-mul j g) in
                rw (whole, eq-eqb (suc j * g % g) 0 (mul-mod_left (suc j) g), mul-div_cancel (suc j) pos) (more h)
            save_next (inr h) =
                let short : min g (suc (length r)) ≡ suc (length r) = omega arith in
                let some_left : (j * g + suc (length r)) % g ≡ suc (length r) = mul-add-mod_self_right j g (suc (length r)) ∙ mod-eq_of_lt h in
                rw (short, ne_eqb ((j * g + suc (length r)) % g) 0 (λ z. omega (arith, some_left))) (last h)

        module _ (k : (i : ℕ) → i ≤ j → b.slot i ≡ take (i * g) s) where
          last_done : length (e ∷ r) < g → Done b (run (take g (e ∷ r)) ∷ [])
          unfolding play step Proper Kept arrivals saves_next
          last_done h = record {
            arrived = ran j (e ∷ r) b q c ∙ take_all (suc j * g) s (omega (arith, left, suc-mul j g));
            kept = λ i m. k i (le_of_suc-le-suc (lt_of_mul-lt-mul_right g (omega (arith, left, suc-mul j g))));
            proper = (run_allowed [] (λ l. absurd (omega arith)) (λ l. refl), tt);
            alone = refl;
          }

          -- the machine after the run and its save
          next : Bench
          next = step (step b (run (take g (e ∷ r)))) (save (suc j))

          module _ (h : g ≤ length (e ∷ r)) where
            within : suc j * g ≤ length s
            within = omega (arith, left, suc-mul j g)

            stands : next.current ≡ take (suc j * g) s
            unfolding next step
            stands = ran j (e ∷ r) b q c

            slots : (i : ℕ) → i ≤ suc j → next.slot i ≡ take (i * g) s
            unfolding next step
            slots i m =
                case (eqb i (suc j))
                (λ t. rw t (rw (eqb-true i (suc j) t) (ran j (e ∷ r) b q c)))
                (λ t. rw t (k i (below (eqb-false i (suc j) t))))
              where
                below : i ≢ suc j → i ≤ j
                below n = omega arith

            more_done : (f : ℕ) → Done next (legs f g (suc j) (drop g (e ∷ r))) → Done b (run (take g (e ∷ r)) ∷ save (suc j) ∷ legs f g (suc j) (drop g (e ∷ r)))
            unfolding next play step Proper Allowed arrivals saves_next
            more_done f d = record {
              arrived = d.arrived;
              kept = d.kept;
              proper = (
                run_allowed (save (suc j) ∷ legs f g (suc j) (drop g (e ∷ r))) (λ l. refl) (λ l. absurd (omega arith)),
                ((ap length (ran j (e ∷ r) b q c) ∙ length-take-le (suc j * g) s within, legs_unsaved f (suc j) (drop g (e ∷ r))), d.proper),
              );
              alone = d.alone;
            }

      legs_done : (f j : ℕ) (rest : List ℕ) (b : Bench) → rest ≡ drop (j * g) s → length rest ≤ f → j * g ≤ length s → b.current ≡ take (j * g) s
          → ((i : ℕ) → i ≤ j → b.slot i ≡ take (i * g) s) → Done b (legs f g j rest)
      unfolding legs
      legs_done zero j [] b q few le c k = finished j b q le c k
      legs_done zero j (e ∷ r) b q few le c k = absurd (omega arith)
      legs_done (suc f) j [] b q few le c k = finished j b q le c k
      legs_done (suc f) j (e ∷ r) b q few le c k =
          ⊎_elim
          (λ h. rw (legs_more f j e r h)
          (more_done j e r b q le c k h f (legs_done f (suc j) (drop g (e ∷ r)) (next j e r b q le c k) (rw (q, suc-mul) (drop-drop g (j * g) s)) (rw length-drop (omega arith)) (within j e r b q le c k h) (stands j e r b q le c k h) (slots j e r b q le c k h))))
          (λ h. rw (legs_last f j e r h) (last_done j e r b q le c k h))
          (split g (length (e ∷ r)))

      -- the load, and the legs after it
      module _ (prev : List ℕ) where
        loaded_within : depth_for g prev s ≤ shared prev s
        unfolding depth_for slot_for
        loaded_within = div-mul-le_self (shared prev s) g

        pub loaded_short : depth_for g prev s ≤ length s
        loaded_short = omega (arith, loaded_within, shared_right prev s)

        loaded_long : (b : Bench) → Kept g prev b → length (b.slot (slot_for g prev s)) ≡ slot_for g prev s * g
        unfolding Kept depth_for
        loaded_long b k =
            let le : slot_for g prev s * g ≤ length prev = omega (arith, loaded_within, shared_left prev s) in
            ap length (k (slot_for g prev s) le) ∙ length-take-le (slot_for g prev s * g) prev le

        legs_after : (b : Bench) → Kept g prev b → Done (step b (load (slot_for g prev s))) (legs (length (tail g prev s)) g (slot_for g prev s) (tail g prev s))
        unfolding tail depth_for step Kept
        legs_after b k = legs_done (length (drop (j * g) s)) j (drop (j * g) s) (step b (load j)) refl (omega arith) loaded_short (slots_loaded j (omega arith)) slots_loaded
          where
            j : ℕ
            j = slot_for g prev s

            slots_loaded : (i : ℕ) → i ≤ j → b.slot i ≡ take (i * g) s
            slots_loaded i m =
                let up : i * g ≤ j * g = mul-le-mul_right g m in
                k i (omega (arith, loaded_within, shared_left prev s)) ∙ shared-take (i * g) prev s (omega (arith, loaded_within))

    -- ---- the whole sheet

    events_legs : (f j : ℕ) (rest : List ℕ) → length rest ≤ f → events (legs f g j rest) ≡ length rest
    unfolding legs leg events
    events_legs zero j [] few = refl
    events_legs zero j (e ∷ r) few = absurd (omega arith)
    events_legs (suc f) j [] few = refl
    events_legs (suc f) j (e ∷ r) few =
        let rest = events_legs f (suc j) (drop g (e ∷ r)) (rw length-drop (omega arith)) in
        case (eqb (length (take g (e ∷ r))) g)
        (λ t. rw t (omega (arith, rest, length-drop g (e ∷ r), length-take g (e ∷ r))))
        (λ t. rw t (omega (arith, rest, length-drop g (e ∷ r), length-take g (e ∷ r))))

    -- 'h less the loaded depth'
    pub events_part : (prev s : List ℕ) → events (part g prev s) ≡ length (tail g prev s)
    unfolding part events
    events_part prev s = events_legs (length (tail g prev s)) (slot_for g prev s) (tail g prev s) (omega arith)

    -- slot 0 holds the start, and of the others nothing is asked
    begun : (b : Bench) → b.slot 0 ≡ [] → Kept g [] b
    unfolding Kept
    begun b z zero h = rw zero-mul z
    begun b z (suc i) h = absurd (omega (arith, suc-mul i g))

    module _ (ss : ℕ → List ℕ) (h : ℕ) where
      -- 'the total equals the sum of h less the loaded depth over all scenarios'
      pub events_sheet : (m : ℕ) → ((k : ℕ) → k < m → length (ss k) ≡ h) → events (sheet g ss m) ≡ sum (λ j. h - j * g) (tabulate (λ k. slot_for g (previous ss k) (ss k)) m)
      unfolding sheet stack tabulate events
      events_sheet zero long = refl
      events_sheet (suc m) long =
          events-append (sheet g ss m) (part g (previous ss m) (ss m))
          ∙ ap₂ ◌+◌ (events_sheet m (λ k l. long k (omega arith))) (events_part (previous ss m) (ss m) ∙ one)
          ∙ sym (sum_snoc (λ j. h - j * g) (tabulate (λ k. slot_for g (previous ss k) (ss k)) m) (slot_for g (previous ss m) (ss m)))
        where
          one : length (tail g (previous ss m) (ss m)) ≡ h - slot_for g (previous ss m) (ss m) * g
          one = unfold tail depth_for in (length-drop (slot_for g (previous ss m) (ss m) * g) (ss m) ∙ ap (λ n. n - slot_for g (previous ss m) (ss m) * g) (long m (omega arith)))

      module _ (b : Bench) (z : b.slot 0 ≡ []) where
        record Driven (m : ℕ) : Type 0 where
          arrived : arrivals b (sheet g ss m) ≡ b.current ∷ tabulate ss m
          kept : Kept g (previous ss m) (play b (sheet g ss m))
          proper : Proper g h b (sheet g ss m)

        -- one scenario more
        driven_more : (m : ℕ) → length (ss m) ≡ h → Driven m → Driven (suc m)
        unfolding sheet stack tabulate previous part play arrivals Proper Allowed saves_next
        driven_more m long d =
            let done = legs_after (ss m) (previous ss m) (play b (sheet g ss m)) d.kept in
            let j = slot_for g (previous ss m) (ss m) in
            let rest = legs (length (tail g (previous ss m) (ss m))) g j (tail g (previous ss m) (ss m)) in
            record {
              arrived = arrivals-load b (sheet g ss m) j rest ∙ ap₂ ◌++◌ d.arrived (done.alone ∙ ap (λ s. s ∷ []) done.arrived);
              kept = rw (play_append b (sheet g ss m) (load j ∷ rest)) done.kept;
              proper = proper_append h b (sheet g ss m) (load j ∷ rest) refl d.proper ((loaded_long (ss m) (previous ss m) (play b (sheet g ss m)) d.kept, legs_unsaved (length (tail g (previous ss m) (ss m))) j (tail g (previous ss m) (ss m))), rw long at done.proper);
            }

        driven : (m : ℕ) → ((k : ℕ) → k < m → length (ss k) ≡ h) → Driven m
        unfolding sheet stack tabulate previous
        driven zero long = record { arrived = unfold arrivals in refl; kept = unfold play in (begun b z); proper = unfold Proper in tt }
        driven (suc m) long = driven_more m (long m (omega arith)) (driven m (λ k l. long k (omega arith)))

        module _ (m : ℕ) (long : (k : ℕ) → k < m → length (ss k) ≡ h) where
          pub sheet_arrives : arrivals b (sheet g ss m) ≡ b.current ∷ tabulate ss m
          sheet_arrives = (driven m long).arrived

          pub sheet_proper : Proper g h b (sheet g ss m)
          sheet_proper = (driven m long).proper

    pub slot_deepest : (prev s : List ℕ) → Deepest g prev s (slot_for g prev s)
    unfolding Deepest Shares slot_for
    slot_deepest prev s =
        let le = div-mul-le_self (shared prev s) g in (
          (omega (arith, le, shared_left prev s), omega (arith, le, shared_right prev s), shared-take (shared prev s / g * g) prev s le),
          λ i (a, b, q). (le-div_iff_mul-le pos).1 (shared-most (i * g) prev s a b q),
        )
