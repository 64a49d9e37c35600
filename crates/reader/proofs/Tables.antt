-- The part of the tables that is one monitor's, with one line more of this monitor or of another. Assumes nothing.
--   Same mv sp mv' sp' k == part k of the tables mv' and sp' is that of mv and sp
use mathlib.Core.Path.{◌≡◌, refl, sym, ap, ap₂, ◌∙◌, subst}
use mathlib.Core.Bool.{Bool, true, false, not, ◌&&◌, ◌||◌, or-false}
use mathlib.Core.List.{List, [], ◌∷◌, ◌++◌}
use mathlib.Core.Option.{Option, none, some, or_else, get_or}
use Prim.Native.Nat.{ℕ, suc, ◌%◌, ◌≤◌, ◌<◌}
use native.Mathlib.Nat.{mod-lt}
use native.Mathlib.Omega.{arith}
use lib.IntN.{ℤ, pos}
use lib.ListN.{length, set}
use lib.Seq.{get_or-set_same, get_or-set_other}
use lib.Dec.{eqb, leb, ltb}
use borrow.Author.Tests.{eq-eqb, ne_eqb, eqb-true, eqb-false, lt-ltb, le-ltb}
use Rattle.lists.specs.Lists.{pick, is_some}
use Rattle.lists.proofs.Firsts.{or-none, first_snoc}
use Rattle.lists.proofs.Members.{any_snoc}
use Rattle.lists.proofs.Tests.{contra, case, and_left, and_right, or_right}
use Rattle.lists.proofs.Tells.{tells_false}
use Rattle.promises.specs.Text.{Kind, mon, bal, day, Part, go, stop, amp, opens, states_of}
use Rattle.promises.specs.Meaning.{step_in, step_by, step_of, HasHours, InHours}
use Rattle.promises.specs.Reading.{leads_to, move_by, marks, marked_by, opens_by, has_hours, in_hours}
use Rattle.promises.specs.Rig.{bal_next, day_next, admitted_at, next_of, marked_of}
use Rattle.promises.proofs.Day.{tells_has, tells_in}
use Rattle.rig.specs.Record.{move_index, move_at, stop_index, stop_at}
use Rattle.kinds.specs.Kinds.{entry_of, with_step, hour_of, with_hours}
use Rattle.kinds.proofs.Tables.{Blank, OfKind, own_step, column_beside, column_at}

-- ---- the other monitors

pub record Same (mv sp mv' sp' : List ℕ) (k : ℕ) : Type 0 where
  pub moves : (x y : ℕ) → x < 32 → y < 16 → move_at mv' k x y ≡ move_at mv k x y
  pub stops : (x : ℕ) → x < 32 → stop_at sp' k x ≡ stop_at sp k x

module _ (mv sp mv' sp' : List ℕ) (k : ℕ) (same : Same mv sp mv' sp' k) where
  pub same_blank : Blank mv sp k → Blank mv' sp' k
  same_blank b = record { no_move = λ x y hx hy. same.moves x y hx hy ∙ b.no_move x y hx hy; no_mark = λ x hx. same.stops x hx ∙ b.no_mark x hx }

  pub same_kind : (E : ℕ) (kind : Kind) (ps : List Part) → E ≤ 16 → states_of kind ≤ 32 → OfKind mv sp k E kind ps → OfKind mv' sp' k E kind ps
  same_kind E kind ps few_e few T = record {
    moves = λ x y hx hy. same.moves x y (omega arith) (omega arith) ∙ T.moves x y hx hy;
    marks = λ x hx. same.stops x (omega arith) ∙ T.marks x hx;
  }

-- a `go`, a `stop`, an `amp` and an `open` line of another monitor
pub go_beside : (mv sp : List ℕ) (k m s e t : ℕ) → (k ≡ m → ⊥) → s < 32 → e < 16 → Same mv sp (set mv (move_index m s e) t) sp k
go_beside mv sp k m s e t ne hs he = record { moves = λ x y hx hy. get_or-set_other mv (move_index m s e) (move_index k x y) t 0 (λ q. ne (omega arith)); stops = λ x hx. refl }

pub stop_beside : (mv sp : List ℕ) (k m s : ℕ) → (k ≡ m → ⊥) → s < 32 → Same mv sp mv (set sp (stop_index m s) 1) k
stop_beside mv sp k m s ne hs = record { moves = λ x y hx hy. refl; stops = λ x hx. get_or-set_other sp (stop_index m s) (stop_index k x) 1 0 (λ q. ne (omega arith)) }

pub amp_beside : (mv sp : List ℕ) (i m e : ℕ) (k : Kind) (d : ℤ) → (i ≡ m → ⊥) → states_of k ≤ 32 → e < 16 → Same mv sp (with_step mv m k e d) sp i
amp_beside mv sp i m e k d ne few he = record { moves = λ x y hx hy. column_beside mv m e _ (states_of k) i x y few he hx hy (λ q. absurd (ne q)); stops = λ x hx. refl }

pub open_beside : (mv sp : List ℕ) (i m T e a b : ℕ) (first : Bool) → (i ≡ m → ⊥) → T ≤ 32 → e < 16 → Same mv sp (with_hours mv m T e a b first) sp i
open_beside mv sp i m T e a b first ne few he = record { moves = λ x y hx hy. column_beside mv m e _ T i x y few he hx hy (λ q. absurd (ne q)); stops = λ x hx. refl }

-- ---- a `mon`

module _ (mv sp : List ℕ) (k E S a : ℕ) (ps : List Part) (T : OfKind mv sp k E (mon S a) ps) (few : S ≤ 32) where
  -- its entry for s and e, by what the lines move to
  entry_is : (s e : ℕ) → s < S → e < E → move_at mv k s e ≡ entry_of S (get_or (move_by ps s e) S)
  entry_is s e hs he = unfold next_of in T.moves s e (unfold states_of in hs) he ∙ (unfold states_of in refl)

  -- 's and e again' is seen in the table, as no state is 255
  pub seen : ((s e u : ℕ) → move_by ps s e ≡ some u → u < S) → (s e : ℕ) → s < S → e < E → is_some (move_by ps s e) ≡ not (eqb (move_at mv k s e) 255)
  seen within s e hs he = rw (entry_is s e hs he) (step (move_by ps s e) refl)
    where
      step : (o : Option ℕ) → move_by ps s e ≡ o → is_some (move_by ps s e) ≡ not (eqb (entry_of S (get_or (move_by ps s e) S)) 255)
      step none q = rw (q, le-ltb S S (omega arith))
      step (some u) q = let w = within s e u q in rw (q, lt-ltb u S w, ne_eqb u 255 (λ z. omega arith))

  -- a state marked twice is seen in the list
  pub seen_mark : (s : ℕ) → s < S → marked_by ps s ≡ not (eqb (stop_at sp k s) 0)
  seen_mark s h = unfold marked_of in rw (T.marks s (unfold states_of in h)) (told (marked_by ps s))
    where
      told : (b : Bool) → b ≡ not (eqb (pick b 1 0) 0)
      told true = refl
      told false = refl

  -- a new `go` line
  module _ (s e t : ℕ) (hk : k < 4) (long : length mv ≡ 2048) (few_e : E ≤ 16) (hs : s < S) (he : e < E) (ht : t < S)
      (within : (s e u : ℕ) → move_by ps s e ≡ some u → u < S) (free : move_at mv k s e ≡ 255) where
    unmoved : move_by ps s e ≡ none
    unmoved = step (move_by ps s e) refl
      where
        step : (o : Option ℕ) → move_by ps s e ≡ o → move_by ps s e ≡ none
        step none q = q
        step (some u) q =
            let w = within s e u q in
            let v : move_at mv k s e ≡ u = entry_is s e hs he ∙ rw (q, lt-ltb u S w) in
            absurd (omega arith)

    moves_here : move_by (ps ++ (go s e t ∷ [])) s e ≡ some t
    unfolding leads_to or_else
    moves_here = rw (first_snoc (leads_to s e) ps (go s e t), unmoved, eq-eqb s s refl, eq-eqb e e refl)

    moves_elsewhere : (x y : ℕ) → (eqb s x && eqb e y) ≡ false → move_by (ps ++ (go s e t ∷ [])) x y ≡ move_by ps x y
    unfolding leads_to or_else
    moves_elsewhere x y q = rw (first_snoc (leads_to x y) ps (go s e t), q) (or-none (move_by ps x y))

    elsewhere : (x y : ℕ) → x < 32 → y < 16 → (eqb s x && eqb e y) ≡ false → move_at (set mv (move_index k s e) t) k x y ≡ move_at mv k x y
    elsewhere x y hx hy q = get_or-set_other mv (move_index k s e) (move_index k x y) t 0 (λ p. contra (both p) q)
      where
        both : move_index k x y ≡ move_index k s e → (eqb s x && eqb e y) ≡ true
        both p = ap₂ ◌&&◌ (eq-eqb s x (omega arith)) (eq-eqb e y (omega arith))

    marks_same : (x : ℕ) → marked_by (ps ++ (go s e t ∷ [])) x ≡ marked_by ps x
    unfolding marks
    marks_same x = any_snoc (marks x) ps (go s e t) ∙ or-false (marked_by ps x)

    pub with_go : OfKind (set mv (move_index k s e) t) sp k E (mon S a) (ps ++ (go s e t ∷ []))
    unfolding next_of marked_of states_of
    with_go = record {
      moves = λ x y hx hy. case (eqb s x && eqb e y) (λ q. here x y (eqb-true s x (and_left (eqb s x) (eqb e y) q)) (eqb-true e y (and_right (eqb s x) (eqb e y) q)))
          (λ q. elsewhere x y (omega arith) (omega arith) q ∙ entry_is x y hx hy ∙ ap (λ o. entry_of S (get_or o S)) (sym (moves_elsewhere x y q)));
      marks = λ x hx. T.marks x hx ∙ ap (λ b. pick b 1 0) (sym (marks_same x));
    }
      where
        here : (x y : ℕ) → s ≡ x → e ≡ y → move_at (set mv (move_index k s e) t) k x y ≡ entry_of S (get_or (move_by (ps ++ (go s e t ∷ [])) x y) S)
        here x y p q = rw (← p, ← q, moves_here, lt-ltb t S ht) (get_or-set_same mv (move_index k s e) t 0 (omega arith))

  -- a new `stop` line
  module _ (s : ℕ) (hk : k < 4) (wide : length sp ≡ 128) (hs : s < S) where
    moves_same : (x y : ℕ) → move_by (ps ++ (stop s ∷ [])) x y ≡ move_by ps x y
    unfolding leads_to
    moves_same x y = first_snoc (leads_to x y) ps (stop s) ∙ or-none (move_by ps x y)

    marked_here : marked_by (ps ++ (stop s ∷ [])) s ≡ true
    unfolding marks
    marked_here = rw (any_snoc (marks s) ps (stop s), eq-eqb s s refl) (or_right (marked_by ps s) refl)

    marked_elsewhere : (x : ℕ) → eqb s x ≡ false → marked_by (ps ++ (stop s ∷ [])) x ≡ marked_by ps x
    unfolding marks
    marked_elsewhere x q = rw (any_snoc (marks x) ps (stop s), q) (or-false (marked_by ps x))

    pub with_stop : OfKind mv (set sp (stop_index k s) 1) k E (mon S a) (ps ++ (stop s ∷ []))
    unfolding next_of marked_of states_of
    with_stop = record {
      moves = λ x y hx hy. T.moves x y hx hy ∙ ap (λ o. entry_of S (get_or o S)) (sym (moves_same x y));
      marks = λ x hx. case (eqb s x) (λ q. subst (λ x. stop_at (set sp (stop_index k s) 1) k x ≡ pick (marked_by (ps ++ (stop s ∷ [])) x) 1 0) (eqb-true s x q)
          (get_or-set_same sp (stop_index k s) 1 0 (omega arith) ∙ ap (λ b. pick b 1 0) (sym marked_here)))
          (λ q. get_or-set_other sp (stop_index k s) (stop_index k x) 1 0 (λ p. eqb-false s x q (omega arith)) ∙ T.marks x hx ∙ ap (λ b. pick b 1 0) (sym (marked_elsewhere x q)));
    }

-- ---- a `bal`

-- a new `amp` line: the moves on its event are written over, those on the others are as they were
module _ (mv sp : List ℕ) (k E : ℕ) (lo hi : ℤ) (ps : List Part) (T : OfKind mv sp k E (bal lo hi) ps) (few : states_of (bal lo hi) ≤ 32)
    (e : ℕ) (d : ℤ) (hk : k < 4) (long : length mv ≡ 2048) (few_e : E ≤ 16) (he : e < E) (new : step_by ps e ≡ none) where
  step_here : step_of (ps ++ (amp e d ∷ [])) e ≡ d
  unfolding step_of step_in or_else
  step_here = rw (first_snoc (step_in e) ps (amp e d), new, eq-eqb e e refl)

  step_elsewhere : (u : ℕ) → eqb e u ≡ false → step_of (ps ++ (amp e d ∷ [])) u ≡ step_of ps u
  unfolding step_of step_in
  step_elsewhere u q = rw (first_snoc (step_in u) ps (amp e d), q) (ap (λ o. get_or o (pos 0)) (or-none (step_by ps u)))

  abbrev entry : ℕ → ℤ → ℕ
  entry x c = entry_of (states_of (bal lo hi)) (bal_next lo hi c x)

  pub with_amp : OfKind (with_step mv k (bal lo hi) e d) sp k E (bal lo hi) (ps ++ (amp e d ∷ []))
  unfolding next_of marked_of
  with_amp = record { moves = λ x y hx hy. case (eqb e y) (λ q. here x y hx (eqb-true e y q)) (λ q. elsewhere x y hx hy q); marks = T.marks }
    where
      here : (x y : ℕ) → x < states_of (bal lo hi) → e ≡ y → move_at (with_step mv k (bal lo hi) e d) k x y ≡ entry x (step_of (ps ++ (amp e d ∷ [])) y)
      here x y hx q = rw (← q, step_here) (column_at mv k e _ (states_of (bal lo hi)) x few hk (omega arith) long hx ∙ ap (entry_of (states_of (bal lo hi))) (own_step lo hi d e x))

      elsewhere : (x y : ℕ) → x < states_of (bal lo hi) → y < E → eqb e y ≡ false → move_at (with_step mv k (bal lo hi) e d) k x y ≡ entry x (step_of (ps ++ (amp e d ∷ [])) y)
      elsewhere x y hx hy q =
          column_beside mv k e _ (states_of (bal lo hi)) k x y few (omega arith) (omega arith) (omega arith) (λ p l r. eqb-false e y q (sym r))
          ∙ (unfold next_of in T.moves x y hx hy) ∙ ap (entry x) (sym (step_elsewhere y q))

-- ---- a `day`

-- a new `open` line: on its event the steps of its hours lead to the next, where it is the first the others lead nowhere; on other events nothing changes
module _ (mv sp : List ℕ) (k E T : ℕ) (ps : List Part) (D : OfKind mv sp k E (day T) ps) (e a b : ℕ) (hk : k < 4) (long : length mv ≡ 2048) (few_e : E ≤ 16) (few : T ≤ 32) (he : e < E) where
  abbrev more : List Part
  more = ps ++ (opens e a b ∷ [])

  abbrev table : List ℕ
  table = with_hours mv k T e a b (not (has_hours ps e))

  -- the entry of a step from which the event is admitted or not
  entry_of_lem : (x : ℕ) (admitted : Bool) → x < T → entry_of T (day_next T admitted x) ≡ pick admitted (suc x % T) 255
  unfolding day_next
  entry_of_lem x true h = rw (lt-ltb (suc x % T) T (mod-lt (suc x) (omega arith)))
  entry_of_lem x false h = rw (le-ltb T T (omega arith))

  table_is : (x y : ℕ) → x < T → y < E → move_at mv k x y ≡ pick (admitted_at ps y x) (suc x % T) 255
  unfolding next_of states_of
  table_is x y hx hy = D.moves x y hx hy ∙ entry_of_lem x (admitted_at ps y x) hx

  -- of the event, by whether it has hours already
  admitted_here : (x : ℕ) → admitted_at more e x ≡ (in_hours ps e x || (leb a x && ltb x b))
  unfolding opens_by
  admitted_here x = rw (any_snoc (opens_by (λ a b. true) e) ps (opens e a b), any_snoc (opens_by (λ a b. leb a x && ltb x b) e) ps (opens e a b), eq-eqb e e refl, or_right (has_hours ps e) refl)

  entry_here : (x : ℕ) → x < T → hour_of T a b (not (has_hours ps e)) x (move_at mv k x e) ≡ pick (admitted_at more e x) (suc x % T) 255
  entry_here x hx = rw (admitted_here x, table_is x e hx he) (by (has_hours ps e) refl)
    where
      by : (has : Bool) → has_hours ps e ≡ has → pick (leb a x && ltb x b) (suc x % T) (pick (not has) 255 (pick (not has || in_hours ps e x) (suc x % T) 255)) ≡ pick (in_hours ps e x || (leb a x && ltb x b)) (suc x % T) 255
      by true q = add (in_hours ps e x) (leb a x && ltb x b)
        where
          add : (before now : Bool) → ◌≡◌ {A = ℕ} (pick now (suc x % T) (pick before (suc x % T) 255)) (pick (before || now) (suc x % T) 255)
          add true true = refl
          add true false = refl
          add false now = refl
      by false q = rw (tells_false (tells_in ps e x) (no_hours q))
        where
          no_hours : has_hours ps e ≡ false → InHours ps e x → ⊥
          no_hours q h = (tells_has ps e).no q (unfold InHours HasHours in let (c, d, i, l, r) = h in (c, d, i))

  admitted_elsewhere : (x y : ℕ) → eqb e y ≡ false → admitted_at more y x ≡ admitted_at ps y x
  unfolding opens_by
  admitted_elsewhere x y q = rw (any_snoc (opens_by (λ a b. true) y) ps (opens e a b), any_snoc (opens_by (λ a b. leb a x && ltb x b) y) ps (opens e a b), q, or-false (has_hours ps y), or-false (in_hours ps y x))

  pub with_open : OfKind table sp k E (day T) more
  unfolding next_of marked_of states_of
  with_open = record { moves = λ x y hx hy. case (eqb e y) (λ q. at x y hx (eqb-true e y q)) (λ q. beside x y hx hy q) ∙ sym (entry_of_lem x (admitted_at more y x) hx); marks = D.marks }
    where
      at : (x y : ℕ) → x < T → e ≡ y → move_at table k x y ≡ pick (admitted_at more y x) (suc x % T) 255
      at x y hx q = rw (← q) (column_at mv k e _ T x few hk (omega arith) long hx ∙ entry_here x hx)

      beside : (x y : ℕ) → x < T → y < E → eqb e y ≡ false → move_at table k x y ≡ pick (admitted_at more y x) (suc x % T) 255
      beside x y hx hy q =
          column_beside mv k e _ T k x y few (omega arith) (omega arith) (omega arith) (λ p l r. eqb-false e y q (sym r))
          ∙ table_is x y hx hy ∙ ap (λ c. pick c (suc x % T) 255) (sym (admitted_elsewhere x y q))
