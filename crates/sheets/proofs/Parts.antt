-- The commands of a scenario leg by leg, and those of a sheet scenario by scenario, as they are measured and written. Assumes nothing.
use mathlib.Core.Path.{◌≡◌, refl, ap, ◌∙◌}
use mathlib.Core.List.{List, [], ◌∷◌, ◌++◌, append-nil}
use Prim.Native.Nat.{ℕ, zero, suc, ◌+◌, ◌-◌, ◌*◌, ◌/◌, ◌^◌, ◌≤◌, ◌<◌, min}
use native.Mathlib.Numerals.{add-one}
use native.Mathlib.Omega.{arith}
use native.Mathlib.Nat.{zero-add, add-zero, add-suc, mul-div_cancel, div-le_self}
use lib.ListN.{length, get_or, take, drop, length-append, length-take, length-drop, drop_of_length-le}
use lib.Seq.{take_all, take-append_seam, drop-append_seam, get_or-drop}
use lib.Dec.{eqb}
use borrow.Author.Tests.{eqb-true, eqb-false}
use Rattle.lists.specs.Lists.{stack}
use Rattle.lists.proofs.Tests.{case}
use Rattle.lists.proofs.Decimal.{decimal-some}
use Rattle.decimal.proofs.Digits.{decimal-fits}
use Rattle.line.proofs.Pieces.{fields-short}
use Rattle.line.specs.Line.{line_from}
use Rattle.promises.specs.Text.{bytes}
use Rattle.promises.specs.Spelling.{joined}
use Rattle.promises.specs.Sheets.{slot_for, depth_for, tail, leg, legs, part, previous, sheet, events, text, scenario, sheet_text}
use Rattle.promises.proofs.Bench.{loaded_short, events-append, events_part}
use Rattle.promises.proofs.Sheets.{scenario_long}
use Rattle.sheets.specs.Writing.{legs_text, part_of}
use Rattle.sheets.proofs.Texts.{text-load, text-append, slot-long, leg_unsaved, saved_long, run_long}

-- ---- the legs

-- a run comes off the front, and is short only where less is left
next_run : (g : ℕ) (run after : List ℕ) → length run ≡ min g (length (run ++ after)) → (take g (run ++ after) ≡ run) × (drop g (run ++ after) ≡ after)
next_run g run [] q = rw append-nil (take_all g run short, drop_of_length-le run {i = g} short)
  where
    short : length run ≤ g
    short = omega arith
next_run g run (e ∷ after) q =
    let whole : g ≡ length run = omega (arith, length-append run (e ∷ after)) in
    rw whole (take-append_seam run (e ∷ after), drop-append_seam run (e ∷ after))

pub legs_end : (g j : ℕ) (rest : List ℕ) → length rest ≡ 0 → legs_text g j rest ≡ []
unfolding legs text joined
legs_end g j [] h = refl
legs_end g j (e ∷ rest) h = absurd (omega arith)

module _ (g : ℕ) (pos : 0 < g) where
  -- legs enough are as good as any other number of them
  legs_enough : (f k j : ℕ) (rest : List ℕ) → length rest ≤ f → length rest ≤ k → legs f g j rest ≡ legs k g j rest
  unfolding legs
  legs_enough zero zero j rest a b = refl
  legs_enough zero (suc k) j [] a b = refl
  legs_enough zero (suc k) j (e ∷ r) a b = absurd (omega arith)
  legs_enough (suc f) zero j [] a b = refl
  legs_enough (suc f) zero j (e ∷ r) a b = absurd (omega arith)
  legs_enough (suc f) (suc k) j [] a b = refl
  legs_enough (suc f) (suc k) j (e ∷ r) a b =
      ap (λ l. leg g (suc j) (take g (e ∷ r)) ++ l)
      (legs_enough f k (suc j) (drop g (e ∷ r)) (rw length-drop (omega arith)) (rw length-drop (omega arith)))

  module _ (j : ℕ) where
    legs_first : (rest : List ℕ) → 0 < length rest → legs_text g j rest ≡ text (leg g (suc j) (take g rest)) ++ legs_text g (suc j) (drop g rest)
    unfolding legs
    legs_first [] h = absurd (omega arith)
    legs_first (e ∷ r) h =
        text-append (leg g (suc j) (take g (e ∷ r))) (legs (length r) g (suc j) (drop g (e ∷ r)))
        ∙ ap (λ cs. text (leg g (suc j) (take g (e ∷ r))) ++ text cs) (legs_enough (length r) (length (drop g (e ∷ r))) (suc j) (drop g (e ∷ r)) (rw length-drop (omega arith)) (omega arith))

    -- one leg more, after the text s
    pub leg_more : (whole s rest run after : List ℕ) (size : ℕ) → whole ≡ s ++ legs_text g j rest → rest ≡ run ++ after → length run ≡ min size (length rest) → size ≡ g → 0 < length rest
        → whole ≡ s ++ (text (leg g (j + 1) run) ++ legs_text g (j + 1) after)
    leg_more whole s rest run after size w q long same h =
        let (first, more) = next_run g run after (rw (same, q) at long) in
        w ∙ rw (q, add-one j) (ap (λ t. s ++ t) (legs_first (run ++ after) (rw q at h) ∙ rw (first, more)))

-- four bytes for the word and the line end, at most four for each event, and at most 26 for the save
leg_bound : (g j : ℕ) (run : List ℕ) → j < 2 ^ 64 → ((k : ℕ) → get_or run k 0 < 256) → length (text (leg g j run)) ≤ 30 + 4 * length run
leg_bound g j run less small =
    case (eqb (length run) g)
    (λ t. omega (arith, saved_long g j run (eqb-true (length run) g t), run_long run, fields-short run small, slot-long "save" j refl, decimal-fits j less))
    (λ t. omega (arith, ap length (leg_unsaved g j run (eqb-false (length run) g t)), run_long run, fields-short run small))

small_take : (n : ℕ) (l : List ℕ) → ((k : ℕ) → get_or l k 0 < 256) → (k : ℕ) → get_or (take n l) k 0 < 256
small_take zero l s k = omega arith
small_take (suc n) [] s k = s k
small_take (suc n) (x ∷ l) s zero = s zero
small_take (suc n) (x ∷ l) s (suc k) = small_take n l (λ i. s (suc i)) k

legs_bound : (f g j : ℕ) (rest : List ℕ) → 0 < g → j + length rest < 2 ^ 64 → ((k : ℕ) → get_or rest k 0 < 256) → length (text (legs f g j rest)) ≤ 34 * length rest
unfolding legs text joined
legs_bound zero g j rest pos less small = omega arith
legs_bound (suc f) g j [] pos less small = omega arith
legs_bound (suc f) g j (e ∷ r) pos less small =
    let run = take g (e ∷ r) in
    let after = drop g (e ∷ r) in
    omega (
      arith,
      ap length (text-append (leg g (suc j) run) (legs f g (suc j) after)),
      length-append (text (leg g (suc j) run)) (text (legs f g (suc j) after)),
      leg_bound g (suc j) run (omega arith) (small_take g (e ∷ r) small),
      legs_bound f g (suc j) after pos (rw length-drop (omega arith)) (λ k. rw (get_or-drop g (e ∷ r) k 0) (small (g + k))),
      length-take g (e ∷ r),
      length-drop g (e ∷ r),
    )

-- ---- one scenario

module _ (h g : ℕ) (rest : List ℕ) where
  pub text_part : text (part_of h g rest) ≡ line_from (bytes "load") ((h - length rest) / g ∷ []) ++ legs_text g ((h - length rest) / g) rest
  unfolding part_of
  text_part = text-load ((h - length rest) / g) (legs (length rest) g ((h - length rest) / g) rest)

  pub length_part : length (text (part_of h g rest)) ≡ length (line_from (bytes "load") ((h - length rest) / g ∷ [])) + length (legs_text g ((h - length rest) / g) rest)
  length_part = ap length text_part ∙ length-append (line_from (bytes "load") ((h - length rest) / g ∷ [])) (legs_text g ((h - length rest) / g) rest)

  pub slot_few : length rest ≤ h → (h - length rest) / g + length rest ≤ h
  slot_few le = omega (arith, div-le_self (h - length rest) g)

  pub part_bound : 0 < g → h ≤ 1000 → length rest ≤ h → ((k : ℕ) → get_or rest k 0 < 256) → length (text (part_of h g rest)) ≤ 34026
  part_bound pos few le small =
      let slot = (h - length rest) / g in
      omega (arith, length_part, slot_few le, slot-long "load" slot refl, decimal-fits slot (omega (arith, slot_few le)), legs_bound (length rest) g slot rest pos (omega (arith, slot_few le)) small)

module _ (h g : ℕ) (pos : 0 < g) (prev s : List ℕ) (long : length s ≡ h) where
  slot_is : (h - length (tail g prev s)) / g ≡ slot_for g prev s
  unfolding tail depth_for
  slot_is =
      let back : h - length (drop (slot_for g prev s * g) s) ≡ slot_for g prev s * g = rw length-drop (omega (arith, loaded_short g pos s prev)) in
      rw back (mul-div_cancel (slot_for g prev s) pos)

  part_is : part g prev s ≡ part_of h g (tail g prev s)
  unfolding part part_of
  part_is = rw slot_is

-- ---- the scenarios one after the other

module _ (h g : ℕ) (scenarios : List ℕ) where
  -- what a scenario runs, and the sheet up to it
  pub record OnePart (k : ℕ) (rest : List ℕ) : Type 0 where
    pub short : length rest ≤ h
    pub text_more : sheet_text (k + 1) h g scenarios ≡ sheet_text k h g scenarios ++ text (part_of h g rest)
    pub events_more : events (sheet g (scenario h scenarios) (k + 1)) ≡ events (sheet g (scenario h scenarios) k) + length rest

  pub length_sheet : (k : ℕ) (rest : List ℕ) → OnePart k rest → length (sheet_text (k + 1) h g scenarios) ≡ length (sheet_text k h g scenarios) + length (text (part_of h g rest))
  length_sheet k rest p = ap length p.text_more ∙ length-append (sheet_text k h g scenarios) (text (part_of h g rest))

  pub sheet_none : (sheet_text 0 h g scenarios ≡ []) × (events (sheet g (scenario h scenarios) 0) ≡ 0)
  unfolding sheet_text sheet stack text joined events
  sheet_none = (refl, refl)

  -- each scenario has a `load` line, which has seven bytes at least
  part_seven : (prev s : List ℕ) → 7 ≤ length (text (part g prev s))
  unfolding part
  part_seven prev s =
      let j = slot_for g prev s in
      let rest = legs (length (tail g prev s)) g j (tail g prev s) in
      rw (text-load j rest, length-append (line_from (bytes "load") (j ∷ [])) (text rest)) (omega (arith, slot-long "load" j refl, decimal-some j))

  sheet_next : (k : ℕ) → 7 + length (sheet_text k h g scenarios) ≤ length (sheet_text (suc k) h g scenarios)
  unfolding sheet_text sheet stack
  sheet_next k =
      let more = part g (previous (scenario h scenarios) k) (scenario h scenarios k) in
      rw (text-append (sheet g (scenario h scenarios) k) more, length-append) (omega (arith, part_seven (previous (scenario h scenarios) k) (scenario h scenarios k)))

  sheet_grows : (d k : ℕ) → 7 * d + length (sheet_text k h g scenarios) ≤ length (sheet_text (k + d) h g scenarios)
  sheet_grows zero k = rw add-zero (omega arith)
  sheet_grows (suc d) k = rw add-suc (omega (arith, sheet_grows d k, sheet_next (k + d)))

  pub sheet_longer : (k m : ℕ) → k ≤ m → length (sheet_text k h g scenarios) ≤ length (sheet_text m h g scenarios)
  sheet_longer k m le = let e : k + (m - k) ≡ m = omega arith in let l = rw e at (sheet_grows (m - k) k) in omega (arith, l)

  pub sheet_sevens : (m : ℕ) → 7 * m ≤ length (sheet_text m h g scenarios)
  sheet_sevens m = let l = rw zero-add at (sheet_grows m 0) in omega (arith, l)

pub one_part : (m h g : ℕ) → 0 < g → (scenarios : List ℕ) → m * h ≤ length scenarios → (k : ℕ) (rest : List ℕ) → k < m
    → rest ≡ tail g (previous (scenario h scenarios) k) (scenario h scenarios k) → OnePart h g scenarios k rest
unfolding sheet_text sheet stack
one_part m h g pos scenarios enough k rest lt q =
    let prev = previous (scenario h scenarios) k in
    let s = scenario h scenarios k in
    let long = scenario_long m h scenarios enough k lt in
    record {
      short = rw q (unfold tail in (rw length-drop (omega arith)));
      text_more = rw (add-one k, q) (text-append (sheet g (scenario h scenarios) k) (part g prev s) ∙ ap (λ cs. text (sheet g (scenario h scenarios) k) ++ text cs) (part_is h g pos prev s long));
      events_more = rw (add-one k, q) (events-append (sheet g (scenario h scenarios) k) (part g prev s) ∙ ap (λ n. events (sheet g (scenario h scenarios) k) + n) (events_part g pos prev s));
    }
