-- The sheet call owes what its request says: the bytes that it writes read back as commands that bring the bench to every scenario.
--   numbers_in c       == the numbers of a command
-- Why: no digit and no letter is byte 9 or 10, and a number has one way to be written; slots are at most 1,000 and events are bytes, so that no number has more
-- than five digits. Assumes nothing.
use mathlib.Core.Path.{◌≡◌, refl, sym, ap, ◌∙◌, subst}
use mathlib.Core.Logic.{inl, inr, ⊎_elim}
use mathlib.Core.Bool.{false, ◌||◌}
use mathlib.Core.List.{List, [], ◌∷◌, map}
use mathlib.Core.List.Memᴰ
use mathlib.Core.List.Memᴰ.{append_cases as in-append}
use mathlib.Core.List.Memᴰ.{eq_of_singleton as in_one}
use mathlib.Core.List.Memᴰ.{head as here}
use mathlib.Core.List.Memᴰ.{tail as there}
use mathlib.Core.List.{Memᴰ as In}
use mathlib.Core.Option.{some}
use Prim.Native.Nat.{ℕ, zero, suc, ◌+◌, ◌-◌, ◌*◌, ◌≤◌, ◌<◌}
use native.Mathlib.Omega.{arith}
use native.Mathlib.Nat.{suc-mul, mul-le-mul_right, pos_of_ne-zero, le-mul_of_pos_right}
use lib.ListN.{length, get_or, take, drop, length-take, length-drop}
use lib.Seq.{take-append_seam}
use lib.Dec.{ltb, eqb}
use Rattle.lists.specs.Lists.{sum, tabulate, stack}
use Rattle.lists.specs.Decimal.{decimal, digits}
use Rattle.lists.proofs.Tests.{case, split}
use Rattle.lists.proofs.Tells.{Tells, tells_true, tells_false, tells_lt, tells_eq, tells_or}
use Rattle.lists.proofs.Members.{in_map, in_take, in_drop}
use Rattle.lists.proofs.Tables.{length-tabulate, get_or-tabulate}
use Rattle.promises.specs.Answer.{served, Served}
use Rattle.promises.specs.Text.{lines, unended, same, Case7}
use Rattle.promises.specs.Spelling.{spelled, Small, joined}
use Rattle.promises.specs.Calls.{output_after}
use Rattle.promises.specs.Demand3.{block}
use Rattle.promises.specs.Shapes.{Shaped}
use Rattle.promises.specs.Sheets.{Command, load, run, save, shared, slot_for, depth_for, tail, leg, legs, part, previous, sheet, events, command_line, text, scenario, sheet_text, sheet_call, sheet_output, as_slot, as_run, form_of, command, Drives, Case20, Case12Sheet, SheetReady, SheetOwed, SheetExamples}
use Rattle.promises.proofs.Pieces.{Free, lines_joined, unended_joined}
use Rattle.promises.proofs.Spelling.{numbers_read, fields-spelled, spelled_free}
use Rattle.promises.proofs.Buffers.{unless-served, output_left}
use Rattle.promises.proofs.Shapes.{checked}
use Rattle.promises.proofs.Bench.{loaded_short, sheet_arrives, sheet_proper, sheet_unsaved, loads_sheet, events_sheet, first_slot, slot_deepest}

-- ---- lines and commands

numbers_in : Command → List ℕ
numbers_in (load j) = j ∷ []
numbers_in (run es) = es
numbers_in (save j) = j ∷ []

line_free : (c : Command) → Free 10 (command_line c)
unfolding command_line
line_free (load j) = spelled_free "load" (j ∷ []) refl
line_free (run es) = spelled_free "run" es refl
line_free (save j) = spelled_free "save" (j ∷ []) refl

lines_free : (cs : List Command) (l : List ℕ) → In l (map command_line cs) → Free 10 l
lines_free cs l i = let (c, j, q) = in_map command_line cs i in subst (Free 10) (sym q) (line_free c)

command_line_lem : (c : Command) → Small (numbers_in c) → command (command_line c) ≡ some c
unfolding command form_of same command_line numbers_in as_slot as_run
command_line_lem (load j) w = rw (fields-spelled "load" (j ∷ []) refl, numbers_read (j ∷ []) w)
command_line_lem (run es) w = rw (fields-spelled "run" es refl, numbers_read es w)
command_line_lem (save j) w = rw (fields-spelled "save" (j ∷ []) refl, numbers_read (j ∷ []) w)

AllSmall : List Command → Type 0
AllSmall cs = (c : Command) → In c cs → Small (numbers_in c)

text-reads : (cs : List Command) → AllSmall cs → map command (lines (text cs)) ≡ map some cs
unfolding text AllSmall
text-reads cs w = ap (map command) (lines_joined (map command_line cs) (lines_free cs)) ∙ each cs w
  where
    each : (cs : List Command) → ((c : Command) → In c cs → Small (numbers_in c)) → map command (map command_line cs) ≡ map some cs
    each [] w = refl
    each (c ∷ cs) w = rw (command_line_lem c (w c (here refl)), each cs (λ d i. w d (there i)))

text-ended : (cs : List Command) → unended (text cs) ≡ []
unfolding text
text-ended cs = unended_joined (map command_line cs) (lines_free cs)

-- ---- no number has more than five digits

slot_small : (j : ℕ) → j < 100000 → Small (j ∷ [])
unfolding Small
slot_small j h n i = rw (in_one i) h

leg-small : (g j : ℕ) (es : List ℕ) → j < 100000 → Small es → AllSmall (leg g j es)
unfolding AllSmall leg numbers_in
leg-small g j es h w c (here q) = rw q w
leg-small g j es h w c (there i) = case (eqb (length es) g) (λ t. rw (in_one (rw t at i)) (slot_small j h)) (λ t. absurd (Memᴰ.not-nil (rw t at i)))

legs-small : (f g j : ℕ) (rest : List ℕ) → j + f < 100000 → Small rest → AllSmall (legs f g j rest)
unfolding AllSmall legs
legs-small zero g j rest h w c i = absurd (Memᴰ.not-nil i)
legs-small (suc f) g j [] h w c i = absurd (Memᴰ.not-nil i)
legs-small (suc f) g j (e ∷ r) h w c i =
    ⊎_elim
    (leg-small g (suc j) (take g (e ∷ r)) (omega arith) (unfold Small in (λ n m. w n (in_take g (e ∷ r) m))) c)
    (legs-small f g (suc j) (drop g (e ∷ r)) (omega arith) (unfold Small in (λ n m. w n (in_drop g (e ∷ r) m))) c)
    (in-append (leg g (suc j) (take g (e ∷ r))) i)

module _ (g : ℕ) (pos : 0 < g) where
  slot_within : (prev s : List ℕ) → (slot_for g prev s ≤ depth_for g prev s) × (depth_for g prev s ≤ length s)
  unfolding depth_for
  slot_within prev s = (le-mul_of_pos_right (slot_for g prev s) pos, loaded_short g pos s prev)

  part_small : (prev s : List ℕ) → length s ≤ 1000 → Small s → AllSmall (part g prev s)
  unfolding AllSmall part numbers_in
  part_small prev s h w c (here q) = rw q (slot_small (slot_for g prev s) (omega (arith, slot_within prev s)))
  part_small prev s h w c (there i) =
      legs-small (length (tail g prev s)) g (slot_for g prev s) (tail g prev s)
      (unfold tail in (omega (arith, slot_within prev s, length-drop (depth_for g prev s) s)))
      (unfold Small tail in (λ n m. w n (in_drop (depth_for g prev s) s m))) c i

  sheet_small : (ss : ℕ → List ℕ) (m : ℕ) → ((k : ℕ) → k < m → length (ss k) ≤ 1000) → ((k : ℕ) → k < m → Small (ss k)) → AllSmall (sheet g ss m)
  unfolding AllSmall sheet stack
  sheet_small ss zero short w c i = absurd (Memᴰ.not-nil i)
  sheet_small ss (suc m) short w c i =
      ⊎_elim
      (sheet_small ss m (λ k l. short k (omega arith)) (λ k l. w k (omega arith)) c)
      (part_small (previous ss m) (ss m) (short m (omega arith)) (w m (omega arith)) c)
      (in-append (sheet g ss m) i)

-- ---- the scenarios

-- number k ends within m × h bytes
pub scenario-within : (k m h n : ℕ) → k < m → m * h ≤ n → k * h + h ≤ n
scenario-within k m h n lt le = omega (arith, suc-mul k h, mul-le-mul_right h lt)

pub scenario_long : (m h : ℕ) (scenarios : List ℕ) → m * h ≤ length scenarios → (k : ℕ) → k < m → length (scenario h scenarios k) ≡ h
unfolding scenario block
scenario_long m h scenarios le k lt = length-take h (drop (k * h) scenarios) ∙ omega (arith, length-drop (k * h) scenarios, scenario-within k m h (length scenarios) lt le)

-- ---- the call

module _ (m h g : ℕ) (scenarios out : List ℕ) where
  ss : ℕ → List ℕ
  ss = scenario h scenarios

  seven_no : (Case7 h → ⊥) → ltb 1000 h ≡ false
  unfolding Case7
  seven_no c = tells_false (tells_lt 1000 h) c

  spaced_no : (Case20 g → ⊥) → eqb g 0 ≡ false
  unfolding Case20
  spaced_no c = tells_false (tells_eq g 0) c

  tells_12 : Tells (ltb (length scenarios) (m * h) || ltb (length out) (length (sheet_text m h g scenarios))) (Case12Sheet m h g scenarios out)
  unfolding Case12Sheet
  tells_12 = tells_or (tells_lt (length scenarios) (m * h)) (tells_lt (length out) (length (sheet_text m h g scenarios)))

  pub call_is : SheetReady m h g scenarios out → sheet_call m h g scenarios out ≡ served (length (sheet_text m h g scenarios) ∷ events (sheet g (scenario h scenarios) m) ∷ [])
  unfolding sheet_call
  call_is r = rw (seven_no r.horizon, spaced_no r.spaced, tells_false tells_12 r.room)

  ready : Served (sheet_call m h g scenarios out) → SheetReady m h g scenarios out
  unfolding sheet_call Case7 Case20
  ready s =
      let (c7, a) = unless-served 7 0 (ltb 1000 h) _ s in
      let (c20, b) = unless-served 20 0 (eqb g 0) _ a in
      let (c12, c) = unless-served 12 0 (ltb (length scenarios) (m * h) || ltb (length out) (length (sheet_text m h g scenarios))) _ b in
      record { horizon = (tells_lt 1000 h).no c7; spaced = (tells_eq g 0).no c20; room = tells_12.no c12 }

  module _ (r : SheetReady m h g scenarios out) where
    pos : 0 < g
    unfolding Case20
    pos = pos_of_ne-zero r.spaced

    enough : m * h ≤ length scenarios
    unfolding Case12Sheet
    enough = ⊎_elim (λ l. l) (λ l. absurd (r.room (inl l))) (split (m * h) (length scenarios))

    fits : length (sheet_text m h g scenarios) ≤ length out
    unfolding Case12Sheet
    fits = ⊎_elim (λ l. l) (λ l. absurd (r.room (inr l))) (split (length (sheet_text m h g scenarios)) (length out))

    short : h ≤ 1000
    unfolding Case7
    short = ⊎_elim (λ l. l) (λ l. absurd (r.horizon l)) (split h 1000)

    long : (k : ℕ) → k < m → length (ss k) ≡ h
    unfolding ss
    long = scenario_long m h scenarios enough

    written : take (length (sheet_text m h g scenarios)) (sheet_output m h g scenarios out) ≡ sheet_text m h g scenarios
    unfolding sheet_output output_after
    written = rw (call_is r) (take-append_seam (sheet_text m h g scenarios) (drop (length (sheet_text m h g scenarios)) out))

    small : ((e : ℕ) → In e scenarios → e < 256) → AllSmall (sheet g ss m)
    unfolding ss Small scenario block
    small w = sheet_small g pos ss m (λ k l. omega (arith, short, long k l)) (λ k l e i. omega (arith, w e (in_drop (k * h) scenarios (in_take h (drop (k * h) scenarios) i))))

    text_drives : ((e : ℕ) → In e scenarios → e < 256) → Drives m h g ss (sheet_text m h g scenarios) (length (sheet_text m h g scenarios)) (events (sheet g ss m)) (sheet g ss m)
    unfolding sheet_text ss
    text_drives w =
        let slots = loads_sheet g ss m in
        record {
          long = refl;
          ended = text-ended (sheet g ss m);
          reads = text-reads (sheet g ss m) (small w);
          arrives = λ b z. sheet_arrives g pos ss h b z m long;
          unsaved = sheet_unsaved g ss m;
          proper = λ b z. sheet_proper g pos ss h b z m long;
          each_loads = ap length slots ∙ length-tabulate _ m;
          first_loads = λ lt. ap (λ l. get_or l 0 0) slots ∙ get_or-tabulate _ m 0 0 lt ∙ first_slot g ss;
          next_loads = λ k lt. rw (ap (λ l. get_or l (suc k) 0) slots ∙ get_or-tabulate _ m (suc k) 0 lt) (unfold previous in (slot_deepest g pos (ss k) (ss (suc k))));
          run_events = refl;
          sum_of_tails = ap (sum (λ j. h - j * g)) slots ∙ sym (events_sheet g pos ss h m long);
        }

  two_told : Shaped 2 (sheet_call m h g scenarios out)
  unfolding sheet_call Shaped
  two_told =
      checked 2 7 0 (ltb 1000 h) _ (λ q e. omega arith)
      (checked 2 20 0 (eqb g 0) _ (λ q e. omega arith)
      (checked 2 12 0 (ltb (length scenarios) (m * h) || ltb (length out) (length (sheet_text m h g scenarios))) _ (λ q e. omega arith) refl))

  pub sheet_owed : SheetOwed m h g scenarios out
  unfolding Case7 Case20 Served
  sheet_owed = record {
    seven = λ c. unfold sheet_call in (rw (tells_true (tells_lt 1000 h) c));
    twenty = λ c7 c. unfold sheet_call in (rw (seven_no c7, tells_true (tells_eq g 0) c));
    twelve = λ c7 c20 c. unfold sheet_call in (rw (seven_no c7, spaced_no c20, tells_true tells_12 c));
    served_just = (ready, λ r. (_, call_is r));
    long = λ r. scenario_long m h scenarios (enough r);
    drives = λ r w. unfold ss in (length (sheet_text m h g scenarios), events (sheet g (scenario h scenarios) m), sheet g (scenario h scenarios) m, call_is r, refl, rw (written r) (text_drives r w));
    output_left = unfold sheet_output in (output_left (length (sheet_text m h g scenarios)) (sheet_call m h g scenarios out) (sheet_text m h g scenarios) out (λ s. (refl, fits (ready s))));
    shaped = two_told;
  }

pub sheet_examples : SheetExamples
unfolding sheet_output sheet_call sheet_text scenario sheet stack part previous tail depth_for slot_for shared legs leg text command_line events joined spelled block tabulate output_after decimal digits
sheet_examples = record { three = refl; equal = refl; told = refl; one_byte_short = refl; no_events = refl; spaced_0 = refl; all_three = refl; exact = refl }
