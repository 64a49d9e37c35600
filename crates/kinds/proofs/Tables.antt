-- The tables after a line that begins a monitor: its own part holds its kind's automaton, the other parts are as they were. And after one that writes the moves on
-- one event over. Assumes nothing.
--   Blank mv sp m      == part m of the tables has no move and no mark
--   OfKind mv sp m E k ps == it has the moves and marks of a monitor of the kind k with the further lines ps
use mathlib.Core.Path.{◌≡◌, refl, sym, ap, ◌∙◌}
use mathlib.Core.Logic.{◌≢◌, ⊎_elim}
use mathlib.Core.Bool.{Bool, true, false}
use mathlib.Core.List.{List, [], ◌∷◌, ◌++◌, append_assoc}
use mathlib.Core.Option.{or_else}
use Prim.Native.Nat.{ℕ, zero, suc, ◌+◌, ◌≤◌, ◌<◌}
use native.Mathlib.Nat.{eq-or-lt_of_le, le_of_suc-le-suc, not-suc-le-zero}
use native.Mathlib.Numerals.{add-one}
use native.Mathlib.Omega.{arith}
use lib.IntN.{ℤ}
use mir.Val.{bool_byte as from_bool}
use lib.ListN.{length, set, take, drop, get_or, replicate, length-append, length-replicate, take-append-drop}
use lib.Seq.{drop-cons, set_at, length-take-le}
use lib.Dec.{ltb, eqb}
use borrow.Author.Tests.{ltb-true, ltb-false, le-ltb, eq-eqb, ne_eqb}
use Rattle.lists.specs.Lists.{pick, overwrite, first_of}
use Rattle.lists.proofs.Tests.{case, contra}
use Rattle.lists.proofs.Tables.{length_overwrite, overwrite_at, overwrite_beside, overwrite_cong, overwrite-set}
use Rattle.promises.specs.Text.{Kind, mon, gap, reply, bal, day, Part, amp, states_of}
use Rattle.promises.specs.Meaning.{step_in, step_of}
use Rattle.promises.specs.Reading.{is_mon}
use Rattle.promises.specs.Rig.{bal_next, next_of, marked_of}
use Rattle.rig.specs.Record.{move_index, move_at, stop_index, stop_at}
use Rattle.kinds.specs.declared.Row.{Row}
use Rattle.kinds.specs.Kinds.{row_at, entry_of, with_rows, kind_moves, kind_stops, with_column}

pub record Blank (mv sp : List ℕ) (m : ℕ) : Type 0 where
  pub no_move : (s u : ℕ) → s < 32 → u < 16 → move_at mv m s u ≡ 255
  pub no_mark : (s : ℕ) → s < 32 → stop_at sp m s ≡ 0

pub record OfKind (mv sp : List ℕ) (m E : ℕ) (k : Kind) (ps : List Part) : Type 0 where
  pub moves : (s u : ℕ) → s < states_of k → u < E → move_at mv m s u ≡ entry_of (states_of k) (next_of k ps s u)
  pub marks : (s : ℕ) → s < states_of k → stop_at sp m s ≡ pick (marked_of k ps s) 1 0

-- a mark as its entry
pub mark_entry : (b : Bool) → from_bool b ≡ pick b 1 0
mark_entry true = refl
mark_entry false = refl

-- ---- the entries of a row

-- all sixteen are the same at first
pub filled_row : (l : List ℕ) (at z n : ℕ) → at + n ≤ length l → take at l ++ (replicate n z ++ drop (at + n) l) ≡ overwrite l (λ u. at + u) (λ u. z) n
unfolding overwrite
filled_row l at z zero h = let q : at + 0 ≡ at = omega arith in ap (λ k. take at l ++ drop k l) q ∙ take-append-drop at l
filled_row l at z (suc n) h =
    let q : at + suc n ≡ suc (at + n) = omega arith in
    let rest = drop (suc (at + n)) l in
    ap (λ k. take at l ++ (replicate (suc n) z ++ drop k l)) q
    ∙ ap (λ r. take at l ++ r) (sym (later n rest))
    ∙ sym (append_assoc (take at l) (replicate n z) (z ∷ rest))
    ∙ sym (set_at (take at l ++ replicate n z) (get_or l (at + n) 0) rest z (at + n) (rw (length-append, length-replicate {A = ℕ} n z, length-take-le at l (omega arith))))
    ∙ ap (λ r. set r (at + n) z) (append_assoc (take at l) (replicate n z) (get_or l (at + n) 0 ∷ rest) ∙ ap (λ r. take at l ++ (replicate n z ++ r)) (sym (drop-cons l (at + n) 0 (omega arith))) ∙ filled_row l at z n (omega arith))
  where
    later : (n : ℕ) (r : List ℕ) → replicate n z ++ z ∷ r ≡ z ∷ (replicate n z ++ r)
    later zero r = refl
    later (suc n) r = ap (λ l. z ∷ l) (later n r)

-- those of the events that a row names are written over the others
module _ (l : List ℕ) (at : ℕ) where
  pub put_entry : (f : ℕ → ℕ) (e x : ℕ) (row : List ℕ) → row ≡ overwrite l (λ u. at + u) f 16
      → pick (ltb e 16) (set row (at + e) x) row ≡ overwrite l (λ u. at + u) (λ u. pick (eqb u e) x (f u)) 16
  put_entry f e x row q =
      case (ltb e 16)
      (λ t. rw (t, q) (overwrite-set l (λ u. at + u) f (λ u v p. omega arith) 16 e x (ltb-true e 16 t)))
      (λ t. rw (t, q) (overwrite_cong l (λ u. at + u) f (λ u. pick (eqb u e) x (f u)) 16 (λ u h. rw (ne_eqb u e (λ p. omega (arith, ltb-false e 16 t))))))

pub entry_row : (n : ℕ) (r : Row) (u : ℕ) → pick (eqb u r.a) (entry_of n r.x) (pick (eqb u r.b) (entry_of n r.y) (entry_of n r.z)) ≡ entry_of n (row_at r u)
entry_row n r u = case (eqb u r.a) (λ p. rw p) (λ p. case (eqb u r.b) (λ q. rw (p, q)) (λ q. rw (p, q)))

-- ---- the rows of a monitor

module _ (mv : List ℕ) (m : ℕ) (k : Kind) where
  abbrev row_of : ℕ → ℕ → ℕ
  row_of s u = entry_of (states_of k) (next_of k [] s u)

  pub length_rows : (n : ℕ) → length (with_rows mv m k n) ≡ length mv
  unfolding with_rows
  length_rows zero = refl
  length_rows (suc n) = length_overwrite (with_rows mv m k n) (move_index m n) (row_of n) 16 ∙ length_rows n

  -- one row more
  pub rows_more : (n : ℕ) → overwrite (with_rows mv m k n) (move_index m n) (row_of n) 16 ≡ with_rows mv m k (n + 1)
  unfolding with_rows
  rows_more n = rw (add-one n)

  -- an entry of another monitor, or of a later row
  pub rows_beside : (n i x y : ℕ) → n ≤ 32 → x < 32 → y < 16 → (i ≡ m → x < n → ⊥) → move_at (with_rows mv m k n) i x y ≡ move_at mv i x y
  unfolding with_rows
  rows_beside zero i x y h hx hy o = refl
  rows_beside (suc n) i x y h hx hy o =
      overwrite_beside (with_rows mv m k n) (move_index m n) (row_of n) 16 (move_index i x y) 0 (λ j l q. o (omega arith) (omega arith))
      ∙ rows_beside n i x y (omega arith) hx hy (λ p q. o p (omega arith))

  pub rows_at : (n s u : ℕ) → n ≤ 32 → m < 4 → length mv ≡ 2048 → s < n → u < 16 → move_at (with_rows mv m k n) m s u ≡ row_of s u
  unfolding with_rows
  rows_at zero s u h hm long l hu = absurd (not-suc-le-zero l)
  rows_at (suc n) s u h hm long l hu =
      ⊎_elim
      (λ e. rw e (overwrite_at (with_rows mv m k n) (move_index m n) (row_of n) (λ x y q. omega arith) 16 u 0 hu (λ v b. omega (arith, length_rows n))))
      (λ b. overwrite_beside (with_rows mv m k n) (move_index m n) (row_of n) 16 (move_index m s u) 0 (λ j c q. omega arith) ∙ rows_at n s u (omega arith) hm long b hu)
      (eq-or-lt_of_le (le_of_suc-le-suc l))

-- ---- the line that begins a monitor

module _ (mv sp : List ℕ) (m : ℕ) (k : Kind) (hm : m < 4) (few : states_of k ≤ 32) (long : length mv ≡ 2048) (wide : length sp ≡ 128) where
  pub length_moves : length (kind_moves mv m k) ≡ 2048
  unfolding kind_moves
  length_moves = case (is_mon k) (λ q. rw q long) (λ q. rw q (length_rows mv m k (states_of k) ∙ long))

  pub length_stops : length (kind_stops sp m k) ≡ 128
  unfolding kind_stops
  length_stops = case (is_mon k) (λ q. rw q wide) (λ q. rw q (length_overwrite sp (stop_index m) (λ s. pick (marked_of k [] s) 1 0) (states_of k) ∙ wide))

  pub moves_beside : (i x y : ℕ) → i ≢ m → x < 32 → y < 16 → move_at (kind_moves mv m k) i x y ≡ move_at mv i x y
  unfolding kind_moves
  moves_beside i x y ne hx hy = case (is_mon k) (λ q. rw q) (λ q. rw q (rows_beside mv m k (states_of k) i x y few hx hy (λ e. absurd (ne e))))

  pub stops_beside : (i x : ℕ) → i ≢ m → x < 32 → stop_at (kind_stops sp m k) i x ≡ stop_at sp i x
  unfolding kind_stops
  stops_beside i x ne hx = case (is_mon k) (λ q. rw q) (λ q. rw q (overwrite_beside sp (stop_index m) (λ s. pick (marked_of k [] s) 1 0) (states_of k) (stop_index i x) 0 (λ u l e. ne (omega arith))))

  -- the part was blank, and holds the kind's automaton
  pub fills : (E : ℕ) → E ≤ 16 → Blank mv sp m → OfKind (kind_moves mv m k) (kind_stops sp m k) m E k []
  unfolding kind_moves kind_stops
  fills E few_e b = case (is_mon k) (λ q. rw q (no_line k q few)) (λ q. rw q (record {
    moves = λ s u hs hu. rows_at mv m k (states_of k) s u few hm long hs (omega arith);
    marks = λ s hs. overwrite_at sp (stop_index m) (λ s. pick (marked_of k [] s) 1 0) (λ x y q. omega arith) (states_of k) s 0 hs (λ v l. omega arith);
  }))
    where
      no_line : (k : Kind) → is_mon k ≡ true → states_of k ≤ 32 → OfKind mv sp m E k []
      no_line (mon S a) q few = unfold next_of marked_of first_of states_of in record {
        moves = λ s u hs hu. b.no_move s u (omega arith) (omega arith) ∙ sym (ap (λ t. pick t S 255) (le-ltb S S (omega arith)));
        marks = λ s hs. b.no_mark s (omega arith);
      }
      no_line (gap e n) q few = contra q refl
      no_line (reply x y lo hi) q few = contra q refl
      no_line (bal lo hi) q few = contra q refl
      no_line (day T) q few = contra q refl

-- ---- the moves on one event

-- of a `bal` with one `amp` line, on its event
pub own_step : (lo hi d : ℤ) (e s : ℕ) → next_of (bal lo hi) (amp e d ∷ []) s e ≡ bal_next lo hi d s
unfolding next_of step_of first_of step_in or_else
own_step lo hi d e s = rw (eq-eqb e e refl)

module _ (mv : List ℕ) (m e : ℕ) (f : ℕ → ℕ) where
  pub length_column : (n : ℕ) → length (with_column mv m e f n) ≡ length mv
  length_column n = length_overwrite mv (λ s. move_index m s e) f n

  -- an entry of another monitor, of a later state, or of another event
  pub column_beside : (n i x y : ℕ) → n ≤ 32 → e < 16 → x < 32 → y < 16 → (i ≡ m → x < n → y ≡ e → ⊥) → move_at (with_column mv m e f n) i x y ≡ move_at mv i x y
  column_beside n i x y h he hx hy o = overwrite_beside mv (λ s. move_index m s e) f n (move_index i x y) 0 (λ s l q. o (omega arith) (omega arith) (omega arith))

  pub column_at : (n s : ℕ) → n ≤ 32 → m < 4 → e < 16 → length mv ≡ 2048 → s < n → move_at (with_column mv m e f n) m s e ≡ f s
  column_at n s h hm he long l = overwrite_at mv (λ s. move_index m s e) f (λ x y q. omega arith) n s 0 l (λ v b. omega arith)
