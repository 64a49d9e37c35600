-- The windows call owes what its request says, on served and refused input alike.
-- Why: the answer is the rows' tests in their order; the bytes are those of the joint automaton's walks, whose 0s are the departures by the lines. Assumes nothing.
use mathlib.Core.Path.{◌≡◌, refl, ap, ◌∙◌}
use mathlib.Core.Logic.{◌⊎◌, inl, inr}
use mathlib.Core.Bool.{true, false, ◌||◌}
use mathlib.Core.List.{List, [], ◌∷◌}
use Prim.Native.Nat.{ℕ, suc, ◌+◌, ◌-◌, ◌≤◌, ◌<◌}
use native.Mathlib.Nat.{zero-mul}
use native.Mathlib.Omega.{arith}
use lib.ListN.{length, get_or}
use lib.Dec.{ltb, leb}
use Rattle.lists.proofs.Tests.{contra, ℕ_trichotomy}
use Rattle.lists.proofs.Tells.{Tells, tells_true, tells_false, tells_lt, tells_le, tells_or}
use Rattle.automaton.specs.Automaton.{Automaton}
use Rattle.automaton.specs.Windows.{windows_of, ones}
use Rattle.promises.specs.Answer.{Answer, served, refused, Served, unless, after}
use Rattle.promises.specs.Text.{events_of, decoded, Readable, Case7, Case13, joint_states}
use Rattle.promises.specs.Rig.{rig_automaton}
use Rattle.promises.specs.Calls.{unless_at, not_below, sized_for}
use Rattle.promises.specs.Windows.{windows, Case21, Case12Windows, WindowsReady, log_rows}
use Rattle.promises.proofs.Checks.{checked_list, sized_for_on, check_passed}
use Rattle.promises.proofs.Buffers.{refused-serves}

-- ---- the rows

-- 'no cells are lent': there is no need in row 8
pub windows-sized : (t : List ℕ) (h : ℕ) (log out : List ℕ) → windows t h log out ≡ sized_for t 0 h [] (log_rows (rig_automaton t) (events_of (decoded t)) h log out)
unfolding windows sized_for
windows-sized t h log out = rw (zero-mul (joint_states t))

after-served : (a b : Answer) → Served (after a b) → Served a × Served b
unfolding Served
after-served (served vs) b s = ((vs, refl), s)
after-served (refused n p) b s = absurd (refused-serves n p s)

tells_21 : (h : ℕ) (log : List ℕ) → Tells (ltb (length log) h || ltb 65535 (length log)) (Case21 h log)
unfolding Case21
tells_21 h log = tells_or (tells_lt (length log) h) (tells_lt 65535 (length log))

tells_12 : (h : ℕ) (log out : List ℕ) → Tells (ltb (length out) (windows_of h log)) (Case12Windows h log out)
unfolding Case12Windows windows_of
tells_12 h log out =
    let t = tells_lt (length out) (suc (length log) - h) in
    record { yes = λ q. let l = t.yes q in (length out, omega arith, omega arith); no = λ q (k, within, short). t.no q (omega arith) }

-- the byte of a window stands within what is written
window-within : (h k : ℕ) (log : List ℕ) → k + h ≤ length log → k < windows_of h log
unfolding windows_of
window-within h k log le = omega arith

module _ (t : List ℕ) (h : ℕ) (log out : List ℕ) where
  A : Automaton
  A = rig_automaton t

  E : ℕ
  E = events_of (decoded t)

  rest : Answer
  rest = log_rows A E h log out

  -- the rows up to 7
  horizon_on : Readable t → (Case7 h → ⊥) → windows t h log out ≡ rest
  unfolding rest A E
  horizon_on r c7 = windows-sized t h log out ∙ sized_for_on t 0 h [] _ r c7 (λ l. let z = rw (zero-mul (joint_states t)) at l in omega arith)

  module _ (c21 : Case21 h log → ⊥) where
    log_on : rest ≡ unless 12 0 (ltb (length out) (windows_of h log)) (unless_at 13 (not_below E) log (served (ones A h log ∷ [])))
    unfolding rest
    log_on = check_passed 21 0 _ _ (tells_false (tells_21 h log) c21)

    room_on : (Case12Windows h log out → ⊥) → rest ≡ unless_at 13 (not_below E) log (served (ones A h log ∷ []))
    room_on c12 = log_on ∙ check_passed 12 0 _ _ (tells_false (tells_12 h log out) c12)

  good : ((p : ℕ) → Case13 t log p → ⊥) → (k : ℕ) → k < length log → leb E (get_or log k 0) ≡ false
  unfolding Case13 E
  good c k lt = tells_false (tells_le (events_of (decoded t)) (get_or log k 0)) (λ le. c k (lt, le))

  windows_is : WindowsReady t h log out → windows t h log out ≡ served (ones (rig_automaton t) h log ∷ [])
  unfolding A
  windows_is w = horizon_on w.readable w.horizon ∙ room_on w.logged w.room ∙ go (checked_list 13 (not_below E) log (served (ones A h log ∷ [])))
    where
      go : ((unless_at 13 (not_below E) log (served (ones A h log ∷ [])) ≡ served (ones A h log ∷ [])) × ((k : ℕ) → k < length log → leb E (get_or log k 0) ≡ false))
          ⊎ ((k : ℕ) × (k < length log) × (unless_at 13 (not_below E) log (served (ones A h log ∷ [])) ≡ refused 13 k) × (leb E (get_or log k 0) ≡ true) × ((j : ℕ) → j < k → leb E (get_or log j 0) ≡ false))
          → unless_at 13 (not_below E) log (served (ones A h log ∷ [])) ≡ served (ones A h log ∷ [])
      go (inl (q, g)) = q
      go (inr (k, lt, q, b, g)) = contra b (good w.listed k lt)

  thirteen_at : (p : ℕ) → Case13 t log p → ((q : ℕ) → q < p → Case13 t log q → ⊥) → unless_at 13 (not_below E) log (served (ones A h log ∷ [])) ≡ refused 13 p
  unfolding Case13 E
  thirteen_at p (lt, le) first = go (checked_list 13 (not_below E) log (served (ones A h log ∷ [])))
    where
      go : ((unless_at 13 (not_below E) log (served (ones A h log ∷ [])) ≡ served (ones A h log ∷ [])) × ((k : ℕ) → k < length log → leb E (get_or log k 0) ≡ false))
          ⊎ ((k : ℕ) × (k < length log) × (unless_at 13 (not_below E) log (served (ones A h log ∷ [])) ≡ refused 13 k) × (leb E (get_or log k 0) ≡ true) × ((j : ℕ) → j < k → leb E (get_or log j 0) ≡ false))
          → unless_at 13 (not_below E) log (served (ones A h log ∷ [])) ≡ refused 13 p
      go (inl (q, g)) = contra (tells_true (tells_le E (get_or log p 0)) le) (g p lt)
      go (inr (k, l, q, b, g)) = q ∙ ap (refused 13) (same (ℕ_trichotomy k p))
        where
          same : (k < p) ⊎ ((k ≡ p) ⊎ (p < k)) → k ≡ p
          same (inl c) = absurd (first k c (l, (tells_le E (get_or log k 0)).yes b))
          same (inr (inl c)) = c
          same (inr (inr c)) = contra (tells_true (tells_le E (get_or log p 0)) le) (g p c)
