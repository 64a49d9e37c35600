-- Draws from a seed (02 no. 11).
--   thrown_away total w r == of `total` raw numbers, r is one that is thrown away, with w to choose from
--   taken limit w s      == the raw number that a draw takes from the state s on, and the state after it; none if the first `limit` are all thrown away
--   Outcome              == the draws, or the place of the first that is not made; onto d o puts d before the draws of o
--   draws_from limit n z i s == z draws from place i on, from the state s
--   outcome n z seed limit  == z draws from the seed; said, made: its answer and its draws
--   draws, draws_output   == the call's answer, and the output afterwards
--   draw_list             == the draws that stand in the output
-- and in words, apart from the definitions above:
--   TakenAt limit w s r k == r is the raw number k, from 0, after the state s, and the first that isn't thrown away
--   AllThrown limit w s  == all raw numbers of a draw are thrown away
--   Chain limit n i s ds u == the draws ds, from place i on, are made from the state s on, and u is the state after them
--   giving total w v     == how many of `total` raw numbers give v, with w to choose from
--   FairDraws            == each value of a draw has the same number of raw numbers that give it
--   DrawsOwed            == what the call owes
--   CompleteFromSeed     == the shuffle by the draws of a seed is complete
--   DrawsExamples        == small calls
-- Checks go 12, 15, 19. Assumes nothing.
use Rattle.std.specs.Prelude.{◌≡◌, ◌↔◌, Bool, not, ◌&&◌, List, [], ◌∷◌, ℕ, zero, suc, ◌+◌, ◌-◌, ◌/◌, ◌%◌, ◌^◌, ◌≤◌, ◌<◌, length, take, ltb, eqb}
use Rattle.std.proofs.Math.Option.{Option, none, some}
use Rattle.lists.specs.Lists.{pick, count}
use Rattle.promises.specs.Answer.{Answer, served, refused, Served, unless}
use Rattle.promises.specs.Text.{Case8Scratch, Case12Draws}
use Rattle.promises.specs.Calls.{output_after}
use Rattle.promises.specs.Demand3.{Calls, ValidDraws, Cells, Room, Complete}
use Rattle.promises.specs.Buffers.{OutputLeft}
use Rattle.promises.specs.Shapes.{Shaped}
use Rattle.promises.specs.SplitMix.{next_state, raw, advance}

-- ---- one draw

-- 'a raw number below 2^64 mod w is thrown away', for any number in the place of 2^64
unfoldable pub thrown_away : ℕ → ℕ → ℕ → Bool
thrown_away total w r = ltb r (total % w)

-- 'The caller gives the most raw numbers per draw'
unfoldable pub taken : ℕ → ℕ → ℕ → Option (ℕ × ℕ)
taken zero w s = none
taken (suc limit) w s = pick (thrown_away (2 ^ 64) w (raw s)) (taken limit w (next_state s)) (some (raw s, next_state s))

-- ---- all draws

pub data Outcome : Type 0 where
  drawn : List ℕ → Outcome
  failed : ℕ → Outcome

unfoldable pub onto : ℕ → Outcome → Outcome
onto d (drawn ds) = drawn (d ∷ ds)
onto d (failed i) = failed i

-- 'With w = n−i, .. the draw is i plus the raw number mod w'. The state runs on from draw to draw.
unfoldable pub draws_from : ℕ → ℕ → ℕ → ℕ → ℕ → Outcome
draws_from limit n zero i s = drawn []
draws_from limit n (suc z) i s = next (taken limit (n - i) s) (draws_from limit n z (suc i))
  where
    next : Option (ℕ × ℕ) → (ℕ → Outcome) → Outcome
    next none more = failed i
    next (some (r, u)) more = onto (i + r % (n - i)) (more u)

-- 'The state begins as the seed.'
unfoldable pub outcome : ℕ → ℕ → ℕ → ℕ → Outcome
outcome n z seed limit = draws_from limit n z 0 seed

unfoldable pub said : Outcome → Answer
said (drawn ds) = served []
said (failed i) = refused 19 i

unfoldable pub made : Outcome → List ℕ
made (drawn ds) = ds
made (failed i) = []

-- ---- the call

-- '12 if it is shorter'; 'More draws than n are refused 15, place n'; '19, .. place the first such i, after 15'
unfoldable pub draws : ℕ → ℕ → ℕ → ℕ → List ℕ → Answer
draws n z seed limit out =
    unless 12 0 (ltb (length out) z)
    (unless 15 n (ltb n z)
    (said (outcome n z seed limit)))

-- 'The first z numbers of an output become the draws ..; the rest, and all of it after a refusal, keep theirs.'
unfoldable pub draws_output : ℕ → ℕ → ℕ → ℕ → List ℕ → List ℕ
draws_output n z seed limit out = output_after (draws n z seed limit out) (made (outcome n z seed limit)) out

unfoldable pub draw_list : ℕ → ℕ → ℕ → ℕ → List ℕ → List ℕ
draw_list n z seed limit out = take z (draws_output n z seed limit out)

-- ---- in words

-- 'a raw number below 2^64 mod w is thrown away'; 'The caller gives the most raw numbers per draw'
pub record TakenAt (limit w s r k : ℕ) : Type 0 where
  pub within : k < limit
  pub is : raw (advance k s) ≡ r
  pub kept : 2 ^ 64 % w ≤ r
  pub thrown : (m : ℕ) → m < k → raw (advance m s) < 2 ^ 64 % w

-- 'a draw had all its raw numbers thrown away'
unfoldable pub AllThrown : ℕ → ℕ → ℕ → Type 0
AllThrown limit w s = (m : ℕ) → m < limit → raw (advance m s) < 2 ^ 64 % w

-- each draw takes a raw number from where the one before it left the state
unfoldable pub Chain : ℕ → ℕ → ℕ → ℕ → List ℕ → ℕ → Type 0
Chain limit n i s [] u = s ≡ u
Chain limit n i s (d ∷ ds) u =
    (r : ℕ) × (k : ℕ) × TakenAt limit (n - i) s r k × (d ≡ i + r % (n - i)) × Chain limit n (suc i) (advance (suc k) s) ds u

unfoldable pub giving : ℕ → ℕ → ℕ → ℕ
giving total w v = count (λ r. not (thrown_away total w r) && eqb (r % w) v) total

-- why 'a raw number below 2^64 mod w is thrown away': each value of a draw has the same number of raw numbers that give it
pub record FairDraws : Type 0 where
  -- there are 2^64 raw numbers
  pub below : (s : ℕ) → raw s < 2 ^ 64
  pub even : (w v : ℕ) → v < w → giving (2 ^ 64) w v ≡ 2 ^ 64 / w

pub record DrawsOwed (n z seed limit : ℕ) (out : List ℕ) : Type 0 where
  -- 'The first z numbers of an output become the draws': served are just those that are made so, z of them
  pub just : z ≤ length out → z ≤ n
      → Served (draws n z seed limit out) ↔ ((ds : List ℕ) × (u : ℕ) × (length ds ≡ z) × Chain limit n 0 seed ds u × (draw_list n z seed limit out ≡ ds))
  -- and they are valid
  pub valid : Served (draws n z seed limit out) → (length (draw_list n z seed limit out) ≡ z) × ValidDraws n (draw_list n z seed limit out)
  -- '12 if it is shorter'
  pub twelve : length out < z → draws n z seed limit out ≡ refused 12 0
  -- 'the rest, and all of it after a refusal, keep theirs'
  pub output_left : OutputLeft z (draws n z seed limit out) out (draws_output n z seed limit out)
  -- 'More draws than n are refused 15, place n.'
  pub fifteen : z ≤ length out → n < z → draws n z seed limit out ≡ refused 15 n
  -- '19, a draw had all its raw numbers thrown away .., place the first such i, after 15'
  pub nineteen : z ≤ length out → z ≤ n → (i : ℕ) → (draws n z seed limit out ≡ refused 19 i)
      ↔ ((i < z) × (ds : List ℕ) × (u : ℕ) × (length ds ≡ i) × Chain limit n 0 seed ds u × AllThrown limit (n - i) u)
  -- '(so always for a limit of 0 and any draws)'
  pub limit_0 : limit ≡ 0 → 0 < z → z ≤ length out → z ≤ n → draws n z seed limit out ≡ refused 19 0
  -- no value is told, and 0 is no number of refusal
  pub shaped : Shaped 0 (draws n z seed limit out)

-- 'A shuffled list from a seed is complete as one from the stick was': demand 3, with the draws of a seed, as many as belong, in the place of a stick's
unfoldable pub CompleteFromSeed : Calls → List ℕ → ℕ → List (List ℕ) → Type 0
CompleteFromSeed C t h L =
    (seed limit : ℕ) (d scratch o cells out : List ℕ) → Served (draws (length L) (length L) seed limit d)
    → (ds : List ℕ) → ds ≡ draw_list (length L) (length L) seed limit d
    → (Case8Scratch ds scratch → ⊥) → (Case12Draws ds o → ⊥) → Cells C t h cells → Room C t h ds out
    → Complete C t h (length L) ds scratch o cells out

-- small calls, worked out apart from the definitions
pub record DrawsExamples : Type 0 where
  -- the remainders of the published vectors by 5, 4, 3, 2 and 1, each after its place; the rest of the output is kept
  pub five : draws_output 5 5 1234567 1 (9 ∷ 9 ∷ 9 ∷ 9 ∷ 9 ∷ 9 ∷ []) ≡ 2 ∷ 2 ∷ 2 ∷ 4 ∷ 4 ∷ 9 ∷ []
  -- of 2^63 + 8, where nearly half is thrown away: before the four draws one raw number, none, two and one
  pub half_thrown : draws_output 9223372036854775816 4 3 3 (9 ∷ 9 ∷ 9 ∷ 9 ∷ [])
      ≡ 3694763184872335745 ∷ 2084015055746161915 ∷ 2512858195355979523 ∷ 7170589470788784660 ∷ []
  -- so with two raw numbers per draw the third can't be made, and with one the first
  pub third_fails : draws 9223372036854775816 4 3 2 (9 ∷ 9 ∷ 9 ∷ 9 ∷ []) ≡ refused 19 2
  pub first_fails : draws 9223372036854775816 4 3 1 (9 ∷ 9 ∷ 9 ∷ 9 ∷ []) ≡ refused 19 0
