-- Field logs in windows (02 no. 13).
--   log_rows A E h log out      == what the call tells from row 21 on
--   windows t h log out        == the call's answer
--   windows_output t h log out  == the output afterwards
-- and in words:
--   Case21 h log, Case12Windows h log out == the log is too short or too long; the output is too short
--   WindowsReady t h log out   == no case of refusal holds
--   WindowsOwed t h log out    == what the call owes
--   WindowsExamples            == small logs
-- What a departure is, is said in Meaning. Checks go 1 to 6 and 16 to 18 (reading), 7, 21, 12, 13. Assumes nothing.
use Rattle.std.specs.Prelude.{◌≡◌, ◌⊎◌, ◌↔◌, ◌||◌, List, [], ◌∷◌, ℕ, ◌+◌, ◌≤◌, ◌<◌, length, get_or, take, replicate, ltb}
use Rattle.lists.specs.Lists.{sum}
use Rattle.automaton.specs.Automaton.{Automaton}
use Rattle.automaton.specs.Windows.{window, windows_of, marks, ones}
use Rattle.promises.specs.Answer.{Answer, served, refused, Served, after, unless}
use Rattle.promises.specs.Text.{bytes, monitors, events_of, decoded, Readable, Fault, Case7, Case13}
use Rattle.promises.specs.Reading.{reading}
use Rattle.promises.specs.Meaning.{AllAdmit, CarriedOn, Belongs, starts_of, AllAdmitFrom, CarriedOnFrom, Departure}
use Rattle.promises.specs.Rig.{rig_automaton}
use Rattle.promises.specs.Calls.{unless_at, not_below, output_after}
use Rattle.promises.specs.Buffers.{OutputLeft}
use Rattle.promises.specs.Shapes.{Shaped}
use Rattle.promises.specs.Examples.{A, B, closes}

-- from row 21 on, for the automaton A with E events. 21: 'log shorter than h or over 65,535 bytes, place 0, between 7 and 12'. 'Event bytes are checked by 13, output by
-- 12 (byte k for the window from position k, k from 0 to log length less h)'. 'give how many are 1'
abbrev pub log_rows : Automaton → ℕ → ℕ → List ℕ → List ℕ → Answer
log_rows A E h log out =
    unless 21 0 (ltb (length log) h || ltb 65535 (length log))
    (unless 12 0 (ltb (length out) (windows_of h log))
    (unless_at 13 (not_below E) log
    (served (ones A h log ∷ []))))

module _ (t : List ℕ) where
  -- 'A call takes the rig text, h and this log.' 'no cells are lent', so there is no row 8
  unfoldable pub windows : ℕ → List ℕ → List ℕ → Answer
  windows h log out = after (reading t) (unless 7 0 (ltb 1000 h) (log_rows (rig_automaton t) (events_of (decoded t)) h log out))

  unfoldable pub windows_output : ℕ → List ℕ → List ℕ → List ℕ
  windows_output h log out = output_after (windows h log out) (marks (rig_automaton t) h log) out

-- ---- what is owed

-- 21: 'log shorter than h or over 65,535 bytes'
unfoldable pub Case21 : ℕ → List ℕ → Type 0
Case21 h log = (length log < h) ⊎ (65535 < length log)

-- 12: 'byte k for the window from position k, k from 0 to log length less h': a byte for each k
unfoldable pub Case12Windows : ℕ → List ℕ → List ℕ → Type 0
Case12Windows h log out = (k : ℕ) × (k + h ≤ length log) × (length out ≤ k)

pub record WindowsReady (t : List ℕ) (h : ℕ) (log out : List ℕ) : Type 0 where
  pub readable : Readable t
  pub horizon : Case7 h → ⊥
  pub logged : Case21 h log → ⊥
  pub room : Case12Windows h log out → ⊥
  pub listed : (p : ℕ) → Case13 t log p → ⊥

pub record WindowsOwed (t : List ℕ) (h : ℕ) (log out : List ℕ) : Type 0 where
  pub text : (n p : ℕ) → Fault t n p → windows t h log out ≡ refused n p
  pub seven : Readable t → Case7 h → windows t h log out ≡ refused 7 0
  pub twenty_one : Readable t → (Case7 h → ⊥) → Case21 h log → windows t h log out ≡ refused 21 0
  pub twelve : Readable t → (Case7 h → ⊥) → (Case21 h log → ⊥) → Case12Windows h log out → windows t h log out ≡ refused 12 0
  -- place 'position, from 0': the first bad one of the whole log
  pub thirteen : (p : ℕ) → Readable t → (Case7 h → ⊥) → (Case21 h log → ⊥) → (Case12Windows h log out → ⊥) → Case13 t log p
      → ((q : ℕ) → q < p → Case13 t log q → ⊥) → windows t h log out ≡ refused 13 p
  -- '9 and 10 aren't given here'
  pub served_just : Served (windows t h log out) ↔ WindowsReady t h log out
  -- 'The 0s are exactly the departures', and every other byte is 1
  pub departures : WindowsReady t h log out → (k : ℕ) → k + h ≤ length log → (get_or (windows_output t h log out) k 0 ≡ 0) ↔ Departure t (window h k log)
  pub bits : WindowsReady t h log out → (k : ℕ) → k + h ≤ length log → (get_or (windows_output t h log out) k 0 ≡ 0) ⊎ (get_or (windows_output t h log out) k 0 ≡ 1)
  -- 'give how many are 1': of the bytes written
  pub told : WindowsReady t h log out → windows t h log out ≡ served (sum (λ b. b) (take (windows_of h log) (windows_output t h log out)) ∷ [])
  pub output_left : OutputLeft (windows_of h log) (windows t h log out) out (windows_output t h log out)
  -- 'carried on as the third demand now says': from the joint state that the monitors start in it is what that demand says, and what belongs is no departure
  pub start_admits : (w : List ℕ) → AllAdmit t w ↔ AllAdmitFrom t (starts_of (monitors (decoded t))) w
  pub start_carried : (w : List ℕ) (k : ℕ) → CarriedOn t w k ↔ CarriedOnFrom t (starts_of (monitors (decoded t))) w k
  pub belonging : WindowsReady t h log out → (k : ℕ) → k + h ≤ length log → Belongs t h (window h k log) → get_or (windows_output t h log out) k 0 ≡ 1
  -- one value is told, and 0 is no number of refusal
  pub shaped : Shaped 1 (windows t h log out)

-- small logs, worked out apart from the definitions; the output is lent with 7 in every byte
pub record WindowsExamples : Type 0 where
  -- A: two 1s together are a departure. Four windows of two events, and two bytes more
  pub told_A : windows A 2 (0 ∷ 1 ∷ 1 ∷ 0 ∷ 1 ∷ []) (replicate 6 7) ≡ served (3 ∷ [])
  pub bytes_A : windows_output A 2 (0 ∷ 1 ∷ 1 ∷ 0 ∷ 1 ∷ []) (replicate 6 7) ≡ 1 ∷ 0 ∷ 1 ∷ 1 ∷ 7 ∷ 7 ∷ []
  -- one window of all five events
  pub whole_A : windows_output A 5 (0 ∷ 1 ∷ 1 ∷ 0 ∷ 1 ∷ []) (replicate 1 7) ≡ 0 ∷ []
  -- B: event 1 is admitted, and leads where nothing can follow
  pub bytes_B : windows_output B 1 (0 ∷ 1 ∷ 0 ∷ []) (replicate 3 7) ≡ 1 ∷ 0 ∷ 1 ∷ []
  -- some joint state, and not the start: only from 1 does event 0 lead on, and the start is 0
  pub elsewhere : windows_output (bytes "rig\t1\nmon\t2\ngo\t1\t0\t1\n") 1 (0 ∷ 0 ∷ []) (replicate 2 7) ≡ 1 ∷ 1 ∷ []
  -- any step of a `day`: event 0 happens at its step 0 alone, so after it comes no other
  pub any_step : windows_output (bytes "rig\t2\nday\t2\nopen\t0\t0\t1\n") 2 (1 ∷ 0 ∷ 0 ∷ 1 ∷ []) (replicate 3 7) ≡ 1 ∷ 0 ∷ 1 ∷ []
  -- a window may end where the depot is closed
  pub to_the_end : windows_output closes 1 (0 ∷ 0 ∷ []) (replicate 2 7) ≡ 1 ∷ 1 ∷ []
  pub past_the_end : windows_output closes 2 (0 ∷ 0 ∷ []) (replicate 1 7) ≡ 0 ∷ []
  -- of no events there is one window more than events, and it can be walked if some state is live
  pub no_events : windows_output A 0 (0 ∷ []) (replicate 2 7) ≡ 1 ∷ 1 ∷ []
  pub none_live : windows_output (bytes "rig\t1\nmon\t1\n") 0 (0 ∷ []) (replicate 2 7) ≡ 0 ∷ 0 ∷ []
  -- 7 before 21 before 12 before 13, also of a byte past the last window's beginning
  pub all_four : windows A 1001 (2 ∷ []) [] ≡ refused 7 0
  pub too_short : windows A 2 (2 ∷ []) [] ≡ refused 21 0
  pub no_room : windows A 1 (0 ∷ 2 ∷ []) (replicate 1 7) ≡ refused 12 0
  pub last_byte : windows A 2 (0 ∷ 2 ∷ []) (replicate 1 7) ≡ refused 13 1
