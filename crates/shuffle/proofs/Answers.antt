-- What the call answers and leaves, case by case: a refusal leaves every buffer as it was; a served call puts the shuffle out and keeps what
-- lies past the first 2 × z scratch numbers. Assumes nothing.
use Rattle.std.proofs.Common.{◌≡◌, ℕ, ◌*◌, ◌<◌, ◌≤◌, List, [], ◌++◌, length, drop, sym, refl, le-ltb, lt-ltb}
use Rattle.automaton.specs.Shuffle.{shuffle as swapped}
use Rattle.automaton.proofs.Shuffle.{length-shuffle}
use Rattle.promises.specs.Answer.{served, refused}
use Rattle.promises.specs.Calls.{first_bad, bad_draw, unless_at, output_after, shuffle as promised, shuffled as promised_output, ScratchKept}
use Rattle.shuffle.specs.Places.{Kept}

module _ (n : ℕ) (ds s out : List ℕ) where
  pub short_scratch : length s < 2 * length ds → promised n ds s out ≡ refused 8 0
  unfolding promised
  short_scratch h = rw (lt-ltb (length s) (2 * length ds) h)

  pub short_output : 2 * length ds ≤ length s → length out < length ds → promised n ds s out ≡ refused 12 0
  unfolding promised
  short_output a h = rw (le-ltb (length s) (2 * length ds) a, lt-ltb (length out) (length ds) h)

  pub bad_draw_lem : (p : ℕ) → 2 * length ds ≤ length s → length ds ≤ length out → p ≡ first_bad (bad_draw n) ds → p < length ds → promised n ds s out ≡ refused 15 p
  unfolding promised unless_at
  bad_draw_lem p a b e h = rw (le-ltb (length s) (2 * length ds) a, le-ltb (length out) (length ds) b, ← e, lt-ltb p (length ds) h)

  pub good_call : 2 * length ds ≤ length s → length ds ≤ length out → length ds ≤ first_bad (bad_draw n) ds → promised n ds s out ≡ served []
  unfolding promised unless_at
  good_call a b h = rw (le-ltb (length s) (2 * length ds) a, le-ltb (length out) (length ds) b, le-ltb (first_bad (bad_draw n) ds) (length ds) h)

  pub refusal : (k p : ℕ) → promised n ds s out ≡ refused k p
      → (refused k p ≡ promised n ds s out) × ((out ≡ promised_output n ds s out) × ScratchKept (promised n ds s out) ds s s)
  unfolding promised_output output_after ScratchKept
  refusal k p e = (sym e, (rw e, rw e refl))

  pub service : (left fresh : List ℕ) → promised n ds s out ≡ served [] → fresh ≡ swapped ds ++ drop (length ds) out → Kept ds s left
      → (served [] ≡ promised n ds s out) × ((fresh ≡ promised_output n ds s out) × ScratchKept (promised n ds s out) ds s left)
  unfolding promised_output output_after ScratchKept
  service left fresh e f k = (sym e, (rw (e, length-shuffle ds) f, rw e (k.long, k.rest)))
