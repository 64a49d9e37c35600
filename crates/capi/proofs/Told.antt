-- A C caller reads the answer.
-- Why: no refusal has the number 0, and a served call tells as many values as it has words for. Assumes nothing.
use mathlib.Core.Path.{◌≡◌, refl}
use mathlib.Core.Logic.{◌↔◌}
use mathlib.Core.List.{[], ◌∷◌}
use Prim.Native.Nat.{ℕ, zero, suc}
use native.Mathlib.Omega.{arith}
use Rattle.promises.specs.Answer.{Answer, served, refused, Served, Refuses}
use Rattle.promises.specs.Generator.{generator}
use Rattle.promises.specs.Shapes.{Shaped}
use Rattle.promises.proofs.Shapes.{shapes}
use Rattle.promises.proofs.Small.{small_owed}
use Rattle.promises.proofs.Forward.{forward_owed}
use Rattle.promises.proofs.Draws.{draws_owed}
use Rattle.promises.proofs.Sheets.{sheet_owed}
use Rattle.capi.specs.Words.{number_of}
use Rattle.capi.specs.Told.{WordsTold, IndexTold, PlaceTold, Told}

zero_told : (m : ℕ) (a : Answer) → Shaped m a → (number_of a ≡ 0) ↔ Served a
unfolding Shaped Served
zero_told m (served vs) s = (λ q. (vs, refl), λ v. refl)
zero_told m (refused n p) ne = (λ q. absurd (ne q), λ (vs, q). let z : ◌≡◌ {A = ℕ} 0 1 = cc in absurd (omega arith))

words_told : (a : Answer) → Shaped 2 a → WordsTold a
unfolding Shaped Refuses
words_told (served vs) s = record { zero_served = zero_told 2 (served vs) s; told = refl; two = s; second = λ (n, p, q). let z : ◌≡◌ {A = ℕ} 0 1 = cc in absurd (omega arith) }
words_told (refused zero p) ne = absurd (ne refl)
words_told (refused (suc n) p) ne = record { zero_served = zero_told 2 (refused (suc n) p) ne; told = refl; two = refl; second = λ r. refl }

index-told : (a : Answer) → Shaped 1 a → IndexTold a
unfolding Shaped
index-told (served []) s = absurd (omega arith)
index-told (served (i ∷ [])) s = record { zero_served = zero_told 1 (served (i ∷ [])) s; told = refl }
index-told (served (i ∷ (j ∷ vs))) s = absurd (omega arith)
index-told (refused zero p) ne = absurd (ne refl)
index-told (refused (suc n) p) ne = record { zero_served = zero_told 1 (refused (suc n) p) ne; told = refl }

place_told : (a : Answer) → Shaped 0 a → PlaceTold a
unfolding Shaped Served
place_told (served []) s = record { zero_served = zero_told 0 (served []) s; told = refl; no_place = λ v. refl }
place_told (served (v ∷ vs)) s = absurd (omega arith)
place_told (refused zero p) ne = absurd (ne refl)
place_told (refused (suc n) p) ne = record { zero_served = zero_told 0 (refused (suc n) p) ne; told = refl; no_place = λ (vs, q). let z : ◌≡◌ {A = ℕ} 0 1 = cc in absurd (omega arith) }

pub told : Told
unfolding generator
told = record {
  of_count = λ t h cells. words_told _ (shapes.of_count t h cells);
  of_forward = λ t h cells. words_told _ (forward_owed t h cells).shaped;
  of_scenarios = λ t h is cells out. place_told _ (shapes.of_scenarios t h is cells out);
  of_small = λ t h is cells out. place_told _ (small_owed t h is cells out).shaped;
  of_index = λ t s cells. index-told _ (shapes.of_index t s cells);
  of_shuffle = λ n ds scratch out. place_told _ (shapes.of_shuffle n ds scratch out);
  of_draws = λ n z seed limit out. place_told _ (draws_owed n z seed limit out).shaped;
  of_sheet = λ m h g scenarios out. words_told _ (sheet_owed m h g scenarios out).shaped;
}
