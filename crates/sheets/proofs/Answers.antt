-- The answer and the output in each case that the call tells apart. Assumes nothing.
use mathlib.Core.Path.{◌≡◌, sym}
use mathlib.Core.Logic.{◌⊎◌, inl, inr, ◌≢◌}
use mathlib.Core.List.{List, [], ◌∷◌, ◌++◌}
use Prim.Native.Nat.{ℕ, ◌*◌, ◌/◌, ◌≤◌, ◌<◌}
use native.Mathlib.Omega.{arith}
use native.Mathlib.Nat.{div-lt_iff_lt-mul}
use lib.ListN.{length, drop}
use Rattle.promises.specs.Answer.{served, refused}
use Rattle.promises.specs.Text.{Case7}
use Rattle.promises.specs.Calls.{output_after}
use Rattle.promises.specs.Sheets.{sheet, events, scenario, sheet_text, sheet_call, sheet_output, Case20, Case12Sheet}
use Rattle.promises.proofs.Sheets.{call_is, sheet_owed}
use Rattle.sheets.proofs.Parts.{sheet_sevens}

module _ (m h g : ℕ) (scenarios out : List ℕ) where
  left : (n p : ℕ) → sheet_call m h g scenarios out ≡ refused n p → (refused n p ≡ sheet_call m h g scenarios out) × (out ≡ sheet_output m h g scenarios out)
  unfolding sheet_output output_after
  left n p q = (sym q, rw q)

  pub refused_7 : 1000 < h → (refused 7 0 ≡ sheet_call m h g scenarios out) × (out ≡ sheet_output m h g scenarios out)
  refused_7 c = left 7 0 ((sheet_owed m h g scenarios out).seven (unfold Case7 in c))

  module _ (few : h ≤ 1000) where
    no_7 : Case7 h → ⊥
    unfolding Case7
    no_7 c = omega arith

    pub refused_20 : g ≡ 0 → (refused 20 0 ≡ sheet_call m h g scenarios out) × (out ≡ sheet_output m h g scenarios out)
    refused_20 c = left 20 0 ((sheet_owed m h g scenarios out).twenty no_7 (unfold Case20 in c))

    module _ (spaced : g ≢ 0) where
      refused_12 : (length scenarios < m * h) ⊎ (length out < length (sheet_text m h g scenarios)) → (refused 12 0 ≡ sheet_call m h g scenarios out) × (out ≡ sheet_output m h g scenarios out)
      refused_12 c = left 12 0 ((sheet_owed m h g scenarios out).twelve no_7 (unfold Case20 in spaced) (unfold Case12Sheet in c))

      pub too_few : length scenarios < m * h → (refused 12 0 ≡ sheet_call m h g scenarios out) × (out ≡ sheet_output m h g scenarios out)
      too_few c = refused_12 (inl c)

      pub too_long : length out < length (sheet_text m h g scenarios) → (refused 12 0 ≡ sheet_call m h g scenarios out) × (out ≡ sheet_output m h g scenarios out)
      too_long c = refused_12 (inr c)

      pub too_many : length out / 7 < m → (refused 12 0 ≡ sheet_call m h g scenarios out) × (out ≡ sheet_output m h g scenarios out)
      too_many c = too_long (omega (arith, (div-lt_iff_lt-mul {k = 7} {x = length out} {y = m} (omega arith)).0 c, sheet_sevens h g scenarios m))

      pub all_served : m * h ≤ length scenarios → length (sheet_text m h g scenarios) ≤ length out
          → (served (length (sheet_text m h g scenarios) ∷ events (sheet g (scenario h scenarios) m) ∷ []) ≡ sheet_call m h g scenarios out)
          × (sheet_text m h g scenarios ++ drop (length (sheet_text m h g scenarios)) out ≡ sheet_output m h g scenarios out)
      unfolding sheet_output output_after Case20 Case12Sheet
      all_served enough fits = (sym is, rw is)
        where
          room : (length scenarios < m * h) ⊎ (length out < length (sheet_text m h g scenarios)) → ⊥
          room (inl c) = omega arith
          room (inr c) = omega arith

          is : sheet_call m h g scenarios out ≡ served (length (sheet_text m h g scenarios) ∷ events (sheet g (scenario h scenarios) m) ∷ [])
          is = call_is m h g scenarios out (record { horizon = no_7; spaced = spaced; room = room })
