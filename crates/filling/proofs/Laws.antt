-- What is known of a rig that is lent, and what its flags and its table are, once it is pruned, to those who count. Assumes nothing.
use mathlib.Core.Path.{◌≡◌, sym, ap, ◌∙◌}
use mathlib.Core.List.{List}
use Prim.Native.Nat.{ℕ, ◌+◌, ◌*◌, ◌≤◌}
use native.Mathlib.Omega.{arith}
use native.Mathlib.Nat.{mul-le-mul_right}
use lib.ListN.{get_or, get_or-append}
use Rattle.lists.proofs.Tables.{length-tabulate, get_or-tabulate, get_or-stack}
use Rattle.automaton.specs.Automaton.{Automaton}
use Rattle.automaton.specs.Pruning.{live}
use Rattle.automaton.specs.Table.{entry_into, row_into, rows_into, with_table, Pruned, live_flags, with_flags}
use Rattle.rig.specs.Record.{record_automaton, WellFormed}
use Rattle.pruning.proofs.Entries.{length_row_into, length_rows_into, record_distinct, record_few, record_only}
use Rattle.joint.proofs.Digits.{states_few}
use Rattle.checks.specs.declared.loaded.Loaded.{Loaded}
use Rattle.checks.proofs.Records.{well_formed_of}
use Rattle.counting.specs.Tabled.{Tabled, Flagged, Bounded}
use Rattle.counting.proofs.Sums.{tabled_bounded}

module _ (A : Automaton) where
  -- the flags stand at the front
  pub flagged : (fs d : List ℕ) → fs ≡ with_flags A d → Flagged A fs
  unfolding Flagged live_flags
  flagged fs d q x h =
      ap (λ (l : List ℕ). get_or l x 0) q
      ∙ get_or-append (live_flags A) _ 0 x (rw length-tabulate h)
      ∙ get_or-tabulate _ A.states x 0 h

  pruned : (t d : List ℕ) → t ≡ with_table A d → Pruned A t
  unfolding Pruned rows_into row_into
  pruned t d q x c h k =
      ap (λ (l : List ℕ). get_or l (x * 16 + c) 0) q
      ∙ get_or-append (rows_into A (live A) A.states) _ 0 (x * 16 + c) (rw length_rows_into (omega (arith, mul-le-mul_right 16 h)))
      ∙ get_or-stack (row_into A (live A)) 16 (length_row_into A (live A)) A.states x c 0 h k
      ∙ get_or-tabulate (entry_into A (live A) x) 16 c 0 k

-- ---- the rig that is lent

module _ (o : Loaded) where
  pub known : WellFormed o.rig
  known = well_formed_of o.rig o.well_formed

  -- 'The joint states number P, the product of all S, at most 1,024.'
  pub few : o.states ≤ 1024
  few = omega (arith, o.joint, states_few o.rig known)

  -- its pruned table
  module _ (t d : List ℕ) (q : t ≡ with_table (record_automaton o.rig) d) where
    pub tabled : Tabled (record_automaton o.rig) o.states t
    tabled = record {
      states = sym o.joint;
      pruned = pruned (record_automaton o.rig) t d q;
      distinct = record_distinct o.rig known;
      few_events = record_few o.rig known;
      only_events = record_only o.rig known;
    }

    pub bounded : Bounded o.states t
    bounded = tabled_bounded (record_automaton o.rig) o.states t tabled few
