-- The text of commands, line by line, in the bytes that the line writer writes. Assumes nothing.
use mathlib.Core.Path.{◌≡◌, refl, sym, ap, ◌∙◌}
use mathlib.Core.Logic.{◌≢◌}
use mathlib.Core.List.{List, [], ◌∷◌, ◌++◌, map, append_assoc, append-nil}
use Prim.Native.Nat.{ℕ, ◌+◌, ◌≤◌}
use Prim.Native.String.{String}
use native.Mathlib.Omega.{arith}
use lib.ListN.{length, length-append}
use lib.Dec.{eqb}
use borrow.Author.Tests.{eq-eqb, ne_eqb, eqb-true, eqb-false}
use Rattle.lists.specs.Lists.{concat_map}
use Rattle.lists.specs.Decimal.{decimal}
use Rattle.lists.proofs.Tests.{case}
use Rattle.line.specs.Line.{field_bytes, line_from}
use Rattle.line.proofs.Pieces.{number-long}
use Rattle.promises.specs.Text.{bytes}
use Rattle.promises.specs.Spelling.{preceded, spelled, joined}
use Rattle.promises.specs.Sheets.{Command, load, leg, command_line, text}

preceded-fields : (ns : List ℕ) → preceded 9 (map decimal ns) ≡ concat_map field_bytes ns
preceded-fields [] = refl
preceded-fields (n ∷ ns) = ap (λ l. field_bytes n ++ l) (preceded-fields ns)

spelled_line : (w : String) (ns rest : List ℕ) → spelled w ns ++ 10 ∷ rest ≡ line_from (bytes w) ns ++ rest
unfolding spelled
spelled_line w ns rest = rw preceded-fields (sym (append_assoc (bytes w ++ concat_map field_bytes ns) (10 ∷ []) rest))

-- ---- commands one after the other

pub text-load : (j : ℕ) (cs : List Command) → text (load j ∷ cs) ≡ line_from (bytes "load") (j ∷ []) ++ text cs
unfolding text joined command_line
text-load j cs = spelled_line "load" (j ∷ []) (joined (map command_line cs))

pub text-append : (cs ds : List Command) → text (cs ++ ds) ≡ text cs ++ text ds
unfolding text joined
text-append [] ds = refl
text-append (c ∷ cs) ds = ap (λ l. command_line c ++ 10 ∷ l) (text-append cs ds) ∙ sym (append_assoc (command_line c) (10 ∷ text cs) (text ds))

-- ---- a leg

module _ (g j : ℕ) (es : List ℕ) where
  pub leg_saved : length es ≡ g → text (leg g j es) ≡ line_from (bytes "run") es ++ line_from (bytes "save") (j ∷ [])
  unfolding text joined command_line leg
  leg_saved q =
      rw (eq-eqb (length es) g q)
      (spelled_line "run" es (spelled "save" (j ∷ []) ++ 10 ∷ []) ∙ ap (λ l. line_from (bytes "run") es ++ l) (spelled_line "save" (j ∷ []) [] ∙ append-nil (line_from (bytes "save") (j ∷ []))))

  pub leg_unsaved : length es ≢ g → text (leg g j es) ≡ line_from (bytes "run") es
  unfolding text joined command_line leg
  leg_unsaved n = rw (ne_eqb (length es) g n) (spelled_line "run" es [] ∙ append-nil (line_from (bytes "run") es))

  pub saved_long : length es ≡ g → length (text (leg g j es)) ≡ length (line_from (bytes "run") es) + length (line_from (bytes "save") (j ∷ []))
  saved_long q = ap length (leg_saved q) ∙ length-append (line_from (bytes "run") es) (line_from (bytes "save") (j ∷ []))

  pub run_within : length (line_from (bytes "run") es) ≤ length (text (leg g j es))
  run_within = case (eqb (length es) g) (λ t. omega (arith, saved_long (eqb-true (length es) g t))) (λ t. omega (arith, ap length (leg_unsaved (eqb-false (length es) g t))))

pub run_long : (es : List ℕ) → length (line_from (bytes "run") es) ≡ 4 + length (concat_map field_bytes es)
run_long es = rw (length-append, length-append) (omega arith)

-- a `load` or `save` line
pub slot-long : (w : String) (j : ℕ) → length (bytes w) ≡ 4 → length (line_from (bytes w) (j ∷ [])) ≡ 5 + length (field_bytes j)
slot-long w j four = number-long (bytes w) j ∙ omega arith
