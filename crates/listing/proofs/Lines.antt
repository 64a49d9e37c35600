-- A cursor stands at the first line when it is begun, and one line further after each step. Assumes nothing.
use mathlib.Core.Path.{◌≡◌, sym, ap, ◌∙◌}
use mathlib.Core.List.{List}
use Prim.Native.Nat.{ℕ, suc, ◌+◌, ◌-◌, ◌≤◌, ◌<◌}
use native.Mathlib.Omega.{arith}
use lib.ListN.{length, take, length-take}
use lib.Seq.{take_at}
use Rattle.promises.specs.Rig.{rig_automaton, start}
use Rattle.listing.specs.Listing.{text, answer, head_line, follow, horizon, scenario_line}
use Rattle.listing.specs.Printing.{line_at, Leads, Begins, StandsAt}
use Rattle.listing.specs.declared.Cursor.{Cursor}
use Rattle.listing.proofs.Whole.{later_line}

module _ (input : List ℕ) (c : Cursor) (cells table : List ℕ) where
  pub stands_first : (line left : List ℕ) → length cells ≡ 8192 → Begins (answer input) (rig_automaton (text input)) (start (text input)) (horizon input) c line left cells table
      → StandsAt input 0 c cells table left
  unfolding line_at
  stands_first line left long b = record {
    limits = rw long b.limits;
    told = b.first.told;
    written = ap (take c.length) b.first.written ∙ take_at (head_line (answer input)) _ c.length (sym b.first.told);
    comes_next = omega (arith, b.none_yet);
    follows = b.follows;
    idle = b.idle;
    serves = b.serves;
  }

  module _ (k : ℕ) (line : List ℕ) (s : StandsAt input k c cells table line) where
    -- the line is within what it is written to
    pub line_within_lem : c.length ≤ length line
    line_within_lem = omega (arith, s.told, sym (length-take c.length line) ∙ ap length s.written)

    pub stands_next : (n : ℕ) (left : List ℕ) → c.index < c.lines → Leads (scenario_line (text input) c.horizon c.index) n line left
        → StandsAt input (suc k) (record { length = n; index = c.index + 1; lines = c.lines; horizon = c.horizon; states = c.states; start = c.start }) cells table left
    stands_next n left lt w = record {
      limits = record { short = s.limits.short; start_below = s.limits.start_below; few_states = s.limits.few_states; enough = s.limits.enough; few_lines = s.limits.few_lines };
      told = w.told ∙ ap length line_is;
      written = ap (take n) w.written ∙ take_at (scenario_line (text input) c.horizon c.index) _ n (sym w.told) ∙ line_is;
      comes_next = omega (arith, s.comes_next);
      follows = s.follows;
      idle = s.idle;
      serves = λ some. let z = s.serves some in (z.0, record { starts = z.1.starts; exact = z.1.exact; below = z.1.below });
    }
      where
        at : c.index ≡ k
        at = omega (arith, s.comes_next)

        line_is : scenario_line (text input) c.horizon c.index ≡ line_at input (suc k)
        line_is = rw ((s.serves (omega arith)).0, at) (sym (later_line input k (omega (arith, s.comes_next, s.follows))))

    -- whether a line follows
    pub ended : c.lines ≤ c.index → follow (answer input) ≤ k
    ended le = omega (arith, s.comes_next, s.follows)

    pub going : c.index < c.lines → k < follow (answer input)
    going lt = omega (arith, s.comes_next, s.follows)

    -- a step brings the end nearer
    pub nearer : (r : Cursor) (left : List ℕ) → k < follow (answer input) → StandsAt input (suc k) r cells table left → r.lines - r.index < c.lines - c.index
    nearer r left lt t = omega (arith, s.comes_next, t.comes_next, s.follows, t.follows)
