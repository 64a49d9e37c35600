-- How a line of the latest monitor is refused, whatever its form: the first of its cases that holds. Assumes nothing.
use mathlib.Core.Path.{◌≡◌, refl, sym, subst}
use mathlib.Core.Logic.{inl, inr}
use mathlib.Core.Option.{Option, none, some}
use mathlib.Core.List.{List}
use Prim.Native.Nat.{ℕ, suc}
use lib.ListN.{length}
use Rattle.promises.specs.Text.{Kind, Part, Line, continues, Monitor, monitors, latest, OfLatest, continuing, cases, Case2, Case5, Case3, Case16, Case17, Case18, Case4, Case6, Sound, LineFault, Fault}
use Rattle.promises.specs.Sentences.{Continues}
use Rattle.promises.proofs.Reading.{bad_line}

module _ (front : List Line) (p : Part) (right : Kind → Type 0) (out : Monitor → Type 0) (clash : ℕ → Type 0) (again : Monitor → Type 0)
    (are : cases front (continues p) ≡ continuing front right out clash again) where
  formed : Case2 front (continues p) → ⊥
  unfolding Case2 continuing
  formed h = subst (λ c. c.misformed) are h

  misplaced : ((m : Monitor) → latest (monitors front) ≡ some m → right m.kind → ⊥) → Case5 front (continues p)
  unfolding Case5 continuing
  misplaced isn't = subst (λ c. c.misplaced) (sym are) (wrong (latest (monitors front)) refl)
    where
      wrong : (o : Option Monitor) → latest (monitors front) ≡ o → OfLatest (λ m. right m.kind) (latest (monitors front)) → ⊥
      wrong none q h = unfold OfLatest in rw q at h
      wrong (some m) q h = isn't m q (unfold OfLatest in rw q at h)

  -- the cases by number are those of the form
  numbered : (n : ℕ) → (cases front (continues p)).clash n → clash n
  unfolding continuing
  numbered n h = subst (λ c. c.clash n) are h

  module _ (m : Monitor) (last : latest (monitors front) ≡ some m) (is : right m.kind) where
    placed : Case5 front (continues p) → ⊥
    unfolding Case5 continuing OfLatest
    placed elsewhere = (subst (λ c. c.misplaced) are elsewhere) (rw last is)

    outside : out m → Case3 front (continues p)
    unfolding Case3 continuing OfLatest
    outside o = subst (λ c. c.out_of_range) (sym are) (rw last o)

    ranged : (out m → ⊥) → Case3 front (continues p) → ⊥
    unfolding Case3 continuing OfLatest
    ranged n h = n (rw last at (subst (λ c. c.out_of_range) are h))

    repeated : again m → Case4 front (continues p)
    unfolding Case4 continuing OfLatest
    repeated a = subst (λ c. c.again) (sym are) (rw last a)

    new : (again m → ⊥) → Case4 front (continues p) → ⊥
    unfolding Case4 continuing OfLatest
    new n h = n (rw last at (subst (λ c. c.again) are h))

    -- no case holds
    pub sound_line : (out m → ⊥) → ((n : ℕ) → clash n → ⊥) → (again m → ⊥) → Sound front (continues p)
    unfolding Case16 Case17 Case18 Case6 continuing
    sound_line o c a = record {
      formed = formed;
      placed = placed;
      ranged = ranged o;
      named_once = λ h. c 16 (numbered 16 h);
      unequal = λ h. c 17 (numbered 17 h);
      nonempty = λ h. c 18 (numbered 18 h);
      new = new a;
      fits = λ h. subst (λ c. c.too_many) are h;
    }

  module _ (t : List ℕ) (z : Continues t front p) where
    bad : (n : ℕ) → LineFault front (continues p) n → Fault t n (suc (length front))
    bad n f = bad_line t front (continues p) z.back n z.short z.lines_are z.sound f

    pub wrong_kind : ((m : Monitor) → latest (monitors front) ≡ some m → right m.kind → ⊥) → Fault t 5 (suc (length front))
    unfolding LineFault
    wrong_kind isn't = bad 5 (inr (formed, inl (misplaced isn't, refl)))

    module _ (m : Monitor) (last : latest (monitors front) ≡ some m) (is : right m.kind) where
      pub out_of_range : out m → Fault t 3 (suc (length front))
      unfolding LineFault
      out_of_range o = bad 3 (inr (formed, inr (placed m last is, inl (outside m last is o, refl))))

      -- 18 is the only case of its group
      pub clashes : (out m → ⊥) → (clash 16 → ⊥) → (clash 17 → ⊥) → clash 18 → Fault t 18 (suc (length front))
      unfolding LineFault Case16 Case17 Case18 continuing
      clashes o c d e = bad 18 (inr (formed, inr (placed m last is, inr (ranged m last is o, inr (λ h. c (numbered 16 h), inr (λ h. d (numbered 17 h), inl (subst (λ c. c.clash 18) (sym are) e, refl)))))))

      pub given_again : (out m → ⊥) → ((n : ℕ) → clash n → ⊥) → again m → Fault t 4 (suc (length front))
      unfolding LineFault Case16 Case17 Case18 continuing
      given_again o c a = bad 4 (inr (formed, inr (placed m last is, inr (ranged m last is o, inr (λ h. c 16 (numbered 16 h), inr (λ h. c 17 (numbered 17 h), inr (λ h. c 18 (numbered 18 h), inl (repeated m last is a, refl))))))))
