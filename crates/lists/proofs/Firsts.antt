-- What is found first in a list. Assumes nothing.
use mathlib.Core.Path.{◌≡◌, refl, sym, ◌∙◌}
use mathlib.Core.Logic.{◌↔◌}
use mathlib.Core.Bool.{◌||◌}
use mathlib.Core.List.Memᴰ.{head as here}
use mathlib.Core.List.Memᴰ.{tail as there}
use mathlib.Core.List.{List, [], ◌∷◌, ◌++◌, Memᴰ as In}
use mathlib.Core.Option.{Option, none, some, or_else, none-ne-some}
use Rattle.lists.specs.Lists.{any, first_of, is_some}
use Rattle.lists.proofs.Tests.{contra}
use Rattle.lists.proofs.Tells.{Tells}

pub or-none : {B : Type 0} (o : Option B) → or_else o none ≡ o
unfolding or_else
or-none none = refl
or-none (some u) = refl

module _ {A B : Type 0} (f : A → Option B) where
  -- in one element more it is looked for where it was not found before
  pub first_snoc : (l : List A) (x : A) → first_of f (l ++ (x ∷ [])) ≡ or_else (first_of f l) (f x)
  unfolding first_of or_else
  first_snoc [] x = or-none (f x)
  first_snoc (y ∷ l) x = step (f y) (first_snoc l x)
    where
      step : (o : Option B) → first_of f (l ++ (x ∷ [])) ≡ or_else (first_of f l) (f x) → or_else o (first_of f (l ++ (x ∷ []))) ≡ or_else (or_else o (first_of f l)) (f x)
      step none ih = ih
      step (some u) ih = refl

  -- something is found where some element has something
  pub first_any : (l : List A) → is_some (first_of f l) ≡ any (λ x. is_some (f x)) l
  unfolding first_of or_else
  first_any [] = refl
  first_any (x ∷ l) = step (f x) (first_any l)
    where
      step : (o : Option B) → is_some (first_of f l) ≡ any (λ x. is_some (f x)) l → is_some (or_else o (first_of f l)) ≡ (is_some o || any (λ x. is_some (f x)) l)
      step none ih = ih
      step (some u) ih = refl

  -- where f finds b in the element g b only
  module _ (g : B → A) (is : (x : A) (b : B) → (f x ≡ some b) ↔ (x ≡ g b)) where
    pub first_in : (l : List A) (b : B) → first_of f l ≡ some b → In (g b) l
    unfolding first_of or_else
    first_in [] b q = absurd (none-ne-some b q)
    first_in (x ∷ l) b q = step (f x) refl (first_in l b)
      where
        step : (o : Option B) → f x ≡ o → (first_of f l ≡ some b → In (g b) l) → In (g b) (x ∷ l)
        step none t ih = there (ih (rw t at q))
        step (some c) t ih = here (sym ((is x b).0 (t ∙ (rw t at q))))

    pub in_first : (l : List A) (b : B) → In (g b) l → (c : B) × (first_of f l ≡ some c)
    unfolding first_of or_else
    in_first [] b x' = elim x' [ ]
    in_first (x ∷ l) b (here r) = (b, rw ((is x b).1 (sym r)))
    in_first (x ∷ l) b (there i) = step (f x) (in_first l b i)
      where
        step : (o : Option B) → (c : B) × (first_of f l ≡ some c) → (c : B) × (or_else o (first_of f l) ≡ some c)
        step none ih = ih
        step (some c) ih = (c, refl)

    pub tells_first : (l : List A) → Tells (is_some (first_of f l)) ((b : B) × In (g b) l)
    tells_first l = step (first_of f l) refl
      where
        step : (o : Option B) → first_of f l ≡ o → Tells (is_some o) ((b : B) × In (g b) l)
        step none q = record { yes = λ t. contra t refl; no = λ t (b, i). let (c, r) = in_first l b i in none-ne-some c (sym q ∙ r) }
        step (some b) q = record { yes = λ t. (b, first_in l b q); no = λ t h. contra refl t }
