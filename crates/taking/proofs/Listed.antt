-- The library's word for some element that passes a test is that of `lists`. Assumes nothing.
use mathlib.Core.Path.{◌≡◌, refl, ap}
use mathlib.Core.Bool.{Bool, ◌||◌}
use mathlib.Core.List.{List, [], ◌∷◌}
use Prim.Native.Nat.{ℕ}
use Rattle.std.specs.List.{list_any}
use Rattle.lists.specs.Lists.{any}

pub list_any-any : (f : ℕ → Bool) (l : List ℕ) → list_any f l ≡ any f l
list_any-any f [] = refl
list_any-any f (x ∷ l) = ap (λ b. f x || b) (list_any-any f l)
