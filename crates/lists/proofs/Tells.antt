-- A test and the proposition that it tells: the test holds exactly where the proposition does. Assumes nothing.
--   Tells b P         == the test b tells P
use mathlib.Core.Path.{◌≡◌, refl}
use mathlib.Core.Logic.{◌⊎◌, inl, inr}
use mathlib.Core.Bool.{Bool, true, false, not, ◌&&◌, ◌||◌}
use mathlib.Core.List.{List, Memᴰ as In}
use Prim.Native.Nat.{ℕ, ◌≤◌, ◌<◌}
use native.Mathlib.Omega.{arith}
use lib.Dec.{ltb, leb, eqb}
use borrow.Author.Tests.{ltb-true, ltb-false, leb-true, leb-false, eqb-true, eqb-false}
use Rattle.lists.specs.Lists.{any}
use Rattle.lists.proofs.Tests.{contra, case}
use Rattle.lists.proofs.Members.{any_some, any_in}

pub record Tells (b : Bool) (P : Type 0) : Type 0 where
  pub yes : b ≡ true → P
  pub no : b ≡ false → P → ⊥

-- the test where the proposition is known
pub tells_true : {b : Bool} {P : Type 0} → Tells b P → P → b ≡ true
tells_true {b} t p = case b (λ q. q) (λ q. absurd (t.no q p))

pub tells_false : {b : Bool} {P : Type 0} → Tells b P → (P → ⊥) → b ≡ false
tells_false {b} t n = case b (λ q. absurd (n (t.yes q))) (λ q. q)

-- a proposition that a test tells holds where it is not false
pub tells_stable : {b : Bool} {P : Type 0} → Tells b P → ((P → ⊥) → ⊥) → P
tells_stable {b} t n = case b t.yes (λ q. absurd (n (t.no q)))

pub tells_holds : (b : Bool) → Tells b (b ≡ true)
tells_holds b = record { yes = λ q. q; no = λ q h. contra h q }

pub tells_lt : (a b : ℕ) → Tells (ltb a b) (a < b)
tells_lt a b = record { yes = ltb-true a b; no = λ q h. omega (arith, ltb-false a b q) }

pub tells_le : (a b : ℕ) → Tells (leb a b) (a ≤ b)
tells_le a b = record { yes = leb-true a b; no = λ q h. omega (arith, leb-false a b q) }

pub tells_eq : (a b : ℕ) → Tells (eqb a b) (a ≡ b)
tells_eq a b = record { yes = eqb-true a b; no = eqb-false a b }

pub tells_never : Tells false ⊥
tells_never = record { yes = λ q. contra q refl; no = λ q h. h }

pub tells_always : Tells true (Unit {0})
tells_always = record { yes = λ q. tt; no = λ q h. contra refl q }

pub tells_not : {b : Bool} {P : Type 0} → Tells b P → Tells (not b) (P → ⊥)
tells_not {b = true} t = record { yes = λ q. contra q refl; no = λ q n. n (t.yes refl) }
tells_not {b = false} t = record { yes = λ q. t.no refl; no = λ q n. contra refl q }

pub tells_or : {a b : Bool} {P Q : Type 0} → Tells a P → Tells b Q → Tells (a || b) (P ⊎ Q)
tells_or {a = true} {b} {P} {Q} s t = record { yes = λ q. inl (s.yes refl); no = λ q h. contra refl q }
tells_or {a = false} {b} {P} {Q} s t = record { yes = λ q. inr (t.yes q); no = none }
  where
    none : b ≡ false → P ⊎ Q → ⊥
    none q (inl p) = s.no refl p
    none q (inr p) = t.no q p

pub tells_and : {a b : Bool} {P Q : Type 0} → Tells a P → Tells b Q → Tells (a && b) (P × Q)
tells_and {a = true} s t = record { yes = λ q. (s.yes refl, t.yes q); no = λ q h. t.no q h.1 }
tells_and {a = false} s t = record { yes = λ q. contra q refl; no = λ q h. s.no refl h.0 }

-- some element of a list
pub tells_any : {A : Type 0} (f : A → Bool) (P : A → Type 0) → ((e : A) → Tells (f e) (P e)) → (es : List A) → Tells (any f es) ((e : A) × In e es × P e)
tells_any f P t es = record {
  yes = λ q. let (e, i, p) = any_some f es q in (e, i, (t e).yes p);
  no = λ q (e, i, p). contra (any_in f i (tells_true (t e) p)) q;
}
