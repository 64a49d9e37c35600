-- A product modulo w * w from the halves of its factors.
-- Why: (h * w + l) * (k * w + m) is l * m + (l * k + h * m) * w and a multiple of w * w. Assumes nothing.
use Rattle.std.proofs.Common.{◌≡◌, ℕ, ◌+◌, ◌*◌, ◌/◌, ◌%◌, sym, ap, ◌∙◌, mul_assoc, add-mul, div-add-mod', mul-add, mul_right_comm, arith}
use native.Mathlib.Nat.{add-mod-mod, add-mul-mod_self_right}

expand : (h l k m w : ℕ) → (h * w + l) * (k * w + m) ≡ l * m + (l * k + h * m) * w + h * k * (w * w)
expand h l k m w =
    let e1 : h * w * (k * w) ≡ h * k * (w * w) = sym (mul_assoc (h * w) k w) ∙ ap (λ (n : ℕ). n * w) (mul_right_comm h w k) ∙ mul_assoc (h * k) w w in
    let e2 : h * w * m ≡ h * m * w = mul_right_comm h w m in
    let e3 : l * (k * w) ≡ l * k * w = sym (mul_assoc l k w) in
    rw (add-mul, mul-add, mul-add, add-mul (l * k) (h * m) w) (omega arith)

-- multiples of v may be dropped before the product as well
carry : (x y z v w : ℕ) → x + y * w + z * v ≡ x + y % v * w + (y / v * w + z) * v
carry x y z v w =
    let e : y * w ≡ y / v * w * v + y % v * w =
    ap (λ (n : ℕ). n * w) (sym (div-add-mod' y v)) ∙ add-mul (y / v * v) (y % v) w ∙ ap (λ (n : ℕ). n + y % v * w) (mul_right_comm (y / v) v w) in
    rw (add-mul (y / v * w) z v) (omega arith)

pub product : (a b w : ℕ) → (a % w * (b % w) + (a % w * (b / w) + a / w * (b % w)) % (w * w) * w % (w * w)) % (w * w) ≡ a * b % (w * w)
product a b w =
    let l = a % w in
    let m = b % w in
    let c = l * (b / w) + a / w * m in
    let v = w * w in
    let e : a * b ≡ l * m + c % v * w + (c / v * w + a / w * (b / w)) * v =
    ap (λ (n : ℕ). n * b) (sym (div-add-mod' a w)) ∙ ap (λ (n : ℕ). (a / w * w + l) * n) (sym (div-add-mod' b w)) ∙ expand (a / w) l (b / w) m w ∙ carry (l * m) c (a / w * (b / w)) v w in
    add-mod-mod (l * m) (c % v * w) v ∙ sym (ap (λ (n : ℕ). n % v) e ∙ add-mul-mod_self_right (l * m + c % v * w) (c / v * w + a / w * (b / w)) v)
