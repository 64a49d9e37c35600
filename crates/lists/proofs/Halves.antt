-- The product of two halves of 64-bit numbers fits 64 bits. Assumes nothing.
use Prim.Native.Nat.{ℕ, ◌-◌, ◌*◌, ◌^◌, ◌<◌, ◌≤◌}
use native.Mathlib.Nat.{mul-le-mul}
use native.Mathlib.Omega.{arith}

pub halves_fit : (x y : ℕ) → x < 2 ^ 32 → y ≤ 2 ^ 32 → x * y < 2 ^ 64
halves_fit x y h k = let q : x * y ≤ (2 ^ 32 - 1) * 2 ^ 32 = mul-le-mul {n₁ = x} {m₁ = y} {n₂ = 2 ^ 32 - 1} {m₂ = 2 ^ 32} (omega arith) k in omega arith
