-- What `write` needs of decimal digits: the last one stored in front of what follows it, and how many there can be. Assumes nothing.
use mathlib.Core.Path.{◌≡◌, sym, ap, ◌∙◌}
use mathlib.Core.List.{List, ◌∷◌, ◌++◌}
use Prim.Native.Nat.{ℕ, suc, ◌+◌, ◌-◌, ◌/◌, ◌%◌, ◌^◌, ◌≤◌, ◌<◌}
use native.Mathlib.Omega.{arith}
use lib.ListN.{length, drop, set}
use lib.Seq.{append_snoc, drop-cons, get_or-set_same, drop-set-lt, lt-length-set}
use Rattle.lists.specs.Decimal.{decimal}
use Rattle.lists.proofs.Decimal.{decimal-one, decimal-more, decimal-some, decimal-short, length_more}

drop_put : (out : List ℕ) (at b : ℕ) → at < length out → drop at (set out at b) ≡ b ∷ drop (suc at) out
drop_put out at b h =
    drop-cons (set out at b) at 0 (lt-length-set out at b h)
    ∙ rw (get_or-set_same out at b 0 h, drop-set-lt (suc at) out at b (omega arith))

-- the last digit of n stands at `at`
module _ (n at : ℕ) (last : suc at ≡ length (decimal n)) where
  -- another stands before it
  pub last_later : 10 ≤ n → 1 ≤ at
  last_later more = omega (arith, length_more n more, decimal-some (n / 10))

  module _ (out : List ℕ) (room : at < length out) where
    -- it is the only one, and stands first
    pub only_put : n < 10 → set out 0 (48 + n) ≡ decimal n ++ drop (suc at) out
    only_put one =
        let q : at ≡ 0 = omega (arith, ap length (decimal-one n one)) in
        rw (q, decimal-one n one) (drop_put out 0 (48 + n) (omega arith))

    -- it is stored, and the last digit of the tenth part stands before it
    pub last_put : (ten : ℕ) → ten ≡ 10 → ten ≤ n
        → (suc (at - 1) ≡ length (decimal (n / ten))) × (decimal (n / ten) ++ drop (suc (at - 1)) (set out at (48 + n % ten)) ≡ decimal n ++ drop (suc at) out)
    last_put ten base h =
        let more : 10 ≤ n = omega arith in
        let q : suc (at - 1) ≡ at = omega (arith, last_later more) in (
          rw (q, base) (omega (arith, length_more n more)),
          rw (q, base, drop_put out at (48 + n % 10) room, decimal-more n more) (sym (append_snoc (decimal (n / 10)) (48 + n % 10) (drop (suc at) out))),
        )

pub decimal-fits : (n : ℕ) → n < 2 ^ 64 → length (decimal n) ≤ 20
decimal-fits n h = decimal-short 20 n (omega arith) (omega arith)
