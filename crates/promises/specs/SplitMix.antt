-- The raw numbers of SplitMix64 (02 no. 11; Steele, Lea, Flood, 2014).
--   next_state s     == the state that follows s
--   mix y           == the mixing, in three steps: mix_first, mix_second, mix_third
--   raw s           == the raw number that is made from the state s
--   advance k s     == the state k raw numbers on
--   raws k s        == the first k raw numbers from the state s on
--   Vectors         == the published vectors
-- Sums and products are modulo 2^64; a number shifted right by k is divided by 2^k. Assumes nothing.
use Rattle.std.specs.Prelude.{◌≡◌, List, [], ◌∷◌, ℕ, zero, suc, ◌+◌, ◌*◌, ◌/◌, ◌%◌, ◌^◌}
use Rattle.std.specs.Int.Bits.{bit_xor}

-- 'a 64-bit state that adds 9E3779B97F4A7C15 (hexadecimal) and drops the carry'
unfoldable pub next_state : ℕ → ℕ
next_state s = (s + 0x9E3779B97F4A7C15) % 2 ^ 64

-- 'y xor y shifted right 30, times BF58476D1CE4E5B9'
unfoldable pub mix_first : ℕ → ℕ
mix_first y = bit_xor y (y / 2 ^ 30) * 0xBF58476D1CE4E5B9 % 2 ^ 64

-- 'y xor y shifted right 27, times 94D049BB133111EB'
unfoldable pub mix_second : ℕ → ℕ
mix_second y = bit_xor y (y / 2 ^ 27) * 0x94D049BB133111EB % 2 ^ 64

-- 'y xor y shifted right 31'
unfoldable pub mix_third : ℕ → ℕ
mix_third y = bit_xor y (y / 2 ^ 31)

unfoldable pub mix : ℕ → ℕ
mix y = mix_third (mix_second (mix_first y))

-- 'Each raw number adds first, then mixes a copy y'
unfoldable pub raw : ℕ → ℕ
raw s = mix (next_state s)

unfoldable pub advance : ℕ → ℕ → ℕ
advance zero s = s
advance (suc k) s = advance k (next_state s)

unfoldable pub raws : ℕ → ℕ → List ℕ
raws zero s = []
raws (suc k) s = raw s ∷ raws k (next_state s)

-- 'Published vectors are tested.'
pub record Vectors : Type 0 where
  pub seed_1234567 : raws 5 1234567
      ≡ 6457827717110365317 ∷ 3203168211198807973 ∷ 9817491932198370423 ∷ 4593380528125082431 ∷ 16408922859458223821 ∷ []
