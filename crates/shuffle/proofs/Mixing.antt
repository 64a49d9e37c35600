-- A bucket is one of z. Why: what is scaled is below 2^32 times z, or times 2^32 where that is less. Assumes nothing.
use Rattle.std.proofs.Common.{ℕ, ◌*◌, ◌/◌, ◌%◌, ◌^◌, ◌<◌, ◌≤◌, min, mul-lt-mul_of_pos_right, arith}
use Rattle.shuffle.specs.Buckets.{spread, bucket_of}

pub spread-fits : (x : ℕ) → spread x < 2 ^ 64
unfolding spread
spread-fits x = omega arith

pub bucket_below : (z d : ℕ) → 0 < z → bucket_of z d < z
unfolding bucket_of
bucket_below z d h =
    scaled (spread (spread d / 2 ^ 32 * (spread d % 2 ^ 32)) / 2 ^ 32) (min z (2 ^ 32)) (upper (spread-fits (spread d / 2 ^ 32 * (spread d % 2 ^ 32)))) (omega arith) (omega arith)
  where
    upper : {x : ℕ} → x < 2 ^ 64 → x / 2 ^ 32 < 2 ^ 32
    upper k = omega arith

    scaled : (u w : ℕ) → u < 2 ^ 32 → 0 < w → w ≤ z → u * w / 2 ^ 32 < z
    scaled u w a b k =
        let q : u * w < 2 ^ 32 * w = mul-lt-mul_of_pos_right {m = u} {n = 2 ^ 32} {k = w} a b in
        omega arith
