-- The bucket of a draw. Any function of the draw would do for the output; this one also keeps the chains short for draws with a pattern.
--   spread x      == the halves of x, each times a prime, added and cut to 64 bits
--   bucket_of z d  == one of z buckets: the upper half of what is spread, scaled to z (to 2^32 where z is more)
-- Assumes nothing.
use Rattle.std.specs.Prelude.{ℕ, ◌+◌, ◌*◌, ◌/◌, ◌%◌, ◌^◌, min}

unfoldable pub spread : ℕ → ℕ
spread x = (x / 2 ^ 32 * 2654435761 + x % 2 ^ 32 * 2246822519) % 2 ^ 64

unfoldable pub bucket_of : ℕ → ℕ → ℕ
bucket_of z d = spread (spread d / 2 ^ 32 * (spread d % 2 ^ 32)) / 2 ^ 32 * min z (2 ^ 32) / 2 ^ 32
