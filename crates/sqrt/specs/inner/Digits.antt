-- What the root of m * 2 ^ k is worked out from: m of 1 to 24 digits, how many zeros stand before them in 32 bits, and a guess at the root's digits.
-- Assumes nothing.
use Rattle.std.specs.Prelude.{◌≡◌, ℕ, ◌<◌}
use Rattle.std.specs.Int.Count.{count_leading_zeros}
use Rattle.sqrt.specs.Sqrt.{digits_end}

pub record Digits (m k zeros guess : ℕ) : Type 0 where
  pub some : 0 < m
  pub few : m < digits_end
  pub exponent : k < 255
  pub before : zeros ≡ count_leading_zeros 32 m
  pub guessed : guess < digits_end
