-- For the contracts of inner functions: a set bit, and the highest one.
-- Assumes nothing.
use Rattle.std.specs.Prelude.{◌≡◌, true, ℕ, suc, ◌^◌, ◌≤◌, ◌<◌}
use Rattle.laws.specs.Bits.{has}

-- n is a set bit of s, and below w
pub record Member (w s n : ℕ) : Type 0 where
  pub known : n < w
  pub is : has s n ≡ true

-- n is the highest set bit of s
pub record Top (s n : ℕ) : Type 0 where
  pub low : 2 ^ n ≤ s
  pub high : s < 2 ^ suc n
