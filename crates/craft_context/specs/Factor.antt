-- Document 01, "Context": "Factor = f32(stat × 10) / f32(div) + 2 (progress) or 35 (quality); if player level ≤ recipe level, times
-- (f32(mod) / 100); each operation rounded; truncated." Rounded to binary32, by the logic's account of IEEE 754.
-- Assumes nothing.
use Rattle.std.specs.Prelude.{ℕ, ◌*◌, Bool, cond, Float}
use Rattle.std.specs.Float.{binary32}
use Rattle.std.specs.Float.Ieee.{to_unsigned, add, mul, div}
use Rattle.laws.specs.Floats.{float, hundredths}

-- what is added: 2 for progress, 35 for quality
abbrev pub progress_plus : ℕ
progress_plus = 2

abbrev pub quality_plus : ℕ
quality_plus = 35

-- f32(stat * 10) / f32(divisor) + plus
abbrev pub base_of : ℕ → ℕ → ℕ → Float
base_of stat divisor plus = add binary32 (div binary32 (float (stat * 10)) (float divisor)) (float plus)

-- times f32(modifier) / 100 where the player's level is at most the recipe's
abbrev pub scaled_of : ℕ → ℕ → ℕ → ℕ → Bool → Float
scaled_of stat divisor plus modifier scaled =
    cond scaled (mul binary32 (base_of stat divisor plus) (hundredths modifier)) (base_of stat divisor plus)

-- truncated, `as u32`
abbrev pub factor_of : ℕ → ℕ → ℕ → ℕ → Bool → ℕ
factor_of stat divisor plus modifier scaled = to_unsigned 32 (scaled_of stat divisor plus modifier scaled)
