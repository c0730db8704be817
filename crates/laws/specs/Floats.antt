-- Document 01: "Floats follow IEEE 754 binary32, round to nearest even." Whole numbers and hundredths, by the logic's account of IEEE 754.
-- Assumes nothing.
use Rattle.std.specs.Prelude.{ℕ, pos, negsuc, Float}
use Rattle.std.specs.Float.{binary32}
use Rattle.std.specs.Float.Ieee.{of_int, div}

-- a whole number `as f32`
abbrev pub float : ℕ → Float
float n = of_int binary32 (pos n)

-- 1
abbrev pub one : Float
one = float 1

-- -1
abbrev pub minus_one : Float
minus_one = of_int binary32 (negsuc 0)

-- so many hundredths, rounded
abbrev pub hundredths : ℕ → Float
hundredths n = div binary32 (float n) (float 100)
