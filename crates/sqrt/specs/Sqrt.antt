-- Document 02, E7: "Square root is rounded as IEEE 754 says." The root of a binary32 value, worked out from its bit pattern by whole numbers.
-- That it is the nearest value is a law (laws/Right.antt), in the words of Root.antt.
-- Assumes nothing.
use Rattle.std.specs.Prelude.{ℕ, zero, suc, ◌+◌, ◌-◌, ◌*◌, ◌/◌, ◌%◌, ◌^◌, true, false, cond, leb, ltb, Float}
use Rattle.std.specs.Int.Count.{count_leading_zeros}
use Rattle.std.specs.Float.{nan, inf, fin, binary32}
use Rattle.std.specs.Float.Ieee.{of_bits, to_bits}

-- ---- the root of a whole number

-- 2 ^ 24 and its square: a root has 24 digits
abbrev pub digits_end : ℕ
digits_end = 16777216

abbrev pub square_end : ℕ
square_end = 281474976710656

-- the root of n, given the root r of n / 4: one binary digit more
abbrev pub digit : ℕ → ℕ → ℕ
digit n r = cond (leb ((2 * r + 1) * (2 * r + 1)) n) (2 * r + 1) (2 * r)

-- the largest r with r * r ≤ n, for an n below 4 ^ k
unfoldable pub root_down : ℕ → ℕ → ℕ
root_down zero n = 0
root_down (suc k) n = digit n (root_down k (n / 4))

-- the whole number nearest to √n, for an n below 2 ^ 48: √n is above r + 1 / 2 exactly where n is above r * r + r
abbrev pub nearer : ℕ → ℕ → ℕ
nearer n r = cond (ltb r (n - r * r)) (r + 1) r

unfoldable pub root_near : ℕ → ℕ
unfolding root_down
root_near n = nearer n (root_down 24 n)

-- ---- the root of a bit pattern b that is above 0 and below the infinity's

abbrev pub infinity_bits : ℕ
infinity_bits = 0x7f80_0000

-- 2 ^ 23: what an exponent counts by in a pattern; the first pattern of a normal value, and the digit that such a pattern leaves out
abbrev pub hidden : ℕ
hidden = 8388608

-- b is the number significand b * 2 ^ (exponent b) / 2 ^ 149
abbrev pub significand : ℕ → ℕ
significand b = cond (ltb b hidden) b (hidden + b % hidden)

abbrev pub exponent : ℕ → ℕ
exponent b = cond (ltb b hidden) 0 (b / hidden - 1)

-- m * 2 ^ (shift m k) is from 2 ^ 46 up and below 2 ^ 48, so its root has 24 digits, and k + 149 - shift m k is even
abbrev pub shift_by : ℕ → ℕ → ℕ
shift_by zeros k = zeros + 15 + (k + zeros) % 2

unfoldable pub shift : ℕ → ℕ → ℕ
unfolding count_leading_zeros
shift m k = shift_by (count_leading_zeros 32 m) k

-- the root is a number of 24 digits times 2 ^ (place m k) / 2 ^ 149
abbrev pub place : ℕ → ℕ → ℕ
place m k = (k + 149 - shift m k) / 2

unfoldable pub root_of : ℕ → ℕ → ℕ
unfolding shift root_near
root_of m k = place m k * hidden + root_near (m * 2 ^ shift m k)

unfoldable pub root_bits : ℕ → ℕ
unfolding root_of
root_bits b = root_of (significand b) (exponent b)

-- ---- the root of a value: of -0 it is -0, and of a value below 0 it is no number
unfoldable pub sqrt_of : Float → Float
unfolding root_bits to_bits of_bits
sqrt_of nan = nan
sqrt_of (inf s) = cond s nan (inf false)
sqrt_of (fin s zero e) = fin s zero e
sqrt_of (fin true (suc m) e) = nan
sqrt_of (fin false (suc m) e) = of_bits binary32 (root_bits (to_bits binary32 (fin false (suc m) e)))
