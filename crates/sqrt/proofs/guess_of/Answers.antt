-- `sqrt::guess_of` meets its contract: what it casts is no NaN, and 23 digits after a first one are 24.
-- Assumes nothing.
use mathlib.Core.Path.{subst}
use mathlib.Core.Bool.{Bool, not, ◌&&◌}
use Prim.Native.Nat.{ℕ, ◌+◌, ◌/◌, ◌^◌, ◌<◌}
use native.Mathlib.Omega.{arith}
use lib.Dec.{T}
use lib.Ieee.{binary32, binary64, of_bits, fits, is_nan}
use lib.Ieee.Bits.{of_bits-fits, to_bits-lt, nan_bits_is}
use lib.Ieee.Fits.{and_i, fits_widens, add-fits}
use mir.Syntax.{w64}
use mir.Val.{Fits}
use Rattle.sqrt.specs.Sqrt.{infinity_bits}
use Rattle.sqrt.specs.laws.Patterns.{no_nan}
use Rattle.sqrt.proofs.guess_of.Goals as goal

-- a finite pattern's value is one of the wider format
widens : (b : ℕ) → b < infinity_bits → T (fits binary64 (of_bits binary32 b) && not (is_nan (of_bits binary32 b)))
widens b h =
    and_i (fits binary64 (of_bits binary32 b)) (not (is_nan (of_bits binary32 b))) (fits_widens (of_bits binary32 b) (of_bits-fits binary32 b))
    (subst (λ (t : Bool). T (not t)) (nan_bits_is binary32 b) (no_nan b h))

spare : (n : ℕ) → n < 2 ^ 64 → Fits w64 (n / 2 ^ 28 + 1)
spare n h = omega arith

pub float_from_bits-x : goal.float_from_bits-x
float_from_bits-x c = no_nan _ c.requires

pub float_from_bits-start : goal.float_from_bits-start
float_from_bits-start c = no_nan _ (omega arith)

pub overflow_add-result : goal.overflow_add-result
overflow_add-result c = spare _ (to_bits-lt binary64 _ (add-fits binary64 _ _))
