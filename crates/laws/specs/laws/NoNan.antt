-- What is no NaN: a finite float, and a sum with minus infinity, to which a number over zero leads.
-- Assumes nothing.
use Rattle.std.specs.Prelude.{◌≡◌, refl, true, false, not, ℕ, zero, suc, ◌*◌, ◌<◌, T, pos, Float}
use Rattle.std.proofs.Common.{subst, mul-pos, zero-mul, arith}
use Rattle.std.proofs.Math.Dec.{eqb-suc-zero}
use Rattle.std.specs.Float.{nan, inf, fin, Format}
use Rattle.std.specs.Float.Ieee.{up, down, add, div, is_nan}
use Rattle.std.specs.Float.Ieee.Fits.{down_pos}
use Rattle.std.specs.Float.Ieee.Exact.{HasValue}
use Rattle.std.specs.Float.Ieee.Scale.{finite}
use Rattle.laws.specs.laws.Small.{Small, small_finite}

pub finite_no_nan : (x : Float) → T (finite x) → T (not (is_nan x))
unfolding is_nan
finite_no_nan nan p = p
finite_no_nan (inf s) p = tt
finite_no_nan (fin s m e) p = tt

pub small_no_nan : (x : Float) (b : ℕ) → Small x b → T (not (is_nan x))
small_no_nan x b p = finite_no_nan x (small_finite x b p)

pub add_minus_inf : (f : Format) (x : Float) → T (finite x) → add f x (inf true) ≡ inf true
unfolding add
add_minus_inf f nan p = absurd p
add_minus_inf f (inf s) p = absurd p
add_minus_inf f (fin s m e) p = refl

-- a whole number above 0, over zero
pub over_zero : (f : Format) (x : Float) (n : ℕ) → 0 < n → HasValue x false n 1 → div f x (fin false 0 (pos 0)) ≡ inf false
unfolding div
over_zero f nan n N v = absurd v
over_zero f (inf s) n N v = absurd v
over_zero f (fin true m e) n N v = absurd (subst T v.0 tt)
over_zero f (fin false zero e) n N v = absurd (nothing (n * down e) (mul-pos N (down_pos e)) v.1)
  where
    nothing : (k : ℕ) → 0 < k → 0 * up e * 1 ≡ k → ⊥
    nothing k K h = omega (arith, zero-mul (up e))
over_zero f (fin false (suc m) e) n N v = rw eqb-suc-zero
