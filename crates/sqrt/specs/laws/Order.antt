-- The root keeps the order of what is at least 0, minus zero among it.
-- Assumes nothing.
use Rattle.std.proofs.Common.{subst, inl, inr, add_comm, mul-le-mul_right, arith, pow_pos}
use Rattle.std.specs.Prelude.{Bool, true, false, ℕ, zero, suc, ◌+◌, ◌*◌, ◌^◌, ◌≤◌, ◌<◌, ℤ, T, Float}
use Rattle.std.specs.Float.{nan, inf, fin, binary32}
use Rattle.std.specs.Float.Ieee.{fits, of_int, le}
use Rattle.std.specs.Float.Ieee.Exact.{HasValue}
use Rattle.std.specs.Float.Ieee.Order.{le_of_values}
use Rattle.std.specs.Float.Ieee.Positive.{positive, positive-finite, above, above_of_le, values_of_le}
use Rattle.std.specs.Float.Ieee.Scale.{finite}
use Rattle.laws.specs.Floats.{float}
use Rattle.laws.specs.laws.Order.{order_le, le_through}
use Rattle.laws.specs.laws.AtLeast.{AtLeast0, negative_least}
use Rattle.sqrt.specs.Sqrt.{sqrt_of}
use Rattle.sqrt.specs.Root.{size, Root}
use Rattle.sqrt.specs.laws.Cut.{here_or_on}
use Rattle.sqrt.specs.laws.Right.{size_exact, sqrt_right}
use Rattle.sqrt.specs.laws.Bounds.{above_0, sqrt_least}

-- ---- of two values above 0, by their sizes

sized : (x : Float) → T (fits binary32 x) → T (positive x) → HasValue x false (size x) (2 ^ 149)
sized nan f p = absurd p
sized (inf s) f p = absurd p
sized (fin true m e) f p = absurd p
sized (fin false m e) f p = size_exact false m e f

-- were the roots a and b the other way round, their middle would be below the one of x and above the one of y
crossing : (x y a b : ℕ) → x ≤ y → (b + a) * (b + a) < 4 * x → 4 * y < (a + b) * (a + b) → ⊥
crossing x y a b h k l = omega (arith, subst (λ (z : ℕ). 4 * y < z * z) (add_comm a b) l)

root_up : (x y r q : Float) → size x * 2 ^ 149 ≤ size y * 2 ^ 149 → Root x r → Root y q → T (le r q)
root_up x y r q h v w =
    elim (here_or_on (size q) (size r)) [
      | inl l ↦
          absurd
          (crossing (size x * 2 ^ 149) (size y * 2 ^ 149) (size r) (size q) h (v.below q w.value (positive-finite q w.above0) l)
          (w.above r v.value (positive-finite r v.above0) l))
      | inr g ↦
          le_of_values r q (size r) (2 ^ 149) (size q) (2 ^ 149) (pow_pos 149) (pow_pos 149) (sized r v.value v.above0) (sized q w.value w.above0)
          (mul-le-mul_right (2 ^ 149) g)
    ]

above_positive : (y : Float) → T (above y) → T (finite y) → T (positive y)
above_positive nan a q = absurd q
above_positive (inf s) a q = absurd q
above_positive (fin true m e) a q = absurd a
above_positive (fin false m e) a q = a

-- ---- with zeros

zero_most : (s : Bool) (e : ℤ) → T (le (fin s zero e) (float 0))
unfolding of_int
zero_most true e = order_le (fin true zero e) (float 0) tt tt (omega arith)
zero_most false e = order_le (fin false zero e) (float 0) tt tt (omega arith)

zero_under : (s : Bool) (e : ℤ) (r : Float) → AtLeast0 r → T (le (fin s zero e) r)
unfolding le of_int
zero_under s e nan h = absurd h
zero_under s e (inf true) h = absurd h
zero_under s e (inf false) h = tt
zero_under s e (fin t n d) h = le_through (fin s zero e) (float 0) (fin t n d) tt tt tt (zero_most s e) h

pub sqrt_up : (x y : Float) → T (fits binary32 x) → T (fits binary32 y) → AtLeast0 x → T (finite x) → T (finite y) → T (le x y)
    → T (le (sqrt_of x) (sqrt_of y))
unfolding sqrt_of of_int
sqrt_up nan y f g l p q h = absurd p
sqrt_up (inf s) y f g l p q h = absurd p
sqrt_up (fin s zero e) y f g l p q h = zero_under s e (sqrt_of y) (sqrt_least y g (le_through (float 0) (fin s zero e) y tt tt q l h))
sqrt_up (fin true (suc m) e) y f g l p q h = absurd (negative_least m e l)
sqrt_up (fin false (suc m) e) y f g l p q h =
    let x = fin false (suc m) e in
    let P = above_0 m e in
    let Q = above_positive y (above_of_le x y P h) q in
    root_up x y (sqrt_of x) (sqrt_of y) (values_of_le x y (size x) (2 ^ 149) (size y) (2 ^ 149) P Q (sized x f P) (sized y g Q) h) (sqrt_right x f P)
    (sqrt_right y g Q)
