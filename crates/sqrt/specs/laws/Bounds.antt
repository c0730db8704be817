-- Bounds through the root. Of what is at least 0, minus zero among it, the root is at least 0, and so no NaN; and at most b where that is at most b * b.
-- Assumes nothing.
use Rattle.std.specs.Prelude.{◌≡◌, true, false, not, ℕ, zero, suc, ◌+◌, ◌*◌, ◌^◌, ◌≤◌, ◌<◌, ℤ, pos, T, Float}
use Rattle.std.proofs.Common.{sym, ap, ◌∙◌, subst, inl, inr, zero-le, le_refl, le_trans, le_of_eq, zero-lt-suc, zero-mul, mul-one, mul_right_comm, mul-le-mul, mul-le-mul_right, le_of_mul-le-mul_right, arith, lt→ltb, pow_pos}
use Rattle.std.specs.Float.{nan, inf, fin, binary32}
use Rattle.std.specs.Float.Ieee.{up, down, fits, is_nan, of_int, le}
use Rattle.std.specs.Float.Ieee.Fits.{down_pos, of_int-fits}
use Rattle.std.specs.Float.Ieee.Exact.{HasValue}
use Rattle.std.specs.Float.Ieee.Positive.{positive}
use Rattle.laws.specs.Floats.{float}
use Rattle.laws.specs.laws.Small.{Small, small_finite, of_nat_value}
use Rattle.laws.proofs.Small.{of_nat_small}
use Rattle.laws.specs.laws.AtLeast.{AtLeast0, positive_least, negative_least, least_no_nan}
use Rattle.sqrt.specs.Sqrt.{digits_end, sqrt_of}
use Rattle.sqrt.specs.Root.{size, Root}
use Rattle.sqrt.specs.laws.Cut.{here_or_on}
use Rattle.sqrt.specs.laws.Right.{size_is, size_exact, sqrt_right}

-- a number above 0 is a root's number
pub above_0 : (m : ℕ) (e : ℤ) → T (positive (fin false (suc m) e))
above_0 m e = lt→ltb 0 (suc m) (zero-lt-suc m)

-- ---- at least 0

pub sqrt_least : (x : Float) → T (fits binary32 x) → AtLeast0 x → AtLeast0 (sqrt_of x)
unfolding sqrt_of le of_int
sqrt_least nan f h = h
sqrt_least (inf true) f h = absurd h
sqrt_least (inf false) f h = h
sqrt_least (fin s zero e) f h = h
sqrt_least (fin true (suc m) e) f h = absurd (negative_least m e h)
sqrt_least (fin false (suc m) e) f h =
    let x = fin false (suc m) e in
    positive_least (sqrt_of x) (sqrt_right x f (above_0 m e)).above0

pub sqrt_no_nan : (x : Float) → T (fits binary32 x) → AtLeast0 x → T (not (is_nan (sqrt_of x)))
sqrt_no_nan x f h = least_no_nan (sqrt_of x) (sqrt_least x f h)

-- ---- at most b

-- b is a value of the format, of this size
scaled : (y : Float) (b : ℕ) → HasValue y false b 1 → size y ≡ b * 2 ^ 149
scaled nan b v = absurd v
scaled (inf s) b v = absurd v
scaled (fin s m e) b v =
    size_is (fin s m e) false (b * 2 ^ 149)
    (v.0, ap (λ (z : ℕ). z * 2 ^ 149) (sym (mul-one (m * up e)) ∙ v.1) ∙ mul_right_comm b (down e) (2 ^ 149))

-- with n units to one: a root above b is the root of more than b * b
beyond : (b n x r : ℕ) → x ≤ b * b * n → b * n < r → (b * n + r) * (b * n + r) < 4 * (x * n) → ⊥
beyond b n x r h l k =
    let a : 2 * (b * n) ≤ b * n + r = omega arith in
    let c : 2 * (b * n) * (2 * (b * n)) ≤ (b * n + r) * (b * n + r) = mul-le-mul a a in
    let d : x * n ≤ b * b * n * n = mul-le-mul_right n h in
    omega arith

-- the bound of a value, by its size and back
to_size : (m : ℕ) (e : ℤ) (b : ℕ) → T (fits binary32 (fin false m e)) → m * up e ≤ b * down e → size (fin false m e) ≤ b * 2 ^ 149
to_size m e b f h =
    le_of_mul-le-mul_right
    (le_trans (le_of_eq (sym (size_exact false m e f).1)) (le_trans (mul-le-mul_right (2 ^ 149) h) (le_of_eq (mul_right_comm b (down e) (2 ^ 149)))))
    (down_pos e)

of_size : (x : Float) (b : ℕ) → T (fits binary32 x) → T (positive x) → size x ≤ b * 2 ^ 149 → Small x b
of_size nan b f p h = absurd p
of_size (inf s) b f p h = absurd p
of_size (fin true m e) b f p h = absurd p
of_size (fin false m e) b f p h =
    le_of_mul-le-mul_right
    (le_trans (le_of_eq (size_exact false m e f).1) (le_trans (mul-le-mul_right (down e) h) (le_of_eq (mul_right_comm b (2 ^ 149) (down e)))))
    (pow_pos 149)

root_small : (x r : Float) (b : ℕ) → b ≤ digits_end → size x ≤ b * b * 2 ^ 149 → Root x r → Small r b
root_small x r b B h w =
    let y = float b in
    let e : size y ≡ b * 2 ^ 149 = scaled y b (of_nat_value binary32 b B) in
    elim (here_or_on (b * 2 ^ 149) (size r)) [
      | inl l ↦
          absurd
          (beyond b (2 ^ 149) (size x) (size r) h l
          (subst (λ (z : ℕ). (z + size r) * (z + size r) < 4 * (size x * 2 ^ 149)) e
          (w.below y (of_int-fits binary32 (pos b)) (small_finite y b (of_nat_small binary32 b b (le_refl b) B)) (subst (λ (z : ℕ). z < size r) (sym e) l))))
      | inr g ↦ of_size r b w.value w.above0 g
    ]

pub sqrt_small : (x : Float) (b : ℕ) → T (fits binary32 x) → b ≤ digits_end → AtLeast0 x → Small x (b * b) → Small (sqrt_of x) b
unfolding sqrt_of
sqrt_small nan b f B l h = absurd h
sqrt_small (inf s) b f B l h = absurd h
sqrt_small (fin s zero e) b f B l h = le_trans (le_of_eq (zero-mul (up e))) zero-le
sqrt_small (fin true (suc m) e) b f B l h = absurd (negative_least m e l)
sqrt_small (fin false (suc m) e) b f B l h =
    let x = fin false (suc m) e in
    root_small x (sqrt_of x) b B (to_size (suc m) e (b * b) f h) (sqrt_right x f (above_0 m e))
