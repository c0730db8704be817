-- Floats that are at least 0, minus zero among them, and bounds by comparisons: what products and quotients keep of them.
-- Assumes nothing.
use Rattle.std.specs.Prelude.{◌≡◌, refl, Bool, true, false, not, ℕ, suc, ◌*◌, ◌≤◌, ◌<◌, T, ℤ, pos, Float}
use Rattle.std.proofs.Common.{sym, ap, ◌∙◌, zero-le, le_trans, le_of_eq, lt_irrefl, lt_of_lt_of_le, zero-lt-suc, mul_comm, mul_assoc, mul_right_comm, mul-pos, mul-le-mul, mul-le-mul_right, le_of_mul-le-mul_right, mul-one, zero-mul, mul-zero, arith}
use Rattle.std.specs.Float.{nan, inf, fin}
use Rattle.std.specs.Float.Ieee.{up, down, unlike, le, of_int, is_nan}
use Rattle.std.specs.Float.Ieee.Exact.{HasValue}
use Rattle.std.specs.Float.Ieee.Fits.{up_pos, down_pos}
use Rattle.std.specs.Float.Ieee.Positive.{positive, first_pos}
use Rattle.std.specs.Float.Ieee.Scale.{finite}
use Rattle.laws.specs.laws.Tests.{true_false}
use Rattle.laws.specs.Floats.{float, one}
use Rattle.laws.specs.laws.Plus.{Plus}
use Rattle.laws.specs.laws.Small.{Small}
use Rattle.laws.specs.laws.Order.{minus_by, order_le, le_order}

abbrev pub AtLeast0 : Float → Type 0
AtLeast0 x = T (le (float 0) x)

-- ---- it has no minus, or is zero

pub least_minus : (s : Bool) (m : ℕ) (e : ℤ) → AtLeast0 (fin s m e) → minus_by s (m * up e) ≡ 0
unfolding of_int
least_minus false m e h = refl
least_minus true m e h = omega (arith, le_order (fin false 0 (pos 0)) (fin true m e) tt tt h)

pub minus_least : (s : Bool) (m : ℕ) (e : ℤ) → minus_by s (m * up e) ≡ 0 → AtLeast0 (fin s m e)
unfolding of_int
minus_least s m e h = order_le (fin false 0 (pos 0)) (fin s m e) tt tt (omega (arith, h))

pub plus_at_least : (x : Float) → Plus x → T (finite x) → AtLeast0 x
plus_at_least nan p f = absurd f
plus_at_least (inf s) p f = absurd f
plus_at_least (fin true m e) p f = absurd p
plus_at_least (fin false m e) p f = minus_least false m e refl

pub nothing_least : (x : Float) → Small x 0 → AtLeast0 x
nothing_least nan h = absurd h
nothing_least (inf s) h = absurd h
nothing_least (fin true m e) h = minus_least true m e (omega (arith, h, zero-mul (down e)))
nothing_least (fin false m e) h = minus_least false m e refl

pub positive_least : (x : Float) → T (positive x) → AtLeast0 x
positive_least nan p = absurd p
positive_least (inf s) p = absurd p
positive_least (fin true m e) p = absurd p
positive_least (fin false m e) p = minus_least false m e refl

pub negative_least : (m : ℕ) (e : ℤ) → AtLeast0 (fin true (suc m) e) → ⊥
negative_least m e h = lt_irrefl 0 (lt_of_lt_of_le (mul-pos (zero-lt-suc m) (up_pos e)) (le_of_eq (least_minus true (suc m) e h)))

pub least_no_nan : (x : Float) → AtLeast0 x → T (not (is_nan x))
unfolding le of_int is_nan
least_no_nan nan h = h
least_no_nan (inf s) h = tt
least_no_nan (fin s m e) h = tt

-- ---- the operations

pub minus_product : (s t : Bool) (a b : ℕ) → minus_by s a ≡ 0 → minus_by t b ≡ 0 → minus_by (unlike s t) (a * b) ≡ 0
minus_product true true a b p q = refl
minus_product true false a b p q = ap (λ (z : ℕ). z * b) p ∙ zero-mul b
minus_product false true a b p q = ap (λ (z : ℕ). a * z) q ∙ mul-zero a
minus_product false false a b p q = refl

-- ---- over what is at least 1

pub one_most : (t : Bool) (n : ℕ) (d : ℤ) → T (le one (fin t n d)) → (t ≡ false) × (down d ≤ n * up d)
unfolding of_int
one_most true n d h = absurd (omega (arith, le_order (fin false 1 (pos 0)) (fin true n d) tt tt h, down_pos d))
one_most false n d h = (refl, omega (arith, le_order (fin false 1 (pos 0)) (fin false n d) tt tt h))

pub some : (n : ℕ) (d : ℤ) → down d ≤ n * up d → 0 < n
some n d h = first_pos n (up d) (lt_of_lt_of_le (down_pos d) h)

pub no_more : (x c y d b : ℕ) → x ≤ b * c → d ≤ y → x * d ≤ b * (y * c)
no_more x c y d b h k = le_trans (mul-le-mul h k) (le_of_eq (mul_assoc b c y ∙ ap (λ (z : ℕ). b * z) (mul_comm c y)))

-- ---- bounds by comparisons with y, which is b or -b, and back

crossed : (x c y d b : ℕ) → y * 1 ≡ b * d → x ≤ b * c → x * d ≤ y * c
crossed x c y d b is h =
    le_trans (mul-le-mul_right d h) (le_of_eq (mul_right_comm b c d ∙ ap (λ (z : ℕ). z * c) (sym is ∙ mul-one y)))

uncrossed : (x c y d b : ℕ) → 0 < d → y * 1 ≡ b * d → x * d ≤ y * c → x ≤ b * c
uncrossed x c y d b D is h =
    le_of_mul-le-mul_right (le_trans h (le_of_eq (ap (λ (z : ℕ). z * c) (sym (mul-one y) ∙ is) ∙ mul_right_comm b d c))) D

pub small_to : (y x : Float) (b : ℕ) → HasValue y false b 1 → Small x b → T (le x y)
small_to nan x b v p = absurd v
small_to (inf t) x b v p = absurd v
small_to (fin true n d) x b v p = absurd (true_false v.0)
small_to (fin false n d) nan b v p = absurd p
small_to (fin false n d) (inf s) b v p = absurd p
small_to (fin false n d) (fin true m e) b v p = order_le (fin true m e) (fin false n d) tt tt (omega arith)
small_to (fin false n d) (fin false m e) b v p =
    order_le (fin false m e) (fin false n d) tt tt (omega (arith, crossed (m * up e) (down e) (n * up d) (down d) b v.1 p))

pub small_from : (y x : Float) (b : ℕ) → HasValue y true b 1 → Small x b → T (le y x)
small_from nan x b v p = absurd v
small_from (inf t) x b v p = absurd v
small_from (fin false n d) x b v p = absurd (true_false (sym v.0))
small_from (fin true n d) nan b v p = absurd p
small_from (fin true n d) (inf s) b v p = absurd p
small_from (fin true n d) (fin false m e) b v p = order_le (fin true n d) (fin false m e) tt tt (omega arith)
small_from (fin true n d) (fin true m e) b v p =
    order_le (fin true n d) (fin true m e) tt tt (omega (arith, crossed (m * up e) (down e) (n * up d) (down d) b v.1 p))

pub least_small : (y x : Float) (b : ℕ) → HasValue y false b 1 → AtLeast0 x → T (le x y) → Small x b
unfolding le of_int
least_small nan x b v h k = absurd v
least_small (inf t) x b v h k = absurd v
least_small (fin true n d) x b v h k = absurd (true_false v.0)
least_small (fin false n d) nan b v h k = absurd k
least_small (fin false n d) (inf true) b v h k = absurd h
least_small (fin false n d) (inf false) b v h k = absurd k
least_small (fin false n d) (fin true m e) b v h k = le_trans (le_of_eq (least_minus true m e h)) zero-le
least_small (fin false n d) (fin false m e) b v h k =
    uncrossed (m * up e) (down e) (n * up d) (down d) b (down_pos d) v.1 (omega (arith, le_order (fin false m e) (fin false n d) tt tt k))
