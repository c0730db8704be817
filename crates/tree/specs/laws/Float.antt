-- Laws of floats for the records: bounds by comparisons and back, counts of visits, maxima, and the sign by its bit.
-- Assumes nothing.
use Rattle.std.specs.Prelude.{◌≡◌, ℕ, zero, suc, ◌+◌, ◌*◌, ◌<◌, ◌≤◌, Bool, true, false, not, ◌&&◌, ◌||◌, T, ℤ, pos, ◌==◌, nat_lt, refl, Float}
use Rattle.std.proofs.Common.{sym, ap, ◌∙◌, subst, zero-le, le_trans, le_of_eq, le_of_mul-le-mul_right, mul-le-mul_right, mul-one, one-mul, zero-mul, add-mul, mul_assoc, mul_right_comm, arith, lt→ltb, eqb→eq, lit≤, lt-ltb, le-ltb}
use Rattle.std.proofs.Math.Nat.{eq_of_mul-eq-mul_right, sub-zero}
use Rattle.std.proofs.Math.Dec.{eqb_refl}
use Rattle.std.specs.Float.{nan, inf, fin, binary32}
use Rattle.std.specs.Float.Ieee.{up, down, round, sum, add, neg, lt, eq, le, of_bits, of_int, to_unsigned, to_bits, top, fits, is_nan}
use Rattle.std.specs.Float.Ieee.Bits.{to_bits-lt}
use Rattle.std.specs.Float.Ieee.Digits.{Equals}
use Rattle.std.specs.Float.Ieee.Exact.{HasValue}
use Rattle.std.specs.Float.Ieee.Fits.{down_pos, and_i}
use Rattle.std.specs.Float.Ieee.Scale.{round_same}
use Rattle.laws.specs.laws.Tests.{and_left, and_right}
use Rattle.laws.specs.laws.Order.{signed_le, le_signed}
use Rattle.laws.specs.laws.Small.{Small, or_le}
use Rattle.tree.specs.Node.{plus_zero, visits_most, count_most}
use Rattle.tree.specs.Sound.{within, minus}
use Rattle.laws.specs.Floats.{float, one, minus_one}

-- ---- comparisons of magnitudes, as `le` computes them

level_of : (a b : ℕ) (t : Bool) → T (a == b && t) → a ≡ b
level_of a b t h = eqb→eq a b (and_left (a == b) t h)

pub at_most : (a b : ℕ) → a ≤ b → T (nat_lt a b || (a == b && true))
at_most a b h = signed_le false a false b (omega arith)

-- the same of two that are negative
over : (a b : ℕ) → T (nat_lt a b || (b == a && true)) → a ≤ b
over a b h = omega (arith, le_signed true b true a h)

at_least : (a b : ℕ) → a ≤ b → T (nat_lt a b || (b == a && true))
at_least a b h = signed_le true b true a (omega arith)

-- what is negative is at most what is not
opposite : (a b : ℕ) → T (nat_lt 0 (a + b) || (a == b && a == 0))
opposite a b = signed_le true a false b (omega arith)

-- a / de is at most b / dd, which is k
lowered : (a b k de dd : ℕ) → 0 < dd → b * 1 ≡ k * dd → a * dd ≤ b * de → a ≤ k * de
lowered a b k de dd p is h =
    le_of_mul-le-mul_right (le_trans h (le_of_eq (ap (λ (z : ℕ). z * de) (sym (mul-one b) ∙ is) ∙ mul_right_comm k dd de))) p

raised : (a b k de dd : ℕ) → b * 1 ≡ k * dd → a ≤ k * de → a * dd ≤ b * de
raised a b k de dd is h =
    le_trans (mul-le-mul_right dd h) (le_of_eq (mul_right_comm k de dd ∙ ap (λ (z : ℕ). z * de) (sym is ∙ mul-one b)))

-- ---- |x| ≤ most, where most is a whole number k

pub within_small : (x most : Float) (k : ℕ) → Equals most k 1 → T (within x most) → Small x k
unfolding le lt eq neg
within_small x nan k is h = absurd is
within_small x (inf t) k is h = absurd is
within_small nan (fin t n d) k is h = absurd h
within_small (inf true) (fin t n d) k is h = absurd h
within_small (inf false) (fin t n d) k is h = absurd h
within_small (fin false m e) (fin false n d) k is h =
    lowered (m * up e) (n * up d) k (down e) (down d) (down_pos d) is (or_le _ _ _ (and_right (le (fin true n d) (fin false m e)) _ h))
within_small (fin false m e) (fin true n d) k is h =
    lowered (m * up e) (n * up d) k (down e) (down d) (down_pos d) is (le_of_eq (level_of _ _ _ (and_right (le (fin false n d) (fin false m e)) _ h)))
within_small (fin true m e) (fin false n d) k is h =
    lowered (m * up e) (n * up d) k (down e) (down d) (down_pos d) is (over _ _ (and_left (le (fin true n d) (fin true m e)) _ h))
within_small (fin true m e) (fin true n d) k is h =
    lowered (m * up e) (n * up d) k (down e) (down d) (down_pos d) is (le_of_eq (sym (level_of _ _ _ (and_left (le (fin false n d) (fin true m e)) _ h))))

pub small_within : (x most : Float) (k : ℕ) → HasValue most false k 1 → Small x k → T (within x most)
unfolding le lt eq neg
small_within nan most k is h = absurd h
small_within (inf s) most k is h = absurd h
small_within (fin s m e) nan k is h = absurd is
small_within (fin s m e) (inf t) k is h = absurd is
small_within (fin s m e) (fin true n d) k is h = absurd (subst T is.0 tt)
small_within (fin false m e) (fin false n d) k is h =
    let bound : m * up e * down d ≤ n * up d * down e = raised (m * up e) (n * up d) k (down e) (down d) is.1 h in
    and_i (le (fin true n d) (fin false m e)) (le (fin false m e) (fin false n d)) (opposite (n * up d * down e) (m * up e * down d)) (at_most _ _ bound)
small_within (fin true m e) (fin false n d) k is h =
    let bound : m * up e * down d ≤ n * up d * down e = raised (m * up e) (n * up d) k (down e) (down d) is.1 h in
    and_i (le (fin true n d) (fin true m e)) (le (fin true m e) (fin false n d)) (at_least _ _ bound) (opposite (m * up e * down d) (n * up d * down e))

-- ---- from zero to a whole number k

pub zero_small : (x most : Float) (k : ℕ) → HasValue most false k 1 → T (le plus_zero x) → T (le x most) → Small x k
unfolding le lt eq of_int
zero_small x nan k is p h = absurd is
zero_small x (inf t) k is p h = absurd is
zero_small x (fin true n d) k is p h = absurd (subst T is.0 tt)
zero_small nan (fin false n d) k is p h = absurd p
zero_small (inf true) (fin false n d) k is p h = absurd p
zero_small (inf false) (fin false n d) k is p h = absurd h
zero_small (fin true m e) (fin false n d) k is p h = le_trans (le_of_eq (sym (mul-one (m * up e)) ∙ sym (level_of _ _ _ p) ∙ zero-mul (down e))) zero-le
zero_small (fin false m e) (fin false n d) k is p h = lowered (m * up e) (n * up d) k (down e) (down d) (down_pos d) is.1 (or_le _ _ _ h)

-- what a cast that drops the fraction asks
pub zero_above : (x : Float) → T (le plus_zero x) → T (lt (fin true 1 (pos 0)) x)
unfolding le lt eq of_int
zero_above nan p = p
zero_above (inf true) p = p
zero_above (inf false) p = tt
zero_above (fin true m e) p =
    let none : 0 * down e ≡ m * up e * 1 = level_of _ _ _ p in
    lt→ltb (m * up e * 1) (1 * down e) (omega (arith, zero-mul (down e), one-mul (down e), down_pos e))
zero_above (fin false m e) p = lt→ltb 0 (1 * down e + m * up e * 1) (omega (arith, one-mul (down e), down_pos e))

-- ---- counts: whole numbers up to 2 ^ 24

pub zero_value : HasValue plus_zero false 0 1
unfolding of_int
zero_value = (refl, refl)

pub most_value : HasValue visits_most false count_most 1
unfolding of_int
most_value = (refl, refl)

pub count_small : (x : Float) → T (le plus_zero x && le x visits_most) → Small x count_most
count_small x h = zero_small x visits_most count_most most_value (and_left (le plus_zero x) _ h) (and_right (le plus_zero x) _ h)

pub one_value : HasValue one false 1 1
unfolding of_int
one_value = (refl, refl)

pub one_small : (x : Float) → T (le plus_zero x && le x one) → Small x 1
one_small x h = zero_small x one 1 one_value (and_left (le plus_zero x) _ h) (and_right (le plus_zero x) _ h)

pub eq_equals : (y x : Float) (k : ℕ) → HasValue y false k 1 → T (eq y x) → Equals x k 1
unfolding eq
eq_equals nan x k is h = absurd is
eq_equals (inf t) x k is h = absurd is
eq_equals (fin t n d) nan k is h = absurd h
eq_equals (fin t n d) (inf s) k is h = absurd h
eq_equals (fin t n d) (fin s m e) k is h =
    let cross : n * up d * down e ≡ m * up e * down d = level_of _ _ _ h in
    mul-one (m * up e) ∙ eq_of_mul-eq-mul_right (down d) (down_pos d) (m * up e) (k * down e)
    (sym cross ∙ ap (λ (z : ℕ). z * down e) (sym (mul-one (n * up d)) ∙ is.1) ∙ mul_right_comm k (down d) (down e))

pub same_value : (x : Float) (a b : ℕ) → HasValue x false a 1 → Equals x b 1 → a ≡ b
same_value nan a b p q = absurd p
same_value (inf s) a b p q = absurd p
same_value (fin s m e) a b p q = eq_of_mul-eq-mul_right (down e) (down_pos e) a b (sym p.1 ∙ q)

pub eq_self : (x : Float) (k : ℕ) → HasValue x false k 1 → T (eq x x)
unfolding eq
eq_self nan k is = absurd is
eq_self (inf s) k is = absurd is
eq_self (fin true m e) k is = absurd (subst T is.0 tt)
eq_self (fin false m e) k is = and_i (m * up e * down e == m * up e * down e) true (eqb_refl (m * up e * down e)) tt

-- one more than a count is the next whole number
counted : (k c : ℕ) → (k * c + 1 * c) * 1 ≡ (k + 1) * (c * 1)
counted k c = mul-one (k * c + 1 * c) ∙ sym (add-mul k 1 c) ∙ ap (λ (z : ℕ). (k + 1) * z) (sym (mul-one c))

sum_from_minus_zero : (a b c : ℕ) → a ≡ 0 → 0 < b → sum binary32 true a false b c ≡ round binary32 false b c
unfolding sum
sum_from_minus_zero a b c e p = rw (e, lt-ltb 0 b p, sub-zero)

pub count_more : (x : Float) (k : ℕ) → to_unsigned 64 x ≡ k → Equals x k 1 → add binary32 x one ≡ float (k + 1)
unfolding add of_int to_unsigned
count_more nan k e is = absurd is
count_more (inf s) k e is = absurd is
count_more (fin true m x) k e is =
    let none : m * up x * 1 ≡ 0 = is ∙ ap (λ (z : ℕ). z * down x) (sym e) ∙ zero-mul (down x) in
    let next : 1 * down x * 1 ≡ (k + 1) * (down x * 1) = rw (← e) (mul_assoc 1 (down x) 1) in
    sum_from_minus_zero (m * up x * 1) (1 * down x) (down x * 1) none (rw one-mul (down_pos x))
    ∙ round_same binary32 false (1 * down x) (down x * 1) (k + 1) 1 (rw mul-one (down_pos x)) (lit≤ tt) next
count_more (fin false m x) k e is =
    round_same binary32 false (m * up x * 1 + 1 * down x) (down x * 1) (k + 1) 1 (rw mul-one (down_pos x)) (lit≤ tt)
    (ap (λ (z : ℕ). (z + 1 * down x) * 1) is ∙ counted k (down x))

-- ---- maxima

pub plus_above : (x y : Float) → T (not (minus x)) → T (lt x y) → T (le plus_zero y) × T (not (minus y))
unfolding le lt eq of_int
plus_above nan y p h = absurd h
plus_above (inf true) y p h = absurd p
plus_above (inf false) nan p h = absurd h
plus_above (inf false) (inf t) p h = absurd h
plus_above (inf false) (fin t n d) p h = absurd h
plus_above (fin true m e) y p h = absurd p
plus_above (fin false m e) nan p h = absurd h
plus_above (fin false m e) (inf true) p h = absurd h
plus_above (fin false m e) (inf false) p h = (tt, tt)
plus_above (fin false m e) (fin true n d) p h = absurd h
plus_above (fin false m e) (fin false n d) p h = (at_most (0 * down d) (n * up d * 1) (omega (arith, zero-mul (down d))), tt)

-- ---- the sign by its bit

fits_either : (m : ℕ) (e : ℤ) → T (fits binary32 (fin false m e)) → T (fits binary32 (fin true m e))
unfolding fits
fits_either zero e h = h
fits_either (suc m) e h = h

pub bits_sign : (x : Float) → T (fits binary32 x) → T (not (is_nan x)) → nat_lt (to_bits binary32 x) 0x8000_0000 ≡ not (minus x)
unfolding is_nan to_bits
bits_sign nan f h = absurd h
bits_sign (inf true) f h = refl
bits_sign (inf false) f h = refl
bits_sign (fin true m e) f h = le-ltb (to_bits binary32 (fin true m e)) 0x8000_0000 (omega arith)
bits_sign (fin false m e) f h =
    let bound : to_bits binary32 (fin true m e) < 2 * top binary32 = to_bits-lt binary32 (fin true m e) (fits_either m e f) in
    lt-ltb (to_bits binary32 (fin false m e)) 0x8000_0000 (omega arith)

-- ---- the bits by which the code writes these numbers

pub zero_bits : of_bits binary32 0 ≡ plus_zero
unfolding of_bits of_int
zero_bits = refl

pub most_bits : of_bits binary32 0x4b80_0000 ≡ visits_most
unfolding of_bits of_int
most_bits = refl

pub minus_one_bits : of_bits binary32 0xbf80_0000 ≡ minus_one
unfolding of_bits of_int
minus_one_bits = refl
