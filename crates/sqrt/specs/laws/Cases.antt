-- `sqrt_of` by the tests that the code makes: 0 < x, x < ∞, x = 0.
-- Assumes nothing.
use Rattle.std.specs.Prelude.{◌≡◌, refl, ℕ, zero, suc, ◌*◌, ◌<◌, Bool, true, false, not, ◌||◌, ◌⊎◌, ℤ, T, ltb, eqb, Float}
use Rattle.std.proofs.Common.{zero-lt-suc, mul-pos, arith, ltb→lt, lt→ltb, eqb→eq, T_not, inl, inr}
use Rattle.std.specs.Bool.{beq}
use Rattle.std.specs.Float.{nan, inf, fin, binary32}
use Rattle.std.specs.Float.Ieee.{up, down, of_bits, to_bits, lt, eq, le, is_nan, div}
use Rattle.std.specs.Float.Ieee.Fits.{and_l, and_i, eq→eqb, up_pos}
use Rattle.std.specs.Float.Ieee.Positive.{positive, above}
use Rattle.laws.specs.laws.Tests.{or_left, or_right}
use Rattle.sqrt.specs.Sqrt.{infinity_bits, root_bits, sqrt_of}

-- the two float numbers of the source, by their bit patterns
abbrev pub nought : Float
nought = of_bits binary32 0

abbrev pub endless : Float
endless = of_bits binary32 infinity_bits

pub yes : (b : Bool) → b ≡ true → T b
yes b e = rw e tt

pub no : (b : Bool) → b ≡ false → T (not b)
no b e = rw e tt

zero_below : (m : ℕ) (e : ℤ) → T (ltb (0 * 1 * down e) (m * up e * 1)) → 0 < m
zero_below zero e h = let l = ltb→lt (0 * 1 * down e) (0 * up e * 1) h in omega arith
zero_below (suc m) e h = zero-lt-suc m

pub above_zero : (x : Float) → T (lt nought x) → T (above x)
unfolding of_bits lt
above_zero nan h = absurd h
above_zero (inf s) h = h
above_zero (fin true m e) h = absurd h
above_zero (fin false m e) h = lt→ltb 0 m (zero_below m e h)

pub below_inf : (x : Float) → T (above x) → T (lt x endless) → T (positive x)
unfolding of_bits lt
below_inf nan a h = absurd a
below_inf (inf true) a h = absurd a
below_inf (inf false) a h = absurd h
below_inf (fin true m e) a h = absurd a
below_inf (fin false m e) a h = a

-- what is below something is no NaN
pub below_no_nan : (x y : Float) → T (lt x y) → T (not (is_nan x))
unfolding lt is_nan
below_no_nan nan y h = h
below_no_nan (inf s) y h = tt
below_no_nan (fin s m e) y h = tt

pub positive_no_nan : (x : Float) → T (positive x) → T (not (is_nan x))
unfolding is_nan
positive_no_nan nan p = absurd p
positive_no_nan (inf s) p = tt
positive_no_nan (fin s m e) p = tt

pub at_positive : (x : Float) → T (positive x) → of_bits binary32 (root_bits (to_bits binary32 x)) ≡ sqrt_of x
unfolding sqrt_of
at_positive nan p = absurd p
at_positive (inf s) p = absurd p
at_positive (fin true m e) p = absurd p
at_positive (fin false zero e) p = absurd p
at_positive (fin false (suc m) e) p = refl

pub at_inf : (x : Float) → T (above x) → T (not (lt x endless)) → x ≡ sqrt_of x
unfolding sqrt_of of_bits lt
at_inf nan a h = absurd a
at_inf (inf true) a h = absurd a
at_inf (inf false) a h = refl
at_inf (fin true m e) a h = absurd a
at_inf (fin false m e) a h = absurd h

pub more : (m : ℕ) (e : ℤ) → 0 * 1 * down e < suc m * up e * 1
more m e = let p : 0 < suc m * up e = mul-pos (zero-lt-suc m) (up_pos e) in omega arith

pub at_zero : (x : Float) → T (eq x nought) → x ≡ sqrt_of x
unfolding sqrt_of of_bits eq
at_zero nan h = absurd h
at_zero (inf s) h = absurd h
at_zero (fin s zero e) h = refl
at_zero (fin s (suc m) e) h =
    let q : suc m * up e * 1 ≡ 0 * 1 * down e = eqb→eq (suc m * up e * 1) (0 * 1 * down e) (and_l (eqb (suc m * up e * 1) (0 * 1 * down e)) _ h) in
    let l = more m e in
    absurd {A = fin s (suc m) e ≡ sqrt_of (fin s (suc m) e)} (omega arith)

is_zero : (s : Bool) (e : ℤ) → T (eq (fin s zero e) nought)
unfolding of_bits eq
is_zero s e =
    let q : 0 * up e * 1 ≡ 0 * 1 * down e = omega arith in
    let z : 0 * up e * 1 ≡ 0 = omega arith in
    and_i (eqb (0 * up e * 1) (0 * 1 * down e)) _ (eq→eqb q) (go (eqb (0 * up e * 1) 0) (eq→eqb z) s)
  where
    go : (b : Bool) → T b → (s : Bool) → T (beq s false || b)
    go b t true = t
    go b t false = tt

pub at_other : (x : Float) → T (not (lt nought x)) → T (not (eq x nought)) → div binary32 nought nought ≡ sqrt_of x
unfolding sqrt_of of_bits lt div
at_other nan h k = refl
at_other (inf true) h k = refl
at_other (inf false) h k = absurd h
at_other (fin s zero e) h k = absurd (T_not (eq (fin s zero e) nought) k (is_zero s e))
at_other (fin true (suc m) e) h k = refl
at_other (fin false (suc m) e) h k = absurd (T_not (ltb (0 * 1 * down e) (suc m * up e * 1)) h (lt→ltb _ _ (more m e)))

-- ---- by the test 0 ≤ x, where 0 < x < ∞ does not hold

zero_level : (s : Bool) (e : ℤ) → T (le nought (fin s zero e))
unfolding of_bits le lt eq
zero_level s e =
    let q : 0 * 1 * down e ≡ 0 * up e * 1 = omega arith in
    let z : 0 * 1 * down e ≡ 0 = omega arith in
    or_right (lt nought (fin s zero e)) _ (and_i (eqb (0 * 1 * down e) (0 * up e * 1)) _ (eq→eqb q) (go (eqb (0 * 1 * down e) 0) (eq→eqb z) s))
  where
    go : (b : Bool) → T b → (s : Bool) → T (beq false s || b)
    go b t true = t
    go b t false = tt

pub at_end : (x : Float) → T (le nought x) → T (not (lt nought x)) ⊎ T (not (lt x endless)) → x ≡ sqrt_of x
unfolding sqrt_of of_bits lt eq le
at_end nan h k = absurd h
at_end (inf true) h k = absurd h
at_end (inf false) h k = refl
at_end (fin s zero e) h k = refl
at_end (fin true (suc m) e) h k =
    let q : 0 * 1 * down e ≡ suc m * up e * 1 = eqb→eq (0 * 1 * down e) (suc m * up e * 1) (and_l (eqb (0 * 1 * down e) (suc m * up e * 1)) _ h) in
    let l = more m e in
    absurd {A = fin true (suc m) e ≡ sqrt_of (fin true (suc m) e)} (omega arith)
at_end (fin false (suc m) e) h (inl k) = absurd (T_not (ltb (0 * 1 * down e) (suc m * up e * 1)) k (lt→ltb _ _ (more m e)))
at_end (fin false (suc m) e) h (inr k) = absurd k

pub at_none : (x : Float) → T (not (le nought x)) → nan ≡ sqrt_of x
unfolding sqrt_of of_bits lt eq le
at_none nan h = refl
at_none (inf true) h = refl
at_none (inf false) h = absurd h
at_none (fin s zero e) h = absurd (T_not (le nought (fin s zero e)) h (zero_level s e))
at_none (fin true (suc m) e) h = refl
at_none (fin false (suc m) e) h =
    absurd (T_not (le nought (fin false (suc m) e)) h (or_left (ltb (0 * 1 * down e) (suc m * up e * 1)) _ (lt→ltb _ _ (more m e))))
