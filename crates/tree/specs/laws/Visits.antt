-- Visits in order: a count that is at most a whole number is so without its fraction, one visit more is at most one more, and it is full at 16,777,216 alone.
-- Assumes nothing.
use Rattle.std.specs.Prelude.{◌≡◌, ℕ, zero, suc, ◌+◌, ◌*◌, ◌<◌, ◌≤◌, Bool, true, false, ◌&&◌, T, refl, Float}
use Rattle.std.proofs.Common.{ap, ◌∙◌, mul-one, arith, lit≤, le→leb}
use Rattle.std.specs.Float.{nan, inf, fin, binary32}
use Rattle.std.specs.Float.Ieee.{up, of_int, add, lt, le, eq, to_unsigned, in_float}
use Rattle.std.specs.Float.Ieee.Back.{unsigned_back}
use Rattle.std.specs.Float.Ieee.Digits.{Equals}
use Rattle.std.specs.Float.Ieee.Exact.{HasValue}
use Rattle.std.specs.Float.Ieee.Order.{le_of_values}
use Rattle.std.specs.Float.Ieee.Scale.{finite}
use Rattle.laws.specs.Floats.{float, one}
use Rattle.laws.specs.laws.Tests.{both}
use Rattle.laws.specs.laws.Small.{Small, small_finite, of_nat_value, truncated_small}
use Rattle.laws.specs.laws.Order.{le_through}
use Rattle.laws.specs.laws.AtLeast.{small_to}
use Rattle.tree.specs.Node.{plus_zero, visits_most, count_most}
use Rattle.tree.specs.Sound.{is_count, is_whole}
use Rattle.tree.specs.laws.Float.{zero_small, count_small, count_more, zero_value}
use Rattle.tree.specs.laws.Node.{holds, count_equals, float_count}

-- ---- whole numbers

pub float_rises : (m n : ℕ) → m ≤ n → n ≤ count_most → T (le (float m) (float n))
float_rises m n h most =
    le_of_values (float m) (float n) m 1 n 1 (lit≤ tt) (lit≤ tt) (of_nat_value binary32 m (omega arith)) (of_nat_value binary32 n most) (omega arith)

pub float_back : (n : ℕ) → n ≤ count_most → to_unsigned 64 (float n) ≡ n
unfolding in_float
float_back n h = (unsigned_back binary32 64 n (le→leb n count_most h) (omega arith)).1

equals_small : (x : Float) (n : ℕ) → Equals x n 1 → Small x n
equals_small nan n e = e
equals_small (inf s) n e = e
equals_small (fin s m e) n is = omega (arith, is, mul-one (m * up e))

most_back : to_unsigned 64 visits_most ≡ count_most
unfolding to_unsigned of_int
most_back = refl

zero_most : T (le plus_zero visits_most)
unfolding of_int le lt eq
zero_most = tt

one_above_zero : T (le one plus_zero) → ⊥
unfolding of_int le lt eq
one_above_zero h = h

value_finite : (x : Float) (n : ℕ) → HasValue x false n 1 → T (finite x)
value_finite nan n v = v
value_finite (inf s) n v = v
value_finite (fin s m e) n v = tt

most_finite : T (finite visits_most)
unfolding of_int
most_finite = tt

zero_finite : T (finite plus_zero)
unfolding of_int
zero_finite = tt

one_finite : T (finite one)
unfolding of_int
one_finite = tt

-- ---- counts

module _ (x : Float) (is : is_count x ≡ true) where
  bounded : T (le plus_zero x && le x visits_most)
  unfolding is_count
  bounded = holds (both (le plus_zero x && le x visits_most) (is_whole x) is).0

  least : T (le plus_zero x)
  unfolding is_count
  least = holds (both (le plus_zero x) (le x visits_most) (both (le plus_zero x && le x visits_most) (is_whole x) is).0).0

  pub count_finite : T (finite x)
  count_finite = small_finite x count_most (count_small x bounded)

  pub count_at_least : T (le one x) → 0 < to_unsigned 64 x
  count_at_least h = go (to_unsigned 64 x) refl
    where
      go : (n : ℕ) → to_unsigned 64 x ≡ n → 0 < n
      go zero e =
          absurd (one_above_zero (le_through one x plus_zero one_finite count_finite zero_finite h
          (small_to plus_zero x 0 zero_value (equals_small x 0 (rw e at (count_equals x is))))))
      go (suc n) e = omega arith

  counted : add binary32 x one ≡ float (to_unsigned 64 x + 1)
  counted = count_more x (to_unsigned 64 x) refl (count_equals x is)

  module _ (n : ℕ) (top : n < count_most) (most : T (le x (float n))) where
    pub count_at_most : to_unsigned 64 x ≤ n
    count_at_most = truncated_small 64 x n (zero_small x (float n) n (of_nat_value binary32 n (omega arith)) least most)

    pub more_at_most : T (le (add binary32 x one) (float (n + 1)))
    more_at_most = rw counted (float_rises (to_unsigned 64 x + 1) (n + 1) (omega (arith, count_at_most)) (omega arith))

    pub more_at_least : T (le one (add binary32 x one))
    more_at_least = rw counted (float_rises 1 (to_unsigned 64 x + 1) (omega arith) (omega (arith, count_at_most)))

    pub count_not_full : le visits_most x ≡ false
    count_not_full = go (le visits_most x) refl
      where
        go : (t : Bool) → le visits_most x ≡ t → t ≡ false
        go false e = refl
        go true e =
            let value = of_nat_value binary32 n (omega arith) in
            let over : T (le visits_most (float n)) =
            le_through visits_most x (float n) most_finite count_finite (value_finite (float n) n value) (holds e) most in
            let bound : to_unsigned 64 visits_most ≤ n = truncated_small 64 visits_most n (zero_small visits_most (float n) n value zero_most over) in
            absurd (omega (arith, most_back))

pub float_finite : (n : ℕ) → n ≤ count_most → T (finite (float n))
float_finite n h = count_finite (float n) (float_count n h)

pub float_more : (n : ℕ) → n < count_most → add binary32 (float n) one ≡ float (n + 1)
float_more n h = counted (float n) (float_count n (omega arith)) ∙ ap (λ (k : ℕ). float (k + 1)) (float_back n (omega arith))
