-- A ucb1 of fair numbers lies from -1 to 19: so it is finite and no NaN, and of two either one is below the other or they are equal, and never both.
-- Assumes nothing.
use Rattle.std.specs.Prelude.{◌≡◌, refl, true, not, ℕ, ◌^◌, ◌≤◌, T, Float}
use Rattle.std.proofs.Common.{subst, zero-le, le_refl, lit≤}
use Rattle.std.specs.Float.{binary32}
use Rattle.std.specs.Float.Ieee.{prec, of_int, neg, add, sub, mul, div, lt, eq, le, is_nan}
use Rattle.std.specs.Float.Ieee.Exact.{HasValue}
use Rattle.std.specs.Float.Ieee.Fits.{and_i, div-fits}
use Rattle.std.specs.Float.Ieee.Scale.{finite}
use Rattle.laws.specs.Floats.{float, one, minus_one}
use Rattle.laws.specs.laws.Tests.{and_left, and_right}
use Rattle.laws.specs.laws.Small.{Small, small_more, of_nat_value}
use Rattle.laws.proofs.Small.{of_nat_small, mul_small}
use Rattle.laws.specs.laws.NoNan.{finite_no_nan}
use Rattle.laws.specs.laws.Order.{one_of, one_of_three}
use Rattle.laws.proofs.Within.{Within, within_finite, add_within, sub_within}
use Rattle.laws.specs.laws.AtLeast.{AtLeast0, small_to, small_from, least_small}
use Rattle.laws.proofs.AtLeast.{mul_least, over_one_small, over_one_least, over_size}
use Rattle.sqrt.specs.Sqrt.{sqrt_of}
use Rattle.sqrt.specs.laws.Bounds.{sqrt_least, sqrt_small}
use Rattle.ucb1.specs.Ucb1.{exploitation_of, exploration_of, ucb1_of}
use Rattle.ucb1.specs.Fair.{between, Fair}

-- ---- bounds by a whole number, from comparisons and back

module _ (x : Float) (n : ℕ) (n-fits : n ≤ 2 ^ prec binary32) where
  between_least : T (between (float 0) x (float n)) → AtLeast0 x
  between_least h = and_left (le (float 0) x) (le x (float n)) h

  between_small : T (between (float 0) x (float n)) → Small x n
  between_small h = least_small (float n) x n (of_nat_value binary32 n n-fits) (between_least h) (and_right (le (float 0) x) (le x (float n)) h)

  least_within : AtLeast0 x → Small x n → Within n (float 0) x (float n)
  least_within h p =
      record {
        low = of_nat_small binary32 0 n zero-le n-fits;
        high = of_nat_small binary32 n n (le_refl n) n-fits;
        from = h;
        to = small_to (float n) x n (of_nat_value binary32 n n-fits) p;
      }

minus_one_value : HasValue minus_one true 1 1
unfolding of_int
minus_one_value = (refl, refl)

one_within : (x : Float) → Small x 1 → Within 1 minus_one x one
unfolding of_int
one_within x p =
    record {
      low = lit≤ tt;
      high = lit≤ tt;
      from = small_from minus_one x 1 minus_one_value p;
      to = small_to one x 1 (refl, refl) p;
    }

-- ---- the parts

-- 1 - w is from 0 to 1
rest_small : (w : Float) → T (between (float 0) w one) → Small (sub binary32 one w) 1
unfolding of_int sub add neg
rest_small w h =
    let v = sub_within binary32 (least_within w 1 (lit≤ tt) (between_least w 1 (lit≤ tt) h) (between_small w 1 (lit≤ tt) h)) one 1 (lit≤ tt) (lit≤ tt) in
    least_small one (sub binary32 one w) 1 (refl, refl) v.from v.to

-- ---- the whole

least_is : add binary32 (add binary32 minus_one (float 0)) (float 0) ≡ minus_one
unfolding of_int add
least_is = refl

most_is : add binary32 (add binary32 one one) (float 17) ≡ float 19
unfolding of_int add
most_is = refl

module _ {w c ln visits sum maximum : Float} (fair : Fair w c ln visits sum maximum) where
  average_small : Small (div binary32 sum visits) 1
  average_small =
      over_size binary32 visits sum fair.visited fair.counted (and_left (le (neg visits) sum) (le sum visits) fair.sum_in)
      (and_right (le (neg visits) sum) (le sum visits) fair.sum_in)

  pub exploitation_within : Within 2 (add binary32 minus_one (float 0)) (exploitation_of w visits sum maximum) (add binary32 one one)
  exploitation_within =
      let w-small = between_small w 1 (lit≤ tt) fair.weight in
      let m-small = between_small maximum 1 (lit≤ tt) fair.maximum_in in
      let w-least = between_least w 1 (lit≤ tt) fair.weight in
      let m-least = between_least maximum 1 (lit≤ tt) fair.maximum_in in
      add_within binary32
      (one_within _ (mul_small binary32 (sub binary32 one w) (div binary32 sum visits) 1 1 (lit≤ tt) (rest_small w fair.weight) average_small))
      (lit≤ tt)
      (least_within (mul binary32 w maximum) 1 (lit≤ tt) (mul_least binary32 w maximum 1 1 (lit≤ tt) w-small m-small w-least m-least)
      (mul_small binary32 w maximum 1 1 (lit≤ tt) w-small m-small))

  abbrev product : Float
  product = mul binary32 c ln

  pub product_small : Small product 272
  product_small =
      mul_small binary32 c ln 16 17 (lit≤ tt) (between_small c 16 (lit≤ tt) fair.exploration) (between_small ln 17 (lit≤ tt) fair.log)

  pub product_least : AtLeast0 product
  product_least =
      mul_least binary32 c ln 16 17 (lit≤ tt) (between_small c 16 (lit≤ tt) fair.exploration) (between_small ln 17 (lit≤ tt) fair.log)
      (between_least c 16 (lit≤ tt) fair.exploration) (between_least ln 17 (lit≤ tt) fair.log)

  pub quotient_small : Small (div binary32 product visits) 272
  quotient_small = over_one_small binary32 product visits 272 (lit≤ tt) fair.visited fair.counted product_small

  pub quotient_least : AtLeast0 (div binary32 product visits)
  quotient_least = over_one_least binary32 product visits 272 (lit≤ tt) fair.visited fair.counted product_small product_least

  pub exploration_within : Within 17 (float 0) (exploration_of c ln visits) (float 17)
  exploration_within =
      let q = div binary32 product visits in
      let f = div-fits binary32 product visits in
      least_within (sqrt_of q) 17 (lit≤ tt) (sqrt_least q f quotient_least)
      (sqrt_small q 17 f (lit≤ tt) quotient_least (small_more q 272 289 (lit≤ tt) quotient_small))

  -- from -1 + 0 + 0 to 1 + 1 + 17, each sum rounded
  ucb1_within : Within 19 (add binary32 (add binary32 minus_one (float 0)) (float 0)) (ucb1_of w c ln visits sum maximum)
      (add binary32 (add binary32 one one) (float 17))
  ucb1_within = add_within binary32 exploitation_within (lit≤ tt) exploration_within

  pub ucb1_between : T (between minus_one (ucb1_of w c ln visits sum maximum) (float 19))
  ucb1_between =
      and_i (le minus_one (ucb1_of w c ln visits sum maximum)) (le (ucb1_of w c ln visits sum maximum) (float 19))
      (subst (λ (x : Float). T (le x (ucb1_of w c ln visits sum maximum))) least_is ucb1_within.from)
      (subst (λ (x : Float). T (le (ucb1_of w c ln visits sum maximum) x)) most_is ucb1_within.to)

  pub ucb1_finite : T (finite (ucb1_of w c ln visits sum maximum))
  ucb1_finite = within_finite ucb1_within

  pub ucb1_no_nan : T (not (is_nan (ucb1_of w c ln visits sum maximum)))
  ucb1_no_nan = finite_no_nan (ucb1_of w c ln visits sum maximum) ucb1_finite

-- what "the greatest, the last of equals" rests on
pub ucb1_order : {w c ln visits sum maximum w' c' ln' visits' sum' maximum' : Float}
    → Fair w c ln visits sum maximum → Fair w' c' ln' visits' sum' maximum'
    → (let a = ucb1_of w c ln visits sum maximum in let b = ucb1_of w' c' ln' visits' sum' maximum' in one_of (lt a b) (eq a b) (lt b a) ≡ true)
ucb1_order {w} {c} {ln} {visits} {sum} {maximum} {w'} {c'} {ln'} {visits'} {sum'} {maximum'} p q =
    one_of_three (ucb1_of w c ln visits sum maximum) (ucb1_of w' c' ln' visits' sum' maximum') (ucb1_finite p) (ucb1_finite q)
