-- A base factor before its truncation is not negative and at most 200,070: what the truncation asks.
-- Assumes nothing.
use Rattle.std.specs.Prelude.{ℕ, ◌*◌, ◌≤◌, Bool, true, false}
use Rattle.std.proofs.Common.{le_trans, arith, lit<, lit≤}
use Rattle.std.specs.Float.{binary32}
use Rattle.std.specs.Float.Ieee.{div}
use Rattle.std.specs.Float.Ieee.Exact.{HasValue}
use Rattle.laws.specs.laws.Plus.{Plus, plus_of_nat, plus_add, plus_mul, plus_div}
use Rattle.laws.specs.laws.Small.{Small, small_more, of_nat_value, truncated_small}
use Rattle.laws.proofs.Small.{of_nat_small, add_small, mul_small, div_small}
use Rattle.action.specs.Limits.{factor_most}
use Rattle.laws.specs.Floats.{float, hundredths}
use Rattle.craft_context.specs.Factor.{base_of, scaled_of, factor_of}
use Rattle.craft_context.specs.inner.Factor.{Bounded}

module _ {stat divisor plus modifier : ℕ} (b : Bounded stat divisor plus modifier) where
  -- at most 10,000 * 10 / 1
  quotient_small : Small (div binary32 (float (stat * 10)) (float divisor)) 100000
  quotient_small =
      let top : Small (float (stat * 10)) 100000 = of_nat_small binary32 (stat * 10) 100000 (omega (arith, b.strong)) (lit≤ tt) in
      let whole : HasValue (float divisor) false divisor 1 = of_nat_value binary32 divisor (le_trans b.divisor_most (lit≤ tt)) in
      div_small binary32 _ _ 100000 divisor (lit≤ tt) b.divided whole
      (small_more (float (stat * 10)) 100000 (100000 * divisor) (omega (arith, b.divided)) top)

  base_small : Small (base_of stat divisor plus) 100035
  base_small = add_small binary32 _ _ 100000 35 (lit≤ tt) quotient_small (of_nat_small binary32 plus 35 b.raised (lit≤ tt))

  scale_small : Small (hundredths modifier) 2
  scale_small =
      div_small binary32 _ (float 100) 2 100 (lit≤ tt) (lit< tt) (of_nat_value binary32 100 (lit≤ tt))
      (of_nat_small binary32 modifier 200 b.modified (lit≤ tt))

  pub scaled_small : (scaled : Bool) → Small (scaled_of stat divisor plus modifier scaled) factor_most
  scaled_small true = mul_small _ _ _ 100035 2 (lit≤ tt) base_small scale_small
  scaled_small false = small_more (base_of stat divisor plus) 100035 factor_most (lit≤ tt) base_small

  -- THE bound of a factor, for all numbers that a context may be built from
  pub factor_most_lem : (scaled : Bool) → factor_of stat divisor plus modifier scaled ≤ factor_most
  factor_most_lem scaled = truncated_small 32 (scaled_of stat divisor plus modifier scaled) factor_most (scaled_small scaled)

base_plus : (stat divisor plus : ℕ) → Plus (base_of stat divisor plus)
base_plus stat divisor plus =
    plus_add binary32 _ _ (plus_div binary32 _ _ (plus_of_nat binary32 (stat * 10)) (plus_of_nat binary32 divisor)) (plus_of_nat binary32 plus)

pub scaled_plus : (stat divisor plus modifier : ℕ) (scaled : Bool) → Plus (scaled_of stat divisor plus modifier scaled)
scaled_plus stat divisor plus modifier true =
    plus_mul _ _ _ (base_plus stat divisor plus) (plus_div binary32 _ (float 100) (plus_of_nat binary32 modifier) (plus_of_nat binary32 100))
scaled_plus stat divisor plus modifier false = base_plus stat divisor plus
