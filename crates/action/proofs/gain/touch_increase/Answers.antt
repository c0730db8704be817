-- `action::gain::touch_increase` meets its contract.
-- Assumes nothing.
use Prim.Native.Nat.{◌+◌, ◌*◌, ◌≤◌}
use native.Mathlib.Omega.{arith}
use Rattle.action.specs.Limits.{factor_most, quality_most}
use Rattle.action.specs.laws.Gain.{touch_four}
use Rattle.action.proofs.gain.touch_increase.Goals as goal
use Rattle.action.proofs.gain.touch_increase.Goals.{After-multiplier-m}

-- the product before the division
four : (c : After-multiplier-m) → c.args.base * c.args.efficiency * (100 + 10 * c.args.inner_quiet) * c.multiplier-m.result ≤ factor_most * quality_most * 200 * 250
four c = let p = c.requires in touch_four p.0 p.1 p.2 c.multiplier-m.ensures.1

pub overflow_mul-result-3 : goal.overflow_mul-result-3
overflow_mul-result-3 c = omega (arith, four c)

pub overflow_cast-result-3 : goal.overflow_cast-result-3
overflow_cast-result-3 c = omega (arith, four c)

pub returns : goal.returns
returns c = (rw c.multiplier-m.ensures.0, omega (arith, four c))
