-- Bounds of what an action adds to progress and quality.
-- Assumes nothing.
use Rattle.std.specs.Prelude.{Bool, true, false, cond, ℕ, ◌+◌, ◌*◌, ◌≤◌, eqb, ltb}
use Rattle.std.proofs.Common.{mul-le-mul, arith}
use Rattle.laws.specs.laws.Tests.{cond_le}
use Rattle.action.specs.Actions.{ByregotsBlessing, TrainedEye}
use Rattle.action.specs.Limits.{factor_most, progress_most, quality_most, quiet_most, gain_most}
use Rattle.action.specs.Gain.{multiplier_of, progress_gain_of, efficiency_of, quality_gain_of, Touchable}

-- ---- the products before the division

pub progress_product : {base efficiency m : ℕ} → base ≤ factor_most → efficiency ≤ progress_most → m ≤ 250
    → base * efficiency * m ≤ factor_most * progress_most * 250
progress_product b e h = mul-le-mul (mul-le-mul b e) h

pub touch_two : {base efficiency : ℕ} → base ≤ factor_most → efficiency ≤ quality_most → base * efficiency ≤ factor_most * quality_most
touch_two b e = mul-le-mul b e

pub touch_three : {base efficiency quiet : ℕ} → base ≤ factor_most → efficiency ≤ quality_most → quiet ≤ quiet_most
    → base * efficiency * (100 + 10 * quiet) ≤ factor_most * quality_most * 200
touch_three {quiet = quiet} b e q = let h : 100 + 10 * quiet ≤ 200 = omega arith in mul-le-mul (touch_two b e) h

pub touch_four : {base efficiency quiet m : ℕ} → base ≤ factor_most → efficiency ≤ quality_most → quiet ≤ quiet_most → m ≤ 250
    → base * efficiency * (100 + 10 * quiet) * m ≤ factor_most * quality_most * 200 * 250
touch_four b e q h = mul-le-mul (touch_three b e q) h

-- ---- the gains

multiplier_at_most : (half whole : ℕ) → multiplier_of half whole ≤ 250
multiplier_at_most half whole = go (ltb 0 half) (ltb 0 whole)
  where
    go : (t u : Bool) → 100 + cond t 50 0 + cond u 100 0 ≤ 250
    go true true = omega arith
    go true false = omega arith
    go false true = omega arith
    go false false = omega arith

pub progress_gain_at_most : {base efficiency : ℕ} (veneration muscle_memory : ℕ) → base ≤ factor_most → efficiency ≤ progress_most
    → progress_gain_of base efficiency veneration muscle_memory ≤ gain_most
progress_gain_at_most veneration muscle_memory b e = omega (arith, progress_product b e (multiplier_at_most veneration muscle_memory))

own_at_most : {efficiency quiet : ℕ} (n : ℕ) → efficiency ≤ quality_most → quiet ≤ quiet_most → efficiency_of n efficiency quiet ≤ quality_most
own_at_most n e q = cond_le (eqb n ByregotsBlessing) (omega arith) e

pub quality_gain_at_most : {missing base efficiency quiet : ℕ} (n innovation great_strides : ℕ) → Touchable missing base efficiency quiet
    → quality_gain_of n missing base efficiency quiet innovation great_strides ≤ gain_most
quality_gain_at_most {missing} {base} {efficiency} {quiet} n innovation great_strides t =
    let four = touch_four t.factor (own_at_most n t.row t.quiet) t.quiet (multiplier_at_most innovation great_strides) in
    cond_le (eqb n TrainedEye) (omega (arith, t.target)) (omega (arith, four))
