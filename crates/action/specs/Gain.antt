-- Document 01, 'One action', 2 and 3: what an action adds to progress and quality.
-- Assumes nothing.
use Rattle.std.specs.Prelude.{cond, ℕ, ◌+◌, ◌*◌, ◌/◌, ◌≤◌, eqb, ltb}
use Rattle.action.specs.Actions.{ByregotsBlessing, TrainedEye}
use Rattle.action.specs.Limits.{target_most, factor_most, quality_most, quiet_most}

-- m = 100, +50 under the one buff (veneration, innovation), +100 under the other (muscle_memory, great_strides)
abbrev pub multiplier_of : ℕ → ℕ → ℕ
multiplier_of half whole = 100 + cond (ltb 0 half) 50 0 + cond (ltb 0 whole) 100 0

-- ⌊base × eff × m / 10,000⌋
abbrev pub progress_gain_of : ℕ → ℕ → ℕ → ℕ → ℕ
progress_gain_of base efficiency veneration muscle_memory = base * efficiency * multiplier_of veneration muscle_memory / 10000

-- ByregotsBlessing has 100 + 20 iq
abbrev pub efficiency_of : ℕ → ℕ → ℕ → ℕ
efficiency_of n efficiency innerQuiet = cond (eqb n ByregotsBlessing) (100 + 20 * innerQuiet) efficiency

-- ⌊base × eff × (100 + 10 iq) × m / 1,000,000⌋
abbrev pub touch_gain_of : ℕ → ℕ → ℕ → ℕ → ℕ → ℕ
touch_gain_of base efficiency innerQuiet innovation great_strides = base * efficiency * (100 + 10 * innerQuiet) * multiplier_of innovation great_strides / 1000000

-- TrainedEye adds target minus quality, which is what is missing
abbrev pub quality_gain_of : ℕ → ℕ → ℕ → ℕ → ℕ → ℕ → ℕ → ℕ
quality_gain_of n missing base efficiency innerQuiet innovation great_strides =
    cond (eqb n TrainedEye) missing (touch_gain_of base (efficiency_of n efficiency innerQuiet) innerQuiet innovation great_strides)

-- what a quality gain rests on
pub record Touchable (missing base efficiency innerQuiet : ℕ) : Type 0 where
  pub target : missing ≤ target_most
  pub factor : base ≤ factor_most
  pub row : efficiency ≤ quality_most
  pub quiet : innerQuiet ≤ quiet_most
