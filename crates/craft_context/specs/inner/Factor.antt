-- For the contracts of inner functions: what a factor rests on.
-- Assumes nothing.
use Rattle.std.specs.Prelude.{ℕ, ◌<◌, ◌≤◌}
use Rattle.craft_context.specs.Limits.{stat_most, div_most, mod_most}
use Rattle.craft_context.specs.Factor.{quality_plus}

-- what a factor rests on, which the code keeps as the invariant of `Factor`: numbers that passed the builder's tests (`build_bounded` in specs/laws/Build.antt)
pub record Bounded (stat divisor plus modifier : ℕ) : Type 0 where
  pub strong : stat ≤ stat_most
  pub divided : 0 < divisor
  pub divisor_most : divisor ≤ div_most
  pub raised : plus ≤ quality_plus
  pub modified : modifier ≤ mod_most
