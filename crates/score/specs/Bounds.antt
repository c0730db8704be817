-- Document 02, E10, "Can a score reach one?": what every finished score of a replay is between, in IEEE 754's order.
-- Assumes nothing.
use Rattle.std.specs.Prelude.{ℕ, ◌<◌, T, Float}
use Rattle.std.specs.Float.Ieee.{lt, le}
use Rattle.laws.specs.Floats.{one, minus_one}
use Rattle.craft_context.specs.declared.context.CraftContext.{CraftContext}
use Rattle.craft_state.specs.Limits.{step_least, step_most}
use Rattle.score.specs.Score.{fewer_of, weigh_four, weigh}
use Rattle.score.specs.declared.result.CraftResult.{CraftResult}
use Rattle.score.specs.declared.result.CraftResult.TheVariants as R

-- a state inside the limits is at this step or a later one
abbrev pub first_step : ℕ
first_step = step_least

-- the greatest share of steps that can be left: at the first of 255
abbrev pub full_steps : Float
full_steps = fewer_of first_step step_most

-- the greatest score: with that, and each portion full
abbrev pub greatest_score : Float
greatest_score = weigh (weigh_four one one one one) full_steps

-- below 1; and at least -1 where step_max is above 0, as it is minus infinity where that is 0
pub record ScoreBounds (c : CraftContext) (score : Float) : Type 0 where
  pub below : T (lt score one)
  pub least : 0 < c.step_max → T (le minus_one score)

-- the score in a result, if it has one, is so bounded
abbrev pub ScoreIsBounded : CraftContext → CraftResult → Type 0
ScoreIsBounded c (R.Finished score) = ScoreBounds c score
ScoreIsBounded c R.DurabilityFailure = Unit {0}
ScoreIsBounded c R.MaxStepsFailure = Unit {0}
ScoreIsBounded c R.InvalidActionFailure = Unit {0}
ScoreIsBounded c R.Continuing = Unit {0}
