-- E10: a score is below 1, and in time at least -1, of a single state and of what a craft came to: what rests on the numbers that the bonuses come to.
-- Assumes nothing.
use Rattle.std.specs.Prelude.{ℕ, ◌<◌, ◌≤◌, Bool, true, false, cond, T, pos, ◌==◌, int_le, nat_le}
use Rattle.std.proofs.Common.{arith, ne_eqb}
use Rattle.std.specs.Float.Ieee.{of_int, neg, lt, le}
use Rattle.laws.specs.Floats.{hundredths, one, minus_one}
use Rattle.laws.specs.laws.Order.{le_through, lt_after}
use Rattle.laws.proofs.Within.{low_finite, within_finite}
use Rattle.craft_context.specs.declared.context.CraftContext.{CraftContext}
use Rattle.craft_state.specs.declared.state.CraftState.{CraftState}
use Rattle.craft_state.specs.Limits.{step_most}
use Rattle.score.specs.Score.{score_of}
use Rattle.score.specs.Result.{judged_by}
use Rattle.score.specs.Bounds.{greatest_score, ScoreBounds, ScoreIsBounded}
use Rattle.score.specs.declared.result.CraftResult.TheVariants as R
use Rattle.score.specs.laws.Score.{weighed_within, score_finite, by_steps, Scorable, scorable}
use Rattle.score.specs.laws.Bounds.{greatest_finite, greatest_below_one, inf_below_one, score_most, score_from, floor_one, floor_three_quarters, floor_weighed, Timely}

module _ (context : CraftContext) (state : CraftState) (given : Scorable context state) (top : context.step_max ≤ step_most) where
  pub score_below_one : T (lt (score_of context state) one)
  unfolding of_int
  score_below_one =
      by_steps context state given given.started (λ x. T (lt x one)) inf_below_one
      (λ some. lt_after (score_of context state) greatest_score one (score_finite context state given top some) greatest_finite tt (score_most context state given top) greatest_below_one)

module _ (context : CraftContext) (state : CraftState) (given : Scorable context state) (top : context.step_max ≤ step_most) (some : 0 < context.step_max) where
  module _ (early : state.step ≤ context.step_max) where
    pub score_least : T (le minus_one (score_of context state))
    score_least = score_from context state given top some minus_one false true absurd (λ t. early) floor_one

    -- -0.75 where the craft is finished
    pub finished_least : context.progress_target ≤ state.progress → T (le (neg (hundredths 75)) (score_of context state))
    finished_least done = score_from context state given top some (neg (hundredths 75)) true true (λ t. done) (λ t. early) floor_three_quarters

  -- past step_max at least -13.65 where there is a quality target
  pub weighed_lowest : 0 < context.quality_target → T (le (neg (hundredths 1365)) (score_of context state))
  unfolding score_of
  weighed_lowest aimed =
      let w = weighed_within context state given top some false absurd false absurd in
      rw (ne_eqb context.quality_target 0 (λ e. omega arith))
      (le_through (neg (hundredths 1365)) _ _ floor_weighed.0 (low_finite w) (within_finite w) floor_weighed.1 w.from)

module _ (c : CraftContext) (top : c.step_max ≤ step_most) (s : CraftState) (t : Timely c s) where
  pub score_bounded : ScoreBounds c (score_of c s)
  score_bounded =
      let rests = scorable c s t.inside t.byte in
      record {
        below = score_below_one c s rests top;
        least = λ some. score_least c s rests top some (t.early some);
      }

  pub judged_bounded : (moves : ℕ) → ScoreIsBounded c (judged_by c s moves)
  unfolding judged_by
  judged_bounded moves = by (nat_le c.progress_target s.progress) (int_le s.durability (pos 0)) (nat_le c.step_max s.step) (moves == 0)
    where
      by : (a d b m : Bool)
          → ScoreIsBounded c (cond a (R.Finished (score_of c s)) (cond d R.DurabilityFailure (cond b R.MaxStepsFailure (cond m R.InvalidActionFailure R.Continuing))))
      by true d b m = score_bounded
      by false true b m = tt
      by false false true m = tt
      by false false false true = tt
      by false false false false = tt
