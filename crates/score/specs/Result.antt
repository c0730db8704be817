-- Document 01, 'Results and scores', "Checked in order, moves in the call's mode": the result of a state.
-- Assumes nothing.
use Rattle.std.specs.Prelude.{ℕ, cond, not, T, List, [], ◌∷◌, pos, ◌==◌, int_le, is_nan, nat_le, Float}
use Rattle.action.specs.Bounds.{Rows}
use Rattle.action.specs.Table.{attributes_of}
use Rattle.craft_context.specs.declared.context.CraftContext.{CraftContext}
use Rattle.craft_state.specs.declared.state.CraftState.{CraftState}
use Rattle.moves.specs.Moves.{moves_by}
use Rattle.moves.specs.declared.mode.Mode.{Mode}
use Rattle.score.specs.Score.{score_of}
use Rattle.score.specs.declared.result.CraftResult.{CraftResult}
use Rattle.score.specs.declared.result.CraftResult.TheVariants as R

-- finished, durability failure, max steps failure, invalid (no moves), continuing
unfoldable pub judged_by : CraftContext → CraftState → ℕ → CraftResult
judged_by c s moves =
    cond (nat_le c.progress_target s.progress) (R.Finished (score_of c s))
    (cond (int_le s.durability (pos 0)) R.DurabilityFailure
    (cond (nat_le c.step_max s.step) R.MaxStepsFailure
    (cond (moves == 0) R.InvalidActionFailure R.Continuing)))

-- by any table, and by the table of action.rs
abbrev pub result_by : Rows → CraftContext → CraftState → Mode → CraftResult
result_by rows c s mode = judged_by c s (moves_by rows c s mode)

abbrev pub result_of : CraftContext → CraftState → Mode → CraftResult
result_of = result_by attributes_of

-- ---- document 01's number and value for each case

abbrev pub verdict_of : CraftResult → ℕ
verdict_of (R.Finished score) = 0
verdict_of R.DurabilityFailure = 1
verdict_of R.MaxStepsFailure = 2
verdict_of R.InvalidActionFailure = 3
verdict_of R.Continuing = 4

abbrev pub scores_in : CraftResult → List Float
scores_in (R.Finished score) = score ∷ []
scores_in R.DurabilityFailure = []
scores_in R.MaxStepsFailure = []
scores_in R.InvalidActionFailure = []
scores_in R.Continuing = []

-- the score in a result is no NaN
abbrev pub ScoreIsNumber : CraftResult → Type 0
ScoreIsNumber (R.Finished score) = T (not (is_nan score))
ScoreIsNumber R.DurabilityFailure = Unit {0}
ScoreIsNumber R.MaxStepsFailure = Unit {0}
ScoreIsNumber R.InvalidActionFailure = Unit {0}
ScoreIsNumber R.Continuing = Unit {0}
