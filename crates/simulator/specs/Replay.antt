-- Document 01, 'Results and scores', "Replay checks before each action; an action outside the moves ends it as invalid": by recursion over the list.
-- Assumes nothing.
use Rattle.std.specs.Prelude.{Bool, true, false, cond, List, [], ◌∷◌, ℕ, ◌+◌}
use Rattle.laws.specs.Bits.{has}
use Rattle.action.specs.Bounds.{Rows}
use Rattle.action.specs.Table.{attributes_of}
use Rattle.craft_context.specs.declared.context.CraftContext.{CraftContext}
use Rattle.craft_state.specs.declared.state.CraftState.{CraftState}
use Rattle.craft_state.specs.Start.{start_of}
use Rattle.step.specs.Step.{execute_by}
use Rattle.moves.specs.declared.mode.Mode.{Mode}
use Rattle.moves.specs.Moves.{moves_by}
use Rattle.score.specs.declared.result.CraftResult.{CraftResult}
use Rattle.score.specs.declared.result.CraftResult.TheVariants as R
use Rattle.score.specs.Result.{result_by}
use Rattle.simulator.specs.declared.replay.Replay.{Replay}

abbrev pub goes_on : CraftResult → Bool
goes_on (R.Finished score) = false
goes_on R.DurabilityFailure = false
goes_on R.MaxStepsFailure = false
goes_on R.InvalidActionFailure = false
goes_on R.Continuing = true

-- ---- what is reported where it stops, by any table: the state's own result, or invalid at an action outside its moves

abbrev pub stopped_at : Rows → CraftContext → Mode → CraftState → ℕ → CraftResult → Replay
stopped_at rows c mode s executed result = record { state = s; moves = record { 0 = moves_by rows c s mode }; result = result; executed = executed }

unfoldable pub stop_by : Rows → CraftContext → Mode → CraftState → ℕ → Replay
stop_by rows c mode s executed = stopped_at rows c mode s executed (result_by rows c s mode)

unfoldable pub slip_by : Rows → CraftContext → Mode → CraftState → ℕ → Replay
slip_by rows c mode s executed = stopped_at rows c mode s executed R.InvalidActionFailure

-- ---- the rest of a list in a state, after so many actions

unfoldable pub replay_from : Rows → CraftContext → Mode → CraftState → ℕ → List ℕ → Replay
replay_from rows c mode s executed [] = stop_by rows c mode s executed
replay_from rows c mode s executed (n ∷ rest) =
    cond (goes_on (result_by rows c s mode))
    (cond (has (moves_by rows c s mode) n) (replay_from rows c mode (execute_by rows c s n) (executed + 1) rest) (slip_by rows c mode s executed))
    (stop_by rows c mode s executed)

unfoldable pub replay_by : Rows → CraftContext → Mode → List ℕ → Replay
replay_by rows c mode list = replay_from rows c mode (start_of c) 0 list

-- by the table of action.rs
abbrev pub replay_of : CraftContext → Mode → List ℕ → Replay
replay_of = replay_by attributes_of
