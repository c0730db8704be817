-- E10: every finished score of a replay is below 1, and at least -1 where step_max is above 0; and the greatest score is reached.
-- Assumes nothing.
use Rattle.std.specs.Prelude.{◌≡◌, refl, Bool, true, false, cond, ℕ, ◌+◌, ◌≤◌, pos}
use mathlib.Core.List.{List, [], ◌∷◌}
use Rattle.std.specs.Float.Ieee.{of_int, div, lt}
use Rattle.laws.specs.Bits.{has}
use Rattle.refusal.specs.Judge.{pass, judged, checks_of}
use Rattle.action.specs.Bounds.{Rows, RowsIn}
use Rattle.craft_context.specs.declared.context.CraftContext.{CraftContext}
use Rattle.craft_context.specs.Limits.{ContextIn, context_tests}
use Rattle.craft_state.specs.declared.state.CraftState.{CraftState}
use Rattle.craft_state.specs.Limits.{step_most}
use Rattle.craft_state.specs.Start.{start_of}
use Rattle.step.specs.Step.{execute_by}
use Rattle.moves.specs.declared.mode.Mode.{Mode}
use Rattle.moves.specs.Modes.{plain}
use Rattle.moves.specs.Moves.{moves_by}
use Rattle.score.specs.Bounds.{greatest_score, ScoreIsBounded}
use Rattle.score.specs.Result.{judged_by, result_by, scores_in}
use Rattle.score.specs.Score.{weighed_of, score_of}
use Rattle.score.specs.laws.Bounds.{Timely, start_timely, legal_timely}
use Rattle.score.proofs.Bounds.{judged_bounded}
use Rattle.simulator.specs.declared.replay.Replay.{Replay}
use Rattle.simulator.specs.Replay.{goes_on, stop_by, slip_by, replay_from, replay_by, replay_of}

module _ (rows : Rows) (bounded : RowsIn rows) (c : CraftContext) (top : c.step_max ≤ step_most) (mode : Mode) where
  -- of the rest of any list, from a state that a craft came to
  rest_bounded : (s : CraftState) (k : ℕ) (list : List ℕ) → Timely c s → ScoreIsBounded c (replay_from rows c mode s k list).result
  unfolding replay_from stop_by slip_by
  rest_bounded s k [] t = judged_bounded c top s t (moves_by rows c s mode)
  rest_bounded s k (n ∷ rest) t =
      by (goes_on (result_by rows c s mode)) (has (moves_by rows c s mode) n)
      (λ legal. rest_bounded (execute_by rows c s n) (k + 1) rest (legal_timely c top s t rows bounded mode n legal))
    where
      later : Replay
      later = replay_from rows c mode (execute_by rows c s n) (k + 1) rest

      by : (on legal : Bool) → (legal ≡ true → ScoreIsBounded c later.result)
          → ScoreIsBounded c (cond on (cond legal later (slip_by rows c mode s k)) (stop_by rows c mode s k)).result
      by true true then = then refl
      by true false then = tt
      by false legal then = judged_bounded c top s t (moves_by rows c s mode)

  -- THE theorem: of every replay
  pub scores_bounded : ContextIn c → (list : List ℕ) → ScoreIsBounded c (replay_by rows c mode list).result
  unfolding replay_by
  scores_bounded inside list = rest_bounded (start_of c) 0 list (start_timely c inside)

-- ---- the greatest score is reached: a craft that is finished at its start, at the first of 255 steps, with all else full

abbrev finished : CraftContext
finished =
    record {
      player_job_level = 50;
      recipe_job_level = 50;
      base_progress_factor = 100;
      base_quality_factor = 100;
      step_max = step_most;
      progress_target = 0;
      starting_quality = 1000;
      quality_target = 1000;
      durability_max = pos 40;
      cp_max = 200;
      is_expert = false;
      action_pool = record { 0 = 2147483647 };
      player_is_specialist = false;
      use_manipulation = true;
      use_delineation = true;
    }

-- it is inside the limits, and its replay has that score
pub greatest_reached : (checks_of (context_tests finished) ≡ pass) × (scores_in (replay_of finished plain []).result ≡ greatest_score ∷ [])
unfolding judged replay_by replay_from stop_by start_of judged_by score_of weighed_of of_int div lt
greatest_reached = (refl, refl)
