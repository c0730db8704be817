-- The program's example of document 01, from its context and list, worked out from the definitions.
-- Assumes nothing.
use Rattle.std.specs.Prelude.{◌≡◌, refl, false, List, [], ◌∷◌, ◌++◌, ℕ, pos}
use Prim.Native.String.{String}
use Rattle.std.specs.Float.Ieee.{to_bits, of_int, sub, div}
use Rattle.laws.specs.Bits.{has, collect}
use Rattle.laws.specs.Lists.{elem}
use Rattle.text.specs.Bytes.{bytes}
use Rattle.text.specs.Decimal.{decimal_of, signed_of, right_of}
use Rattle.text.specs.Hex.{hex_of}
use Rattle.action.specs.Actions.{Veneration, BasicSynthesis}
use Rattle.action.specs.Table.{action_of}
use Rattle.craft_context.specs.declared.context.CraftContext.{CraftContext}
use Rattle.craft_state.specs.Line.{part_of, display_of}
use Rattle.craft_state.specs.Start.{start_of}
use Rattle.step.specs.Parts.{ticked_of, effect_of}
use Rattle.step.specs.Step.{begun_of, progressed_of, improved_of, worn_of, refreshed_of, paid_of, combined_of, timed_of, affected_of, executed_of}
use Rattle.moves.specs.Rules.{own_rule, strict_rule}
use Rattle.moves.specs.Moves.{strictly_of, allowed_of, moves_by}
use Rattle.score.specs.Score.{score_of}
use Rattle.score.specs.Result.{judged_by}
use Rattle.simulator.specs.Replay.{stop_by, slip_by, replay_from, replay_by}
use Rattle.transcript.specs.Transcript.{row_of, rows_of, finished_of, result_text_of, last_line_of, reported_of, transcript_of}

-- eight steps, 200 of progress, and nothing else asked; `pool` are the player's actions
abbrev pub craft : ℕ → CraftContext
craft pool =
    record {
      player_job_level = 50;
      recipe_job_level = 50;
      base_progress_factor = 100;
      base_quality_factor = 100;
      step_max = 8;
      progress_target = 200;
      starting_quality = 0;
      quality_target = 0;
      durability_max = pos 40;
      cp_max = 100;
      is_expert = false;
      action_pool = record { 0 = pool };
      player_is_specialist = false;
      use_manipulation = false;
      use_delineation = false;
    }

abbrev line : String → List ℕ
line text = bytes text ++ bytes "\n"

pub example : transcript_of (craft 33) (Veneration ∷ BasicSynthesis ∷ BasicSynthesis ∷ [])
    ≡ line "    0/  200 progress |     0/    0 quality | 40/40 durability | 100/100 cp"
    ++ line "    0/  200 progress |     0/    0 quality | 40/40 durability |  82/100 cp"
    ++ line "  150/  200 progress |     0/    0 quality | 30/40 durability |  82/100 cp"
    ++ line "  300/  200 progress |     0/    0 quality | 20/40 durability |  82/100 cp"
    ++ line "finished 3F000000 executed 3 of 3"
unfolding transcript_of reported_of row_of rows_of last_line_of result_text_of finished_of
    display_of part_of right_of decimal_of signed_of hex_of
    replay_by replay_from stop_by slip_by start_of moves_by allowed_of strictly_of own_rule strict_rule has collect elem
    executed_of begun_of progressed_of improved_of worn_of refreshed_of paid_of combined_of timed_of affected_of ticked_of effect_of action_of
    judged_by score_of to_bits of_int sub div
example = refl
