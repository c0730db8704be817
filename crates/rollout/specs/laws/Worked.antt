-- A rollout worked out from the definitions: bench craft P10, of whose 15 strict moves at the start draw 12 names Observe, after which none is left.
-- Assumes nothing.
use Rattle.std.specs.Prelude.{◌≡◌, refl, List, [], ◌∷◌, map, ℕ, Err}
use Rattle.laws.specs.Bits.{has, collect, count}
use Rattle.refusal.specs.declared.Refusal.TheVariants.{NoDraw, DrawTooHigh}
use Rattle.action.specs.Actions.{Observe}
use Rattle.action.specs.Table.{action_of}
use Rattle.action_set.specs.Sets.{downward}
use Rattle.craft_context.specs.declared.context.CraftContext.{CraftContext}
use Rattle.craft_state.specs.Start.{start_of}
use Rattle.step.specs.Parts.{ticked_of, effect_of}
use Rattle.step.specs.Step.{begun_of, progressed_of, improved_of, worn_of, refreshed_of, paid_of, combined_of, timed_of, affected_of, executed_of}
use Rattle.moves.specs.Rules.{own_rule, strict_rule}
use Rattle.moves.specs.Moves.{strictly_of, allowed_of, moves_by}
use Rattle.score.specs.declared.result.CraftResult.TheVariants.{InvalidActionFailure}
use Rattle.score.specs.Result.{judged_by}
use Rattle.simulator.specs.laws.Bench.{bench, cp_max, expert}
use Rattle.rollout.specs.Rollout.{strict_moves, Rolled, ends, rolled_from, sampled_of}

abbrev craft : CraftContext
craft = cp_max 25 (expert bench)

abbrev rolled : List ℕ → Rolled
rolled draws = rolled_from craft (start_of craft) (strict_moves craft (start_of craft)) 0 draws

-- a draw too many is not used; 15 is not below the size; and one is needed
pub worked : map rolled ((12 ∷ []) ∷ (12 ∷ 7 ∷ []) ∷ (15 ∷ []) ∷ [] ∷ [])
    ≡ ends InvalidActionFailure 1 ∷ ends InvalidActionFailure 1 ∷ Err DrawTooHigh ∷ Err NoDraw ∷ []
unfolding rolled_from start_of downward count has collect moves_by allowed_of strictly_of own_rule strict_rule judged_by action_of
    executed_of begun_of progressed_of improved_of worn_of refreshed_of paid_of combined_of timed_of affected_of ticked_of effect_of
worked = refl

pub worked_sample : sampled_of craft (start_of craft) (strict_moves craft (start_of craft)) 1 (12 ∷ 7 ∷ []) ≡ Observe ∷ []
unfolding sampled_of start_of downward count has collect moves_by allowed_of strictly_of own_rule strict_rule judged_by action_of
    executed_of begun_of progressed_of improved_of worn_of refreshed_of paid_of combined_of timed_of affected_of ticked_of effect_of
worked_sample = refl
