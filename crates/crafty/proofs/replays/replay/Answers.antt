-- `crafty::replays::replay` meets its contract.
-- Assumes nothing.
use Rattle.std.specs.Prelude.{Ok}
use Rattle.std.proofs.Common.{rules, [], ◌∷◌, refl, ap, arith, Fits, w8}
use Rattle.std.proofs.lemmas.Result.{IfOk-from_err}
use Rattle.refusal.specs.laws.Judge.{alone, onward, answered}
use Rattle.action.specs.Known.{list_test}
use Rattle.action.specs.laws.Known.{list_shown}
use Rattle.action.specs.Table.{attributes_of}
use Rattle.action.specs.laws.Bounds.{rows_bounded}
use Rattle.craft_context.specs.Limits.{ContextIn, context_tests}
use Rattle.craft_context.specs.laws.Limits.{context_in_lem}
use Rattle.score.specs.Result.{ScoreIsNumber}
use Rattle.simulator.specs.declared.replay.Replay.{Replay}
use Rattle.simulator.specs.Promise.{Promise}
use Rattle.crafty.specs.laws.Ways.{refused_by, passed_by}
use Rattle.simulator.specs.laws.Promise.{all_known_lem, promised}
use Rattle.crafty.specs.laws.Verdicts.{replay_verdict}
use Rattle.crafty.proofs.replays.replay.Goals as goal
use Rattle.crafty.proofs.replays.replay.Goals.{After-execute_actions, In_ok-check, Start}

inside : (c : In_ok-check) → ContextIn c.args.context
inside c = context_in_lem _ c.in_ok-check.ensures.same refl

-- step_max is a byte
byte : (c : Start) → Fits w8 c.args.context.step_max
byte c = search rules

-- what is reported keeps the promise, as the definition does
kept : (c : After-execute_actions) → Promise c.args.context c.args.mode c.args.list.now c.execute_actions.result
kept c =
    rw c.execute_actions.ensures.0
    (promised attributes_of rows_bounded c.args.context c.args.mode (inside (goal.at.After-execute_actions c).In_ok-check)
    (omega (arith, byte (goal.at.After-execute_actions c).Start)) c.args.list.now (all_known_lem c.args.list.now (list_shown c.args.list.now c.in_ok-check_list.ensures refl)))

pub returns-in_err-check : goal.returns-in_err-check
returns-in_err-check c =
    let s = refused_by (context_tests c.args.context) (list_test c.args.list.now ∷ []) c.in_err-check.ensures.same c.from_residual.ensures in
    let none = c.from_residual.ensures.0 in
    record {
      says = s;
      verdict = replay_verdict s;
      promise = IfOk-from_err c.from_residual.result (Promise c.args.context c.args.mode c.args.list.now) none;
      score = IfOk-from_err c.from_residual.result (λ (replay : Replay). ScoreIsNumber replay.result) none;
    }

pub returns-in_err-check_list : goal.returns-in_err-check_list
returns-in_err-check_list c =
    let list = refused_by (list_test c.args.list.now ∷ []) [] (alone (list_test c.args.list.now) c.in_err-check_list.ensures) c.from_residual-in_err-check_list.ensures in
    let s = passed_by (context_tests c.args.context) (list_test c.args.list.now ∷ []) c.in_ok-check.ensures.same list in
    let none = c.from_residual-in_err-check_list.ensures.0 in
    record {
      says = s;
      verdict = replay_verdict s;
      promise = IfOk-from_err c.from_residual-in_err-check_list.result (Promise c.args.context c.args.mode c.args.list.now) none;
      score = IfOk-from_err c.from_residual-in_err-check_list.result (λ (replay : Replay). ScoreIsNumber replay.result) none;
    }

pub execute_actions-requires : goal.execute_actions-requires
execute_actions-requires c = (inside (goal.at.execute_actions-requires c).In_ok-check, list_shown _ c.in_ok-check_list.ensures refl)

pub returns : goal.returns
returns c =
    let list = onward c.in_ok-check_list.ensures refl (answered refl (ap Ok c.execute_actions.ensures.0)) in
    let s = passed_by (context_tests c.args.context) (list_test c.args.list.now ∷ []) c.in_ok-check.ensures.same list in
    record { says = s; verdict = replay_verdict s; promise = kept c; score = c.execute_actions.ensures.1 }
