-- `crafty::states::result` meets its contract.
-- Assumes nothing.
use Rattle.std.specs.Prelude.{Ok}
use Rattle.std.proofs.Common.{[], refl, ap}
use Rattle.std.proofs.lemmas.Result.{IfOk-from_err}
use Rattle.refusal.specs.laws.Judge.{answered}
use Rattle.score.specs.Result.{ScoreIsNumber}
use Rattle.craft_state.specs.laws.Inside.{craft_in}
use Rattle.crafty.specs.laws.Verdicts.{result_verdict}
use Rattle.craft_state.specs.Limits.{given_tests}
use Rattle.crafty.specs.laws.Ways.{refused_by, passed_by}
use Rattle.crafty.proofs.states.result.Goals as goal

pub returns-in_err-check : goal.returns-in_err-check
returns-in_err-check c =
    let s = refused_by (given_tests c.args.context c.args.state) [] c.in_err-check.ensures.same c.from_residual.ensures in
    record { says = s; verdict = result_verdict s; score = IfOk-from_err c.from_residual.result ScoreIsNumber c.from_residual.ensures.0 }

pub invariant_of-craft : goal.invariant_of-craft
invariant_of-craft c = record { inside = craft_in _ _ c.in_ok-check.ensures.same refl }

pub returns : goal.returns
returns c =
    let s = passed_by (given_tests c.args.context c.args.state) [] c.in_ok-check.ensures.same (answered refl (ap Ok c.check_result.ensures.0)) in
    record { says = s; verdict = result_verdict s; score = c.check_result.ensures.1 }
