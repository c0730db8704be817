-- `crafty::states::score` meets its contract.
-- Assumes nothing.
use Rattle.std.specs.Prelude.{Ok, T, not, Float}
use Rattle.std.specs.Float.Ieee.{is_nan}
use Rattle.std.proofs.Common.{[], refl, ap}
use Rattle.std.proofs.lemmas.Result.{IfOk-from_err}
use Rattle.refusal.specs.laws.Judge.{answered}
use Rattle.craft_state.specs.laws.Inside.{craft_in}
use Rattle.craft_state.specs.Limits.{given_tests}
use Rattle.crafty.specs.laws.Ways.{refused_by, passed_by}
use Rattle.crafty.proofs.states.score.Goals as goal

pub returns-in_err-check : goal.returns-in_err-check
returns-in_err-check c = (
  refused_by (given_tests c.args.context c.args.state) [] c.in_err-check.ensures.same c.from_residual.ensures,
  IfOk-from_err c.from_residual.result (λ (s : Float). T (not (is_nan s))) c.from_residual.ensures.0,
)

pub invariant_of-craft : goal.invariant_of-craft
invariant_of-craft c = record { inside = craft_in _ _ c.in_ok-check.ensures.same refl }

pub returns : goal.returns
returns c = (passed_by (given_tests c.args.context c.args.state) [] c.in_ok-check.ensures.same (answered refl (ap Ok c.score.ensures.0)), c.score.ensures.1)
