-- `crafty::states::moves` meets its contract.
-- Assumes nothing.
use Rattle.std.specs.Prelude.{Ok}
use Rattle.std.proofs.Common.{ℕ, [], refl, ap}
use Rattle.refusal.specs.laws.Judge.{answered}
use Rattle.craft_state.specs.laws.Inside.{craft_in}
use Rattle.craft_state.specs.Limits.{given_tests}
use Rattle.crafty.specs.laws.Ways.{refused_by, passed_by}
use Rattle.crafty.proofs.states.moves.Goals as goal

pub returns-in_err-check : goal.returns-in_err-check
returns-in_err-check c = refused_by (given_tests c.args.context c.args.state) [] c.in_err-check.ensures.same c.from_residual.ensures

pub invariant_of-craft : goal.invariant_of-craft
invariant_of-craft c = record { inside = craft_in _ _ c.in_ok-check.ensures.same refl }

pub returns : goal.returns
returns c = passed_by (given_tests c.args.context c.args.state) [] c.in_ok-check.ensures.same (answered refl (ap (λ (set : ℕ). Ok (record { 0 = set })) c.legal_moves.ensures))
