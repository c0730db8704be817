-- `craft_state::state::CraftState::check` meets its contract: the context's refusal is its own.
-- Assumes nothing.
use mathlib.Core.List.{[], ◌∷◌}
use mathlib.Core.Path.{◌≡◌, refl}
use Rattle.std.specs.Prelude.{Err}
use borrow.Author.Rules.{rules}
use Rattle.refusal.specs.laws.Judge.{stopped_by_lem}
use Rattle.craft_context.specs.Limits.{context_tests}
use Rattle.craft_state.specs.Limits.{state_test}
use Rattle.craft_state.proofs.state.CraftState.check.Goals as goal

pub returns-in_err-check : goal.returns-in_err-check
returns-in_err-check c =
    let e : c.from_residual.result ≡ Err c.in_err-check.field-0.0 = search rules in
    rw e (stopped_by_lem (context_tests c.args.context) (state_test c.args.context c.args.self ∷ []) c.in_err-check.ensures.same refl)
