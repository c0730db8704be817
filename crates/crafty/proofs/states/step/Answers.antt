-- `crafty::states::step` meets its contract.
-- Assumes nothing.
use Rattle.std.proofs.Common.{◌≡◌, Bool, [], ◌∷◌, ◌++◌, ◌<◌, refl, ap, sym, ◌∙◌}
use Rattle.std.specs.Prelude.{Result, Ok}
use Rattle.refusal.specs.declared.Refusal.{Refusal}
use Rattle.refusal.specs.Judge.{Says, answering}
use Rattle.refusal.specs.laws.Judge.{alone, onward, answered, fails, holds}
use Rattle.laws.specs.Bits.{has}
use Rattle.action.specs.Known.{actions, action_test}
use Rattle.action.specs.Table.{attributes_of}
use Rattle.action.specs.laws.Bounds.{rows_bounded}
use Rattle.action.specs.laws.Known.{action_shown}
use Rattle.craft_state.specs.declared.state.CraftState.{CraftState}
use Rattle.craft_state.specs.Limits.{given_tests}
use Rattle.craft_state.specs.Inside.{CraftIn}
use Rattle.craft_state.specs.laws.Inside.{craft_in}
use Rattle.step.specs.Step.{executed_of}
use Rattle.moves.specs.Moves.{moves_of}
use Rattle.moves.specs.inner.Legal.{legal_of}
use Rattle.moves.specs.laws.Moves.{has_moves, legal_playable}
use Rattle.crafty.specs.States.{legal_test}
use Rattle.crafty.specs.laws.Ways.{refused_by, passed_by}
use Rattle.crafty.proofs.states.step.Goals as goal
use Rattle.crafty.proofs.states.step.Goals.{After-is_legal, In_ok-check, In_ok-check_action}

-- context and state are inside the limits, and the action is known
inside : (c : In_ok-check) → CraftIn c.args.context c.args.state
inside c = craft_in _ _ c.in_ok-check.ensures.same refl

known : (c : In_ok-check_action) → c.args.n < actions
known c = action_shown c.in_ok-check_action.ensures refl

-- so the last test decides
began : (c : In_ok-check_action) {answer r : Result CraftState Refusal}
    → Says answering (legal_test c.args.context c.args.state c.args.mode c.args.n ∷ []) answer r
    → Says answering (given_tests c.args.context c.args.state ++ (action_test c.args.n ∷ legal_test c.args.context c.args.state c.args.mode c.args.n ∷ [])) answer r
began c h =
    passed_by (given_tests c.args.context c.args.state) _ (goal.at.In_ok-check_action c).In_ok-check.in_ok-check.ensures.same
    (onward c.in_ok-check_action.ensures refl h)

-- the test of the candidate by its row of the table is its place among the moves
tested : (c : After-is_legal) {b : Bool} → c.is_legal.result ≡ b → has (moves_of c.args.context c.args.state c.args.mode) c.args.n ≡ b
tested c e =
    has_moves attributes_of c.args.context c.args.state c.args.mode c.args.n (known (goal.at.After-is_legal c).In_ok-check_action)
    ∙ sym (ap (legal_of c.args.context c.args.state c.args.mode c.args.n) c.attributes_of-row.ensures)
    ∙ sym c.is_legal.ensures
    ∙ e

pub invariant_of-craft : goal.invariant_of-craft
invariant_of-craft c = record { inside = inside (goal.at.invariant_of-craft c).In_ok-check }

pub invariant_of-candidate : goal.invariant_of-candidate
invariant_of-candidate c =
    let n = known (goal.at.invariant_of-candidate c).In_ok-check_action in
    record { bounds = rw c.attributes_of-row.ensures (n, rows_bounded _ n) }

pub execute-requires : goal.execute-requires
execute-requires c =
    let n = known (goal.at.execute-requires c).In_ok-check_action in
    rw c.attributes_of-row.ensures
    (legal_playable attributes_of rows_bounded _ _ _ _ (inside (goal.at.execute-requires c).In_ok-check) n (tested (goal.at.execute-requires c).After-is_legal c.if-is_legal.true))

pub returns-then-is_legal : goal.returns-then-is_legal
returns-then-is_legal c =
    let to = c.execute.ensures ∙ ap (executed_of _ _ _) c.attributes_of-row.ensures in
    began (goal.at.returns-then-is_legal c).In_ok-check_action
    (holds (tested (goal.at.returns-then-is_legal c).After-is_legal c.if-is_legal.true) (answered refl (ap Ok to)))

pub returns : goal.returns
returns c = began (goal.at.returns c).In_ok-check_action (fails (tested (goal.at.returns c).After-is_legal c.if-is_legal.false))

pub returns-in_err-check : goal.returns-in_err-check
returns-in_err-check c =
    refused_by (given_tests c.args.context c.args.state) (action_test c.args.n ∷ legal_test c.args.context c.args.state c.args.mode c.args.n ∷ [])
    c.in_err-check.ensures.same c.from_residual.ensures

pub returns-in_err-check_action : goal.returns-in_err-check_action
returns-in_err-check_action c =
    let legal = legal_test c.args.context c.args.state c.args.mode c.args.n ∷ [] in
    passed_by (given_tests c.args.context c.args.state) (action_test c.args.n ∷ legal) (goal.at.returns-in_err-check_action c).In_ok-check.in_ok-check.ensures.same
    (refused_by (action_test c.args.n ∷ []) legal (alone (action_test c.args.n) c.in_err-check_action.ensures) c.from_residual-in_err-check_action.ensures)
