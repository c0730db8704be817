-- `crafty_c::replays::report` meets its contract.
-- Assumes nothing.
use Rattle.std.proofs.Common.{rules, List, ℕ, ◌≤◌, length, refl, ap, ◌∙◌, arith, Fits, w8}
use Rattle.refusal.specs.laws.Judge.{onward_room, answered_room}
use Rattle.text.specs.Over.{over}
use Rattle.action.specs.Known.{known_front}
use Rattle.action.specs.laws.Known.{list_shown}
use Rattle.craft_state.specs.Limits.{step_most}
use Rattle.action.specs.Table.{attributes_of}
use Rattle.action.specs.laws.Bounds.{rows_bounded}
use Rattle.simulator.specs.laws.Promise.{all_known_lem, promised}
use Rattle.crafty_c.specs.Numbers.{replay_numbers}
use Rattle.crafty_c.proofs.replays.report.Goals as goal
use Rattle.crafty_c.proofs.replays.report.Goals.{After-execute_actions, In_ok-check_room, Start}

-- step_max is a byte
byte : (c : Start) → Fits w8 c.args.context.step_max
byte c = search rules

-- the list's actions are known
known : (c : In_ok-check_room) → length c.args.list.now ≤ known_front c.args.list.now
known c = list_shown _ c.in_ok-check_list.ensures refl

-- no replay executes more than a byte holds
few : (c : After-execute_actions) → c.execute_actions.result.executed ≤ step_most
few c =
    rw c.execute_actions.ensures.0 (promised attributes_of rows_bounded c.args.context c.args.mode c.requires (omega (arith, byte (goal.at.After-execute_actions c).Start)) c.args.list.now (all_known_lem c.args.list.now (known (goal.at.After-execute_actions c).In_ok-check_room))).few

pub execute_actions-requires : goal.execute_actions-requires
execute_actions-requires c = (c.requires, known c)

pub numbers-told-requires : goal.numbers-told-requires
numbers-told-requires c = (c.execute_actions.ensures.1, few c)

pub returns : goal.returns
returns c =
    let same = c.put_numbers.ensures ∙ ap (λ (t : List ℕ). over c.args.out.now 0 t) (c.numbers-told.ensures ∙ ap replay_numbers c.execute_actions.ensures.0) in
    onward_room c.in_ok-check_list.ensures refl (onward_room c.in_ok-check_room.ensures refl (answered_room refl refl same))
