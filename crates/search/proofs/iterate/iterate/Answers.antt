-- `search::iterate::iterate` meets its contract: a plan that is refused is an iteration that is, and one that passes has what carrying it out asks for.
-- Assumes nothing.
use Rattle.std.proofs.Common.{◌≡◌, ◌<◌, ◌≤◌, length, refl, arith}
use Rattle.std.proofs.lemmas.Result.{err_from_is_err_and}
use Rattle.search.specs.laws.Planned.{plan, chosen_inside, chosen_movable, chosen_plan, plan_refused, plan_storing, plan_turns}
use Rattle.search.proofs.iterate.iterate.Goals as goal
use Rattle.search.proofs.iterate.iterate.Goals.{After-select-chosen, After-planned}

inside : (c : After-select-chosen) → c.select-chosen.result.at < c.args.count
inside c = chosen_inside c.args.context c.args.options c.args.logs.now c.args.draws.now c.args.nodes.now c.args.count c.args.at c.requires.0 c.requires.1 c.select-chosen.ensures

within : (c : After-select-chosen) → c.args.count ≤ length c.args.nodes.now
within c = c.requires.0.growing.tree.room

plan_is : (c : After-planned)
    → c.planned.result ≡ plan c.args.context c.args.options c.args.logs.now c.args.draws.now c.args.nodes.now c.args.count c.args.at
plan_is c =
    chosen_plan c.args.context c.args.options c.args.logs.now c.args.draws.now c.args.nodes.now c.args.count c.args.at c.requires.0 c.requires.1 c.select-chosen.ensures
    c.node_at-n.ensures c.node_at-root.ensures refl c.planned.ensures

pub node_at-n-requires : goal.node_at-n-requires
node_at-n-requires c =
    let here = (goal.at.node_at-n-requires c).After-select-chosen in
    omega (arith, inside here, within here)

pub invariant_of-unused : goal.invariant_of-unused
invariant_of-unused c =
    let movable = chosen_movable c.args.context c.args.options c.args.logs.now c.args.draws.now c.args.nodes.now c.args.count c.args.at c.requires.0 c.requires.1 c.select-chosen.ensures c.node_at-n.ensures in
    record { inside = movable.known }

pub planned-requires : goal.planned-requires
planned-requires c =
    let here = (goal.at.planned-requires c).After-select-chosen in (
      chosen_movable c.args.context c.args.options c.args.logs.now c.args.draws.now c.args.nodes.now c.args.count c.args.at c.requires.0 c.requires.1 c.select-chosen.ensures c.node_at-n.ensures,
      c.requires.1,
      within here,
      omega arith,
    )

pub returns-in_err-plan : goal.returns-in_err-plan
returns-in_err-plan c =
    let e = err_from_is_err_and c.from_residual.result c.from_residual.ensures.1 in
    rw (e.1, e.2)
    (plan_refused c.args.context c.args.options c.args.logs.now c.args.draws.now c.args.nodes.now c.args.count c.args.at c.requires.0 c.requires.1 c.select-chosen.ensures
    (plan_is (goal.at.returns-in_err-plan c).After-planned) c.in_err-plan.was)

-- a plan that passed is one to carry out:
-- its path may be stored
pub carry_out-requires : goal.carry_out-requires
carry_out-requires c =
    plan_storing c.args.context c.args.options c.args.logs.now c.args.draws.now c.args.nodes.now c.args.count c.args.at c.requires.0 c.requires.1 c.select-chosen.ensures
    (plan_is (goal.at.carry_out-requires c).After-planned) c.in_ok-plan.was

-- and what was carried out and counted is the definition's iteration
pub returns : goal.returns
returns c =
    plan_turns c.args.context c.args.options c.args.logs.now c.args.draws.now c.args.nodes.now c.args.count c.args.at c.requires.0 c.requires.1 c.select-chosen.ensures
    (plan_is (goal.at.returns c).After-planned) c.in_ok-plan.was c.carry_out.ensures
