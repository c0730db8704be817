-- `search::entry::search` meets its contract: each way out of it is one of the ways out of the statement.
-- Assumes nothing.
use Rattle.std.proofs.Common.{◌≡◌, ℕ, ◌≤◌, length, sym, ap, ◌∙◌, refl, set, arith}
use Rattle.std.proofs.lemmas.List.{length-take-le}
use Rattle.std.proofs.lemmas.Result.{err_from_is_err_and}
use Rattle.refusal.specs.Judge.{pass, checks_of}
use Rattle.craft_state.specs.Limits.{step_most}
use Rattle.craft_state.specs.Start.{start_of}
use Rattle.moves.specs.Modes.{plain}
use Rattle.moves.specs.Moves.{moves_of}
use Rattle.simulator.specs.declared.replay.Replay.{Replay}
use Rattle.tree.specs.declared.node.Node.{Node}
use Rattle.tree.specs.Tree.{planted_of}
use Rattle.search.specs.declared.entry.Progress.{Progress}
use Rattle.search.specs.Search.{no_progress, asked_tests}
use Rattle.search.specs.laws.Entry.{entry_refused, entry_some, entry_started, entry_stopped, entry_short, entry_inside, entry_known, entry_found}
use Rattle.search.proofs.entry.search.Goals.{In_default, After-put_node}
use Rattle.search.proofs.entry.search.Goals as goal

none_is : {p : Progress} → (p.iterations ≡ 0) × ((p.records ≡ 0) × (p.draws ≡ 0)) → p ≡ no_progress
none_is {p} e =
    ap (λ (n : ℕ). record { iterations = n; records = p.records; draws = p.draws }) e.0
    ∙ ap (λ (n : ℕ). record { iterations = 0; records = n; draws = p.draws }) e.1.0
    ∙ ap (λ (n : ℕ). record { iterations = 0; records = 0; draws = n }) e.1.1

-- the most steps of a context are a u8
byte : (c : In_default) → c.args.context.step_max ≤ step_most
byte c = omega arith

passed : (c : In_default) → pass ≡ checks_of (asked_tests c.args.nodes.now c.args.logs.now c.args.context c.args.options)
passed c = c.in_default.ensures

planted : (c : After-put_node) → c.put_node.new.nodes ≡ planted_of c.args.nodes.now (moves_of c.args.context (start_of c.args.context) plain)
planted c = c.put_node.ensures ∙ ap (λ (n : Node). set c.args.nodes.now 0 n) c.root_of.ensures

pub returns-in-Err : goal.returns-in-Err
returns-in-Err c =
    rw (none_is c.default.ensures) (entry_refused c.args.context c.args.options c.args.logs.now c.args.draws.now c.args.nodes.now c.args.out.now c.in-Err.ensures)

pub root_of-requires : goal.root_of-requires
root_of-requires c =
    let here = (goal.at.root_of-requires c).In_default in
    (entry_started c.args.context c.args.options c.args.logs.now c.args.draws.now c.args.nodes.now c.args.out.now (byte here) (passed here) refl).asked.context

pub put_node-requires : goal.put_node-requires
put_node-requires c =
    let here = (goal.at.put_node-requires c).In_default in
    entry_some c.args.context c.args.options c.args.logs.now c.args.draws.now c.args.nodes.now c.args.out.now (byte here) (passed here)

pub grow-requires : goal.grow-requires
grow-requires c =
    let here = (goal.at.grow-requires c).In_default in
    entry_started c.args.context c.args.options c.args.logs.now c.args.draws.now c.args.nodes.now c.args.out.now (byte here) (passed here) (planted (goal.at.grow-requires c).After-put_node)

pub returns-in_err-progress : goal.returns-in_err-progress
returns-in_err-progress c =
    let here = (goal.at.returns-in_err-progress c).In_default in
    let e = err_from_is_err_and c.from_residual.result c.from_residual.ensures.1 in
    rw (e.1, e.2)
    (entry_stopped c.args.context c.args.options c.args.logs.now c.args.draws.now c.args.nodes.now c.args.out.now (byte here) (passed here) (planted (goal.at.returns-in_err-progress c).After-put_node)
    c.grow.ensures c.in_err-progress.was)

pub slice_bounds-execute_actions-end : goal.slice_bounds-execute_actions-end
slice_bounds-execute_actions-end c =
    let here = (goal.at.slice_bounds-execute_actions-end c).In_default in
    entry_inside c.args.context c.args.options c.args.logs.now c.args.draws.now c.args.nodes.now c.args.out.now (byte here) (passed here) (planted (goal.at.slice_bounds-execute_actions-end c).After-put_node)
    c.grow.ensures c.in_ok-progress.was c.solution.ensures c.in-Ok.is

pub slice_bounds-execute_actions-end-in-Ok : goal.slice_bounds-execute_actions-end-in-Ok
slice_bounds-execute_actions-end-in-Ok c =
    let here = (goal.at.slice_bounds-execute_actions-end-in-Ok c).In_default in
    let inside : c.in-Ok.path ≤ length c.solution.new.out =
    entry_inside c.args.context c.args.options c.args.logs.now c.args.draws.now c.args.nodes.now c.args.out.now (byte here) (passed here) (planted (goal.at.slice_bounds-execute_actions-end-in-Ok c).After-put_node)
    c.grow.ensures c.in_ok-progress.was c.solution.ensures c.in-Ok.is in
    sym (length-take-le c.in-Ok.path c.solution.new.out inside)

pub execute_actions-replay-requires : goal.execute_actions-replay-requires
execute_actions-replay-requires c =
    let here = (goal.at.execute_actions-replay-requires c).In_default in
    entry_known c.args.context c.args.options c.args.logs.now c.args.draws.now c.args.nodes.now c.args.out.now (byte here) (passed here) (planted (goal.at.execute_actions-replay-requires c).After-put_node)
    c.grow.ensures c.in_ok-progress.was c.solution.ensures c.in-Ok.is

pub returns-in-Ok : goal.returns-in-Ok
returns-in-Ok c =
    let here = (goal.at.returns-in-Ok c).In_default in
    entry_found c.args.context c.args.options c.args.logs.now c.args.draws.now c.args.nodes.now c.args.out.now (byte here) (passed here) (planted (goal.at.returns-in-Ok c).After-put_node)
    c.grow.ensures c.in_ok-progress.was c.solution.ensures c.in-Ok.is (ap (λ (r : Replay). r.state) c.execute_actions-replay.ensures.0)

pub returns-in-Err-solution : goal.returns-in-Err-solution
returns-in-Err-solution c =
    let here = (goal.at.returns-in-Err-solution c).In_default in
    entry_short c.args.context c.args.options c.args.logs.now c.args.draws.now c.args.nodes.now c.args.out.now (byte here) (passed here) (planted (goal.at.returns-in-Err-solution c).After-put_node)
    c.grow.ensures c.in_ok-progress.was c.solution.ensures c.in-Err-solution.is
