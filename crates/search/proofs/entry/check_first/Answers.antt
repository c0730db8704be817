-- `search::entry::check_first` meets its contract.
-- Assumes nothing.
use Rattle.std.proofs.Common.{[], ◌∷◌}
use Rattle.std.proofs.lemmas.Result.{err_from_is_err_and}
use Rattle.refusal.specs.Judge.{room_test}
use Rattle.refusal.specs.laws.Judge.{checks_stop_by, checks_on_by, checks_stop, checks_on, alone}
use Rattle.craft_context.specs.Limits.{context_tests}
use Rattle.tree.specs.Refusals.{new_count}
use Rattle.search.specs.Options.{search_test}
use Rattle.search.proofs.entry.check_first.Goals as goal

pub returns-in_err-check : goal.returns-in_err-check
returns-in_err-check c =
    let a = c.args in
    let e = err_from_is_err_and c.from_residual.result c.from_residual.ensures.1 in
    rw (e.1, e.2)
    (checks_stop_by (context_tests a.context) (search_test a.logs.now a.options a.context.step_max ∷ room_test a.records new_count ∷ []) c.check.ensures.same c.in_err-check.was)

pub returns-in_err-check_search : goal.returns-in_err-check_search
returns-in_err-check_search c =
    let a = c.args in
    let e = err_from_is_err_and c.from_residual-in_err-check_search.result c.from_residual-in_err-check_search.ensures.1 in
    rw (e.1, e.2)
    (checks_on_by (context_tests a.context) (search_test a.logs.now a.options a.context.step_max ∷ room_test a.records new_count ∷ []) c.check.ensures.same c.in_ok-check.was
    (checks_stop (search_test a.logs.now a.options a.context.step_max) (room_test a.records new_count ∷ []) c.check_search.ensures c.in_err-check_search.was))

pub returns : goal.returns
returns c =
    let a = c.args in
    checks_on_by (context_tests a.context) (search_test a.logs.now a.options a.context.step_max ∷ room_test a.records new_count ∷ []) c.check.ensures.same c.in_ok-check.was
    (checks_on (search_test a.logs.now a.options a.context.step_max) (room_test a.records new_count ∷ []) c.check_search.ensures c.in_ok-check_search.was
    (alone (room_test a.records new_count) c.check_room.ensures))
