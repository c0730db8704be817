-- `tree::back::backpropagate` meets its contract: the path is written where every test has passed.
-- Assumes nothing.
use Rattle.std.proofs.Common.{refl, sym, ◌∙◌}
use Rattle.std.proofs.lemmas.Result.{err_from_is_err_and}
use Rattle.tree.specs.Refusals.{back_tests}
use Rattle.tree.specs.laws.Grow.{keeps}
use Rattle.tree.specs.laws.Propagate.{back_reaches}
use Rattle.tree.proofs.back.backpropagate.Goals as goal

pub returns-in_err-check_back : goal.returns-in_err-check_back
returns-in_err-check_back c =
    let a = c.args in
    let e = err_from_is_err_and c.from_residual.result c.from_residual.ensures.1 in
    rw (e.1, e.2) (keeps (back_tests a.nodes.now a.count a.start a.target a.score) (sym c.in_err-check_back.was ∙ c.check_back.ensures) refl)

pub touch_path-requires : goal.touch_path-requires
touch_path-requires c = back_reaches _ _ _ _ c.args.score c.check_back.ensures c.in_ok-check_back.was
