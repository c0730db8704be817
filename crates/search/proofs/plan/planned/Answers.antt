-- `search::plan::planned` meets its contract: a rollout ends with no fewer draws.
-- Assumes nothing.
use Rattle.std.proofs.Common.{drop, sym, ◌∙◌}
use Rattle.rollout.specs.laws.RolledSampled.{rolled}
use Rattle.search.proofs.plan.planned.Goals as goal

pub overflow_sub-end : goal.overflow_sub-end
overflow_sub-end c =
    let a = c.args in
    (rolled a.context a.state a.unused.bits a.at (drop a.at a.draws.now) c.in_ok-res.res c.in_ok-res.end (sym c.roll_out.ensures.0 ∙ c.in_ok-res.was)).least
