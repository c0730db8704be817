-- `rates::better` meets its contract.
-- Assumes nothing.
use Rattle.laws.specs.laws.Tests.{and_both}
use Rattle.rates.specs.laws.Better.{first, passed_over, taken, left}
use Rattle.rates.proofs.better.Goals as goal

pub returns-in_default : goal.returns-in_default
returns-in_default c =
    rw c.in_default.is (first c.args.k _ _ _ _ _ c.exploitation-gained.ensures _ c.rated.ensures (rw c.in_default.is at c.requires))

pub returns-then-gained-best : goal.returns-then-gained-best
returns-then-gained-best c =
    rw c.in-Some.is (passed_over c.args.k _ _ _ _ _ c.exploitation-gained.ensures _ (rw c.in-Some.is at c.requires) (and_both c.if-best-visits.true c.if-gained-best.true))

pub returns-then-best-child : goal.returns-then-best-child
returns-then-best-child c =
    rw c.in-Some.is
    (taken c.args.k _ _ _ _ _ c.exploitation-gained.ensures _ (rw c.in-Some.is at c.requires) _ c.rated-child.ensures c.if-best-child.true)

pub returns-else-best-child : goal.returns-else-best-child
returns-else-best-child c =
    rw c.in-Some.is
    (left c.args.k _ _ _ _ _ c.exploitation-gained.ensures _ (rw c.in-Some.is at c.requires) _ c.rated-child.ensures c.if-best-child.false)
