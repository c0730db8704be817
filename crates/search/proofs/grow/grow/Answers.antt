-- `search::grow::grow` meets its contract: what was done, the records and the index are those of as many iterations.
-- Assumes nothing.
use Rattle.std.proofs.Common.{refl}
use Rattle.search.specs.laws.Going.{going_first, going_ready, going_on, going_stops, going_ends}
use Rattle.search.proofs.grow.grow.Goals as goal

pub loop-i-init : goal.loop-i-init
loop-i-init c = going_first _ _ _ _ _ c.requires _ refl refl

pub iterate-requires : goal.iterate-requires
iterate-requires c = (going_ready _ _ _ _ _ c.loop-i.invariant c.loop-i-test.true, c.loop-i.invariant.place)

pub loop-i-preserved : goal.loop-i-preserved
loop-i-preserved c = going_on _ _ _ _ _ c.loop-i.invariant c.loop-i-test.true c.iterate.ensures c.in-Ok.is

pub returns-in-Err : goal.returns-in-Err
returns-in-Err c = going_stops _ _ _ _ _ c.loop-i.invariant c.loop-i-test.true c.iterate.ensures c.in-Err.is

pub returns : goal.returns
returns c = going_ends _ _ _ _ _ c.loop-i.invariant c.loop-i-test.false
