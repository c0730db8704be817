-- `search::select::select` meets its contract: the record and the state there are on the way down.
-- Assumes nothing.
use Rattle.std.proofs.Common.{◌-◌}
use Rattle.search.specs.laws.Selecting.{At}
use Rattle.search.proofs.select.select.Given as goal

abbrev pub invariant-loop-child : goal.invariant-loop-child
invariant-loop-child l = At l.context l.options l.logs l.nodes l.count l.at l.state

abbrev pub decreases-loop-child : goal.decreases-loop-child
decreases-loop-child l = l.count - l.at
