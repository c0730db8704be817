-- `search::grow::grow` meets its contract: what was done, the records and the index are those of as many iterations.
-- Assumes nothing.
use Rattle.search.specs.laws.Going.{Going}
use Rattle.search.proofs.grow.grow.Given as goal

abbrev pub invariant-loop-i : goal.invariant-loop-i
invariant-loop-i l = Going l.fn.context l.fn.options l.logs l.draws l.initial.nodes l.done l.i l.nodes l.links
