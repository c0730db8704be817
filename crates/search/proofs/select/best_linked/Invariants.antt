-- `search::select::best_linked` meets its contract: the best so far is on the way by the index from the last child.
-- Assumes nothing.
use Rattle.search.specs.laws.Indexed.{Way}
use Rattle.search.proofs.select.best_linked.Given as goal

abbrev pub invariant-loop-k : goal.invariant-loop-k
invariant-loop-k l = Way l.nodes l.last l.weights l.fn.late l.k l.best

abbrev pub decreases-loop-k : goal.decreases-loop-k
decreases-loop-k l = l.k
