-- `tree::descend::best_child` meets its contract: the best child among the records before the next.
-- Assumes nothing.
use Rattle.std.proofs.Common.{◌≡◌}
use Rattle.tree.specs.inner.Best.{best_to}
use Rattle.tree.proofs.descend.best_child.Given as goal

abbrev pub invariant-loop-k : goal.invariant-loop-k
invariant-loop-k l = l.best ≡ best_to l.k l.nodes l.parent
