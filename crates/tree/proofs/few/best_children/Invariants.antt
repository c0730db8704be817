-- `tree::few::best_children` meets its contract: the table has the best children among the records before the next.
-- Assumes nothing.
use Rattle.tree.specs.laws.Few.{BestsTo}
use Rattle.tree.proofs.few.best_children.Given as goal

abbrev pub invariant-loop-k : goal.invariant-loop-k
invariant-loop-k l = BestsTo l.k l.nodes l.best
