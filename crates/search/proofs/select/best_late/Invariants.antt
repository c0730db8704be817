-- `search::select::best_late` meets its contract: the best of the children from the next down is found from the best so far.
-- Assumes nothing.
use Rattle.std.proofs.Common.{◌≡◌, ◌≤◌, None}
use Rattle.rates.specs.inner.Holds.{Holds}
use Rattle.search.specs.inner.Links.{top_of}
use Rattle.search.specs.inner.Newest.{best_down}
use Rattle.search.proofs.select.best_late.Given as goal

abbrev pub invariant-loop-k : goal.invariant-loop-k
invariant-loop-k l = record {
  down : top_of l.count ≤ l.k;
  holds : Holds l.weights l.best;
  said : best_down l.weights l.nodes l.parent l.k l.best ≡ best_down l.weights l.nodes l.parent l.count None;
}
