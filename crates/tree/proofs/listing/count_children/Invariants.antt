-- `tree::listing::count_children` meets its contract: the children among the records before the next are counted.
-- Assumes nothing.
use Rattle.std.proofs.Common.{◌≡◌, length}
use Rattle.tree.specs.Tree.{children_of}
use Rattle.tree.proofs.listing.count_children.Given as goal

abbrev pub invariant-loop-k : goal.invariant-loop-k
invariant-loop-k l = l.len ≡ length (children_of l.k l.nodes l.parent)
