-- `tree::listing::put_children` meets its contract: the children among the records before the next are stored.
-- Assumes nothing.
use Rattle.text.specs.Over.{Put}
use Rattle.tree.specs.Tree.{children_of}
use Rattle.tree.proofs.listing.put_children.Given as goal

abbrev pub invariant-loop-k : goal.invariant-loop-k
invariant-loop-k l = Put l.initial.out 0 (children_of l.k l.nodes l.parent) l.at l.out
