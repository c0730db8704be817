-- `search::select::best_linked` meets its contract: the best so far is on the way by the index from the last child.
-- Assumes nothing.
use Rattle.std.proofs.Common.{ℕ, sym, ap, subst, ◌∙◌, arith}
use Rattle.rates.specs.inner.Holds.{Asks}
use Rattle.tree.specs.declared.node.Node.{Node}
use Rattle.search.specs.inner.Newest.{better_node}
use Rattle.search.specs.laws.Indexed.{Way, way_asks, way_less, way_on, way_end}
use Rattle.search.proofs.select.best_linked.Goals as goal

pub better_node-requires : goal.better_node-requires
better_node-requires c =
    let l = c.loop-k in
    subst (λ (n : Node). Asks l.best n.visits n.score_sum n.max_score c.args.weights) (sym c.node_at.ensures) (way_asks c.requires.0 l.invariant (omega arith))

pub loop-k-smaller : goal.loop-k-smaller
loop-k-smaller c = rw c.older-k.ensures (way_less c.requires.0 c.loop-k.invariant (omega arith))

pub loop-k-preserved : goal.loop-k-preserved
loop-k-preserved c =
    let l = c.loop-k in
    rw c.older-k.ensures
    (way_on c.requires.0 l.invariant (omega arith) (c.better_node.ensures.0 ∙ ap (λ (n : Node). better_node l.best l.k n c.args.weights) c.node_at.ensures) c.better_node.ensures.1)

pub returns : goal.returns
returns c = way_end c.requires.0 (subst (λ (j : ℕ). Way c.args.nodes.now c.args.last c.args.weights c.args.late j c.loop-k.best) c.loop-k-test.false c.loop-k.invariant)
