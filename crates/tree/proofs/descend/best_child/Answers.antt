-- `tree::descend::best_child` meets its contract: the best child among the records before the next.
-- Assumes nothing.
use Rattle.std.proofs.Common.{◌≡◌, ℕ, sym, ap, ◌∙◌, arith}
use Rattle.tree.specs.inner.Best.{best_to}
use Rattle.tree.specs.laws.Tree.{tree_falls}
use Rattle.tree.specs.laws.Best.{best_start, best_next, best_none, best_some}
use Rattle.tree.proofs.descend.best_child.Goals.{After-loop-k}
use Rattle.tree.proofs.descend.best_child.Goals as goal

pub loop-k-init : goal.loop-k-init
loop-k-init c = best_start _ _ _ (tree_falls c.requires.0) c.requires.1

pub loop-k-preserved : goal.loop-k-preserved
loop-k-preserved c = rw (c.node_at.ensures, c.loop-k.invariant) at c.pick-best.ensures ∙ best_next c.loop-k.k _ _

walked : (c : After-loop-k) → best_to c.args.count c.args.nodes.now c.args.parent ≡ c.loop-k.best
walked c =
    let end : c.args.count ≡ c.loop-k.k = omega arith in
    ap (λ (k : ℕ). best_to k c.args.nodes.now c.args.parent) end ∙ sym c.loop-k.invariant

pub returns-in_err-best : goal.returns-in_err-best
returns-in_err-best c =
    rw c.from_residual.ensures (best_none _ _ c.requires.0 c.args.parent (walked (goal.at.returns-in_err-best c).After-loop-k ∙ c.in_err-best.was))

pub returns : goal.returns
returns c = best_some _ _ c.requires.0 c.args.parent (walked (goal.at.returns c).After-loop-k ∙ c.in_ok-best.was)
