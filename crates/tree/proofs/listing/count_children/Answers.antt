-- `tree::listing::count_children` meets its contract: the children among the records before the next are counted.
-- Assumes nothing.
use Rattle.std.proofs.Common.{◌≡◌, ℕ, ◌+◌, true, [], ◌∷◌, List, length, refl, sym, ap, ◌∙◌, arith, length-append}
use Rattle.tree.specs.declared.node.Node.{Node}
use Rattle.tree.specs.Tree.{node_at, is_child, children_of}
use Rattle.tree.specs.laws.Children.{children_start, children_one, children_none, children_length}
use Rattle.tree.proofs.listing.count_children.Goals.{then-is_child, else-is_child, After-is_child}
use Rattle.tree.proofs.listing.count_children.Goals as goal

longer : (xs : List Node) (p k len : ℕ) → len ≡ length (children_of k xs p) → is_child k (node_at xs k) p ≡ true → len + 1 ≡ length (children_of (k + 1) xs p)
longer xs p k len e c = rw (e, children_one xs p k c) (sym (length-append (children_of k xs p) (k ∷ [])))

same : (c : After-is_child) → is_child c.loop-k.k (node_at c.args.nodes.now c.loop-k.k) c.args.parent ≡ c.is_child.result
same c = rw (c.is_child.ensures, c.node_at.ensures) refl

pub loop-k-init : goal.loop-k-init
loop-k-init c = sym (ap length (children_start _ _))

pub overflow_add-len : goal.overflow_add-len
overflow_add-len c = omega (arith, c.loop-k.invariant, children_length c.args.nodes.now c.args.parent c.loop-k.k)

pub loop-k-preserved : goal.loop-k-preserved
loop-k-preserved c =
    elim c.if-is_child.branch [
      | then-is_child w ↦ w.len-is ∙ longer _ _ _ _ c.loop-k.invariant (same (goal.at.loop-k-preserved c).After-is_child ∙ w.if-is_child.true)
      | else-is_child w ↦ w.len-is ∙ c.loop-k.invariant ∙ sym (ap length (children_none _ _ _ (same (goal.at.loop-k-preserved c).After-is_child ∙ w.if-is_child.false)))
    ]
