-- `search::select::best_late` meets its contract: the best of the children from the next down is found from the best so far.
-- Assumes nothing.
use Rattle.std.proofs.Common.{◌≡◌, ℕ, ◌-◌, ◌<◌, Bool, true, cond, List, Option, Some, None, refl, sym, ap, ◌∙◌, subst, arith}
use Rattle.rates.specs.declared.Best.{Best}
use Rattle.rates.specs.declared.Weights.{Weights}
use Rattle.tree.specs.declared.node.Node.{Node}
use Rattle.tree.specs.Tree.{node_at, is_child}
use Rattle.search.specs.inner.Links.{top_of}
use Rattle.search.specs.inner.Newest.{better_node, best_down}
use Rattle.search.specs.laws.Links.{top_count}
use Rattle.search.specs.laws.Indexed.{late_turn}
use Rattle.search.proofs.select.best_late.Goals.{After-is_child}
use Rattle.search.proofs.select.best_late.Goals as goal

module _ (xs : List Node) (n p k : ℕ) (w : Weights) (best : Option Best) (some : 0 < k) (said : best_down w xs p k best ≡ best_down w xs p n None) where
  abbrev by_test : Bool → Option Best
  by_test t = cond t (Some (better_node best (k - 1) (node_at xs (k - 1)) w)) best

  turned : {t : Bool} → is_child (k - 1) (node_at xs (k - 1)) p ≡ t → best_down w xs p (k - 1) (by_test t) ≡ best_down w xs p n None
  turned is = ap (λ (t : Bool). best_down w xs p (k - 1) (by_test t)) (sym is) ∙ late_turn w xs p k best some ∙ said

  taken : is_child (k - 1) (node_at xs (k - 1)) p ≡ true → {b : Best} → b ≡ better_node best (k - 1) (node_at xs (k - 1)) w
      → best_down w xs p (k - 1) (Some b) ≡ best_down w xs p n None
  taken is e = ap (λ (b : Best). best_down w xs p (k - 1) (Some b)) e ∙ turned is

same : (c : After-is_child) → is_child (c.loop-k.k - 1) (node_at c.args.nodes.now (c.loop-k.k - 1)) c.args.parent ≡ c.is_child.result
same c = rw (c.is_child.ensures, c.node_at-n.ensures) refl

pub loop-k-init : goal.loop-k-init
loop-k-init c = record { down = top_count c.args.count; holds = tt; said = refl }

pub loop-k-preserved-then-is_child : goal.loop-k-preserved-then-is_child
loop-k-preserved-then-is_child c =
    let l = c.loop-k in
    record {
      down = omega (arith, c.top_of-k-start.ensures);
      holds = c.better_node.ensures.1;
      said = taken _ _ _ _ c.args.weights l.best (omega arith) l.invariant.said (same (goal.at.loop-k-preserved-then-is_child c).After-is_child ∙ c.if-is_child.true)
          (c.better_node.ensures.0 ∙ ap (λ (n : Node). better_node l.best (l.k - 1) n c.args.weights) c.node_at-n.ensures);
    }

pub loop-k-preserved : goal.loop-k-preserved
loop-k-preserved c =
    let l = c.loop-k in
    record {
      down = omega (arith, c.top_of-k-start.ensures);
      holds = l.invariant.holds;
      said = turned _ _ _ _ c.args.weights l.best (omega arith) l.invariant.said (same (goal.at.loop-k-preserved c).After-is_child ∙ c.if-is_child.false);
    }

pub returns : goal.returns
returns c =
    let l = c.loop-k in
    let end : l.k ≡ top_of c.args.count = omega (arith, l.invariant.down, c.top_of-k-start.ensures) in (
      subst (λ (k : ℕ). best_down c.args.weights c.args.nodes.now c.args.parent k l.best ≡ best_down c.args.weights c.args.nodes.now c.args.parent c.args.count None) end l.invariant.said,
      l.invariant.holds,
    )
