-- `search::select::next_child` meets its contract: the best child past the index, and then by it, is the best of all.
-- Assumes nothing.
use Rattle.std.proofs.Common.{◌≡◌, ℕ, ◌+◌, true, None, ◌==◌, sym, ap, subst, ◌∙◌}
use Rattle.std.proofs.lemmas.Bool.{not-false}
use Rattle.rates.specs.declared.Weights.{Weights}
use Rattle.tree.specs.declared.node.Node.{Node}
use Rattle.tree.specs.Tree.{node_at}
use Rattle.search.specs.Select.{ln_of, weights_of}
use Rattle.search.specs.inner.Newest.{best_down, FairChildren, Linked}
use Rattle.search.specs.laws.Indexed.{index_asks, index_best}
use Rattle.search.specs.laws.Rating.{next_best, next_childless}
use Rattle.search.proofs.select.next_child.Goals as goal
use Rattle.search.proofs.select.next_child.Goals.{After-ln_at, After-best_linked-best}

weighed : (c : After-ln_at) → weights_of c.args.options (ln_of c.args.logs.now (node_at c.args.nodes.now c.args.k).visits) ≡ weights_of c.args.options c.ln_at.result
weighed c = ap (weights_of c.args.options) (sym (c.ln_at.ensures ∙ ap (λ (m : Node). ln_of c.args.logs.now m.visits) c.node_at-n.ensures))

fair : (c : After-ln_at) → FairChildren c.args.nodes.now c.args.count c.args.k (weights_of c.args.options c.ln_at.result)
fair c = subst (FairChildren c.args.nodes.now c.args.count c.args.k) (weighed c) c.requires.fair

module _ (c : After-best_linked-best) where
  spent : ((node_at c.args.nodes.now c.args.k).unused == 0) ≡ true
  spent = subst (λ (m : Node). (m.unused == 0) ≡ true) c.node_at-n.ensures (not-false (c.node_at-n.result.unused == 0) (sym c.has_unused.ensures ∙ c.if-has_unused.false))

  walked : best_down (weights_of c.args.options (ln_of c.args.logs.now (node_at c.args.nodes.now c.args.k).visits)) c.args.nodes.now c.args.k c.args.count None
      ≡ c.best_linked-best.result
  walked =
      let at = (goal.at.After-best_linked-best c).After-ln_at in
      let w : Weights = weights_of c.args.options c.ln_at.result in
      let ys = c.args.nodes.now in
      let late = c.best_late-late in
      let best : best_down w ys (node_at ys c.last_child.result).parent (c.last_child.result + 1) late.result ≡ best_down w ys c.args.k c.args.count None =
      subst (λ (j : ℕ). best_down w ys (node_at ys j).parent (j + 1) late.result ≡ best_down w ys c.args.k c.args.count None) (sym c.last_child.ensures)
      (index_best w ys c.args.count c.args.links.now c.args.k c.requires.tree (fair at) c.requires.index late.result late.ensures.0) in
      sym (c.best_linked-best.ensures ∙ best ∙ ap (λ (v : Weights). best_down v ys c.args.k c.args.count None) (sym (weighed at)))

pub best_linked-best-requires : goal.best_linked-best-requires
best_linked-best-requires c =
    let late = c.best_late-late in
    let way = index_asks _ _ c.args.count _ c.args.k c.requires.tree (fair (goal.at.best_linked-best-requires c).After-ln_at) c.requires.index late.result late.ensures.1 in
    (subst (λ (j : ℕ). Linked c.args.nodes.now c.args.links.now j (weights_of c.args.options c.ln_at.result) late.result) (sym c.last_child.ensures) way, c.requires.index.room)

pub returns-in_err-best : goal.returns-in_err-best
returns-in_err-best c =
    let at = (goal.at.returns-in_err-best c).After-best_linked-best in
    rw c.from_residual.ensures (next_childless c.requires (spent at) (walked at ∙ c.in_err-best.was))

pub returns : goal.returns
returns c = let at = (goal.at.returns c).After-best_linked-best in next_best c.requires (spent at) (walked at ∙ c.in_ok-best.was)
