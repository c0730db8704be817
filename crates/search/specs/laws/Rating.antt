-- What finding a record's child asks, from the records of a search between two iterations, and that the best child found is the next record of `select`.
-- Assumes nothing.
use Rattle.std.specs.Prelude.{◌≡◌, ℕ, ◌<◌, ◌≤◌, Bool, true, false, cond, List, ◌==◌, Float, Option, Some, None}
use Rattle.std.proofs.Common.{sym, ap, ◌∙◌, arith}
use Rattle.craft_context.specs.declared.context.CraftContext.{CraftContext}
use Rattle.ucb1.proofs.Bounds.{ucb1_finite}
use Rattle.rates.specs.declared.Best.{Best}
use Rattle.rates.specs.declared.Weights.{Weights}
use Rattle.tree.specs.declared.node.Node.{Node}
use Rattle.tree.specs.Tree.{node_at, best_by}
use Rattle.tree.specs.inner.Best.{child_at}
use Rattle.tree.specs.laws.Best.{child_some, child_parent}
use Rattle.tree.specs.laws.Node.{sound_parts}
use Rattle.tree.specs.laws.Visits.{count_at_most}
use Rattle.search.specs.declared.options.SearchOptions.{SearchOptions}
use Rattle.search.specs.Select.{ln_of, weights_of, rate_at, next_of}
use Rattle.search.specs.inner.Newest.{best_down}
use Rattle.search.specs.inner.Ready.{Ready, Rating}
use Rattle.search.specs.laws.Newest.{down_none, down_some}
use Rattle.search.specs.laws.Rated.{child_fair}

pub ready_rating : {c : CraftContext} {o : SearchOptions} {logs : List Float} {nodes : List Node} {count : ℕ} {links : List ℕ}
    → Ready c o logs nodes count links → (k : ℕ) → k < count → Rating o logs nodes count links k
ready_rating {c} {o} {logs} {nodes} {count} r k inside =
    let tree = r.growing.tree in
    let few : r.done ≤ 4096 = omega (arith, r.few) in
    let whole = (sound_parts (tree.each k inside)).count in
    record {
      tree = tree;
      inside = inside;
      logged =
          record {
            whole = whole;
            most = omega (arith, count_at_most (node_at nodes k).visits whole r.done (omega arith) (r.visited.most k inside));
            table = r.asked.table;
          };
      fair = λ j h is.
          rw (child_parent j (node_at nodes j) k is) at
          (child_fair nodes count r.done tree r.visited few j (child_some j (node_at nodes j) k is) h c o logs r.asked);
      index = r.index;
    }

module _ {o : SearchOptions} {logs : List Float} {nodes : List Node} {count : ℕ} {links : List ℕ} {k : ℕ} (r : Rating o logs nodes count links k) where
  abbrev weights : Weights
  weights = weights_of o (ln_of logs (node_at nodes k).visits)

  abbrev walked : Option Best
  walked = best_down weights nodes k count None

  -- where no moves are left
  module _ (none : ((node_at nodes k).unused == 0) ≡ true) where
    next_is : best_by (rate_at o logs nodes k) count nodes k ≡ next_of o logs nodes count k
    next_is = sym (ap (λ (t : Bool). cond t (best_by (rate_at o logs nodes k) count nodes k) 0) none)

    pub next_childless : walked ≡ None → None ≡ child_at (next_of o logs nodes count k)
    next_childless e = down_none weights nodes k count (λ j h is. ucb1_finite (r.fair j h is)) e ∙ ap child_at next_is

    pub next_best : {best : Best} → walked ≡ Some best → Some best.at ≡ child_at (next_of o logs nodes count k)
    next_best e = down_some weights nodes k count (λ j h is. ucb1_finite (r.fair j h is)) e ∙ ap child_at next_is

  -- where some are
  pub next_none : ((node_at nodes k).unused == 0) ≡ false → None ≡ child_at (next_of o logs nodes count k)
  next_none some = ap child_at (sym (ap (λ (t : Bool). cond t (best_by (rate_at o logs nodes k) count nodes k) 0) some))
