-- Inner: the best child, found from the newest down. Contracts of inner functions cite it, and no statement of an entry rests on it.
-- Assumes nothing.
use Rattle.std.specs.Prelude.{◌≡◌, ℕ, zero, suc, ◌+◌, ◌<◌, ◌≤◌, true, cond, List, length, Option, Some, None}
use Rattle.tree.specs.declared.node.Node.{Node}
use Rattle.tree.specs.Tree.{node_at, is_child}
use Rattle.rates.specs.declared.Best.{Best}
use Rattle.rates.specs.declared.Weights.{Weights}
use Rattle.rates.specs.Best.{better_of}
use Rattle.rates.specs.inner.Holds.{FairChild, Holds}
use Rattle.search.specs.inner.Links.{linked, older_at, last_below}

-- record k, if none is the best so far or it is better
abbrev pub better_node : Option Best → ℕ → Node → Weights → Best
better_node best k n weights = better_of best k n.visits n.score_sum n.max_score weights

-- the same if it is a child
abbrev pub better_child : Option Best → ℕ → Node → ℕ → Weights → Option Best
better_child best k n parent weights = cond (is_child k n parent) (Some (better_node best k n weights)) best

-- over the children among the first t records, from the highest down
unfoldable pub best_down : Weights → List Node → ℕ → ℕ → Option Best → Option Best
best_down weights nodes parent zero best = best
best_down weights nodes parent (suc k) best = best_down weights nodes parent k (better_child best k (node_at nodes k) parent weights)

-- its number, 0 for none
abbrev pub at_of : Option Best → ℕ
at_of None = 0
at_of (Some best) = best.at

abbrev pub FairNode : Node → Weights → Type 0
FairNode n weights = FairChild n.visits n.score_sum n.max_score weights

-- the children of a record are fair under its weights
abbrev pub FairChildren : List Node → ℕ → ℕ → Weights → Type 0
FairChildren nodes count parent weights = (k : ℕ) → k < count → is_child k (node_at nodes k) parent ≡ true → FairNode (node_at nodes k) weights

-- what the search past the index asks
pub record Late (nodes : List Node) (count parent : ℕ) (weights : Weights) : Type 0 where
  pub room : count ≤ length nodes
  pub fair : FairChildren nodes count parent weights

-- what the way by the index asks: from record k, the last child, to the one before it, and so on
pub record Linked (nodes : List Node) (links : List ℕ) (k : ℕ) (weights : Weights) (best : Option Best) : Type 0 where
  pub inside : k < linked
  pub room : k < length nodes
  pub fair : FairChildren nodes (k + 1) (node_at nodes k).parent weights
  pub holds : Holds weights best
  pub index : (j : ℕ) → 0 < j → j ≤ k → older_at links j ≡ last_below j nodes (node_at nodes j).parent
