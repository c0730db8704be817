-- Inner: how the code finds the child that `solution` takes, in one walk over the records. Contracts of inner functions cite it, and no statement
-- of an entry rests on it: `best_rule` (crates/tree/specs/laws/Best.antt) says that in a sound tree it comes to the child of document 01's rule.
-- Assumes nothing.
use Rattle.std.specs.Prelude.{ℕ, zero, suc, Bool, true, cond, ◌&&◌, List, Option, Some, None}
use Rattle.std.specs.Float.Ieee.{le}
use Rattle.tree.specs.declared.node.Node.{Node}
use Rattle.tree.specs.declared.best.Best.{Best}
use Rattle.tree.specs.Tree.{node_at, is_child}

-- a child by its number, where 0 is for none, since record 0 is no child
abbrev pub child_at : ℕ → Option ℕ
child_at zero = None
child_at (suc k) = Some (suc k)

-- record k, that is n
abbrev pub taken : ℕ → Node → Best
taken k n = record { at = k; max_score = n.max_score }

-- the first child, and a later one in place of one with the same max_score
abbrev pub is_better : Option Best → Node → Bool
is_better None n = true
is_better (Some best) n = le best.max_score n.max_score

unfoldable pub pick_of : Option Best → ℕ → Node → ℕ → Option Best
pick_of best k n parent = cond (is_child k n parent && is_better best n) (Some (taken k n)) best

-- the best child among the first records
unfoldable pub best_to : ℕ → List Node → ℕ → Option Best
best_to zero nodes parent = None
best_to (suc k) nodes parent = pick_of (best_to k nodes parent) k (node_at nodes k) parent

-- its number, 0 for none
abbrev pub at_of : Option Best → ℕ
at_of None = 0
at_of (Some best) = best.at
