-- Inner: the index by which children are found. Contracts of inner functions cite it, and no statement of an entry rests on it.
-- Assumes nothing.
use Rattle.std.specs.Prelude.{◌≡◌, ℕ, zero, suc, ◌+◌, ◌*◌, ◌<◌, cond, List, length, nat_lt, slice_index, slice_set}
use Rattle.tree.specs.declared.node.Node.{Node}
use Rattle.tree.specs.Tree.{node_at, is_child}

-- as many records as the index has room for
abbrev pub linked : ℕ
linked = 16384

-- two numbers to a record: its last child among these, and the child of its parent before it; 0 for none
abbrev pub last_at : List ℕ → ℕ → ℕ
last_at links k = slice_index links (2 * k)

abbrev pub older_at : List ℕ → ℕ → ℕ
older_at links k = slice_index links (2 * k + 1)

-- a record past the index has no child before it
abbrev pub last_link : List ℕ → ℕ → ℕ
last_link links k = cond (nat_lt k linked) (last_at links k) 0

-- the last child of a record among the first t; 0 where there is none
unfoldable pub last_below : ℕ → List Node → ℕ → ℕ
last_below zero nodes parent = 0
last_below (suc k) nodes parent = cond (is_child k (node_at nodes k) parent) k (last_below k nodes parent)

-- the lesser of count and room
abbrev pub top_of : ℕ → ℕ
top_of count = cond (nat_lt count linked) count linked

-- what the index holds
pub record Links (nodes : List Node) (count : ℕ) (links : List ℕ) : Type 0 where
  pub room : length links ≡ 2 * linked
  pub last : (k : ℕ) → k < linked → last_at links k ≡ last_below (top_of count) nodes k
  pub older : (k : ℕ) → 0 < k → k < top_of count → older_at links k ≡ last_below k nodes (node_at nodes k).parent

-- record k is a new child of its parent
abbrev pub link_of : List ℕ → ℕ → ℕ → List ℕ
link_of links parent k = cond (nat_lt k linked) (slice_set (slice_set links (2 * k + 1) (last_at links parent)) (2 * parent) k) links
