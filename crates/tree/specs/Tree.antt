-- Document 01, Tree: "a lent run of records: .., with a count of those used". Its soundness; insertion, which "takes record number count"; children, which
-- "come in record order"; `backpropagate`, which "goes from start up to target"; and `solution`, which "follows from 0 the child of greatest max_score,
-- the last of equals, and answers the actions and the last node".
-- Assumes nothing.
use Rattle.std.specs.Prelude.{ℕ, zero, suc, ◌<◌, Bool, true, false, cond, not, ◌&&◌, ◌||◌, List, [], ◌∷◌, ◌++◌, map, length, ◌==◌, nat_le, slice_index_or, slice_set, Float}
use Rattle.std.specs.Float.Ieee.{lt, eq}
use Rattle.tree.specs.declared.node.Node.{Node}
use Rattle.tree.specs.Node.{node_of, root_node, is_full, touched_of}
use Rattle.tree.specs.Sound.{sound_at}

-- what `slice_index_or` answers past the end
abbrev pub no_node : Node
no_node = root_node 0

abbrev pub node_at : List Node → ℕ → Node
node_at nodes k = slice_index_or nodes k no_node

-- ---- soundness: a count from 1 to the number of records, and each record below it sound at its number

unfoldable pub sound_to : ℕ → List Node → Bool
sound_to zero nodes = true
sound_to (suc k) nodes = sound_to k nodes && sound_at k (node_at nodes k)

unfoldable pub is_sound : List Node → ℕ → Bool
is_sound nodes count = (nat_le 1 count && nat_le count (length nodes)) && sound_to count nodes

-- ---- a new tree, and insertion at record number count

abbrev pub planted_of : List Node → ℕ → List Node
planted_of nodes unused = slice_set nodes 0 (root_node unused)

abbrev pub inserted_of : List Node → ℕ → ℕ → ℕ → ℕ → List Node
inserted_of nodes count parent action unused = slice_set nodes count (node_of parent action unused)

-- ---- children, in record order

-- record k is a child of a parent; record 0 is nobody's
abbrev pub is_child : ℕ → Node → ℕ → Bool
is_child k n parent = not (k == 0) && n.parent == parent

unfoldable pub children_of : ℕ → List Node → ℕ → List ℕ
children_of zero nodes parent = []
children_of (suc k) nodes parent = children_of k nodes parent ++ cond (is_child k (node_at nodes k) parent) (k ∷ []) []

-- ---- the way up: a parent is below its child, so from record k on k steps reach record 0

-- so it is of each record below count
abbrev pub Falls : List Node → ℕ → Type 0
Falls nodes count = (k : ℕ) → 0 < k → k < count → (node_at nodes k).parent < k

-- target is record k or above it
unfoldable pub above_in : ℕ → List Node → ℕ → ℕ → Bool
above_in zero nodes k target = k == target
above_in (suc steps) nodes k target = k == target || (not (k == 0) && above_in steps nodes (node_at nodes k).parent target)

abbrev pub is_above : List Node → ℕ → ℕ → Bool
is_above nodes start target = above_in start nodes start target

-- record k, its parent, and so on up to target
unfoldable pub path_in : ℕ → List Node → ℕ → ℕ → List ℕ
path_in zero nodes k target = k ∷ []
path_in (suc steps) nodes k target = k ∷ cond (k == target || k == 0) [] (path_in steps nodes (node_at nodes k).parent target)

abbrev pub path_of : List Node → ℕ → ℕ → List ℕ
path_of nodes start target = path_in start nodes start target

-- ---- back-propagation: the records on the path are touched, and no other

unfoldable pub any_full : List Node → List ℕ → Bool
any_full nodes [] = false
any_full nodes (k ∷ path) = is_full (node_at nodes k) || any_full nodes path

abbrev pub touched_at : List Node → ℕ → Float → List Node
touched_at nodes k score = slice_set nodes k (touched_of (node_at nodes k) score)

unfoldable pub touched_all : List Node → List ℕ → Float → List Node
touched_all nodes [] score = nodes
touched_all nodes (k ∷ path) score = touched_all (touched_at nodes k score) path score

abbrev pub back_of : List Node → ℕ → ℕ → Float → List Node
back_of nodes start target score = touched_all nodes (path_of nodes start target) score

-- ---- `solution`: from record 0 on the best child, until there is none

-- child j gives way to child k, by what each is rated: a smaller rate, or the same and not a later record
abbrev pub yields : (ℕ → Float) → ℕ → ℕ → Bool
yields rate k j = lt (rate j) (rate k) || (eq (rate j) (rate k) && nat_le j k)

-- each of these does
unfoldable pub all_yield : (ℕ → Float) → ℕ → List ℕ → Bool
all_yield rate k [] = true
all_yield rate k (j ∷ rest) = yields rate k j && all_yield rate k rest

-- the one to which all give way; 0 where there is none, since record 0 is no child
unfoldable pub best_in : (ℕ → Float) → List ℕ → List ℕ → ℕ
best_in rate all [] = 0
best_in rate all (k ∷ rest) = cond (all_yield rate k all) k (best_in rate all rest)

-- the child of greatest rate, the last of equals
abbrev pub best_by : (ℕ → Float) → ℕ → List Node → ℕ → ℕ
best_by rate count nodes parent = best_in rate (children_of count nodes parent) (children_of count nodes parent)

-- of greatest max_score
abbrev pub max_at : List Node → ℕ → Float
max_at nodes k = (node_at nodes k).max_score

abbrev pub best_of : ℕ → List Node → ℕ → ℕ
best_of count nodes parent = best_by (max_at nodes) count nodes parent

-- 0 is no child
abbrev pub onward : ℕ → (ℕ → List ℕ) → List ℕ
onward zero rest = []
onward (suc k) rest = suc k ∷ rest (suc k)

-- the records below record k that `solution` takes; a child is above its parent, so count steps reach the last
unfoldable pub descent_in : ℕ → List Node → ℕ → ℕ → List ℕ
descent_in zero nodes count k = []
descent_in (suc steps) nodes count k = onward (best_of count nodes k) (descent_in steps nodes count)

abbrev pub descent_of : List Node → ℕ → ℕ → List ℕ
descent_of nodes count k = descent_in count nodes count k

abbrev pub actions_of : List Node → List ℕ → List ℕ
actions_of nodes path = map (λ (k : ℕ). (node_at nodes k).action) path

abbrev pub last_of : ℕ → List ℕ → ℕ
last_of k [] = k
last_of k (next ∷ path) = last_of next path

-- the actions, and the last node
abbrev pub solution_of : List Node → ℕ → List ℕ
solution_of nodes count = actions_of nodes (descent_of nodes count 0)

abbrev pub end_of : List Node → ℕ → ℕ
end_of nodes count = last_of 0 (descent_of nodes count 0)
