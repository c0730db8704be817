-- For the contracts of inner functions: what holds of the records of a search, after every accepted iteration and while one stores.
-- Assumes nothing.
use Rattle.std.specs.Prelude.{◌≡◌, ℕ, zero, suc, ◌<◌, Bool, true, false, cond, not, ◌&&◌, ◌||◌, T, List, ◌==◌}
use Rattle.std.specs.Float.Ieee.{le}
use Rattle.laws.specs.Bits.{has}
use Rattle.laws.specs.Floats.{float, one}
use Rattle.action.specs.Known.{actions}
use Rattle.craft_context.specs.declared.context.CraftContext.{CraftContext}
use Rattle.moves.specs.declared.mode.Mode.{Mode}
use Rattle.moves.specs.Modes.{plain, strict}
use Rattle.moves.specs.Moves.{moves_of}
use Rattle.tree.specs.declared.node.Node.{Node}
use Rattle.tree.specs.Tree.{node_at, is_child}
use Rattle.tree.specs.inner.Sound.{SoundTree}
use Rattle.search.specs.Select.{state_at}

-- plain for record 0, strict for every other
abbrev pub mode_at : ℕ → Mode
mode_at k = cond (k == 0) plain strict

-- the moves of a record's state
abbrev pub moves_in : CraftContext → List Node → ℕ → ℕ
moves_in c nodes k = moves_of c (state_at c nodes k) (mode_at k)

-- whether a child of record k, among the first t records, has the action
unfoldable pub is_taken : ℕ → List Node → ℕ → ℕ → Bool
is_taken zero nodes k n = false
is_taken (suc t) nodes k n = is_taken t nodes k n || (is_child t (node_at nodes t) k && (node_at nodes t).action == n)

-- each record's unused moves and its children's actions are apart and together its state's moves, and no action is twice among the children
pub record Growing (c : CraftContext) (nodes : List Node) (count : ℕ) : Type 0 where
  pub tree : SoundTree nodes count
  pub legal : (k : ℕ) → 0 < k → k < count → has (moves_in c nodes (node_at nodes k).parent) (node_at nodes k).action ≡ true
  pub left : (k : ℕ) → k < count → (n : ℕ) → n < actions → has (node_at nodes k).unused n ≡ has (moves_in c nodes k) n && not (is_taken count nodes k n)
  pub once : (j k : ℕ) → 0 < j → j < count → 0 < k → k < count → (node_at nodes j).parent ≡ (node_at nodes k).parent
      → (node_at nodes j).action ≡ (node_at nodes k).action → j ≡ k

-- record 0's visits are the iterations done, and every other record was visited
pub record Visited (nodes : List Node) (count done : ℕ) : Type 0 where
  pub root : (node_at nodes 0).visits ≡ float done
  pub seen : (k : ℕ) → 0 < k → k < count → T (le one (node_at nodes k).visits)
  pub most : (k : ℕ) → k < count → T (le (node_at nodes k).visits (float done))
