-- For the contracts of inner functions: a sound tree, as facts: what the scan has shown.
-- Assumes nothing.
use Rattle.std.specs.Prelude.{◌≡◌, ℕ, ◌<◌, ◌≤◌, true, List, length}
use Rattle.tree.specs.declared.node.Node.{Node}
use Rattle.tree.specs.Sound.{sound_at}
use Rattle.tree.specs.Tree.{node_at}

pub record SoundTree (nodes : List Node) (count : ℕ) : Type 0 where
  pub some : 0 < count
  pub room : count ≤ length nodes
  pub each : (k : ℕ) → k < count → sound_at k (node_at nodes k) ≡ true
