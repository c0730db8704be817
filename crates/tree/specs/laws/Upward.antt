-- The way up from a record to record 0: record 0 is above every record, and what is on the way from a record's parent is on its own.
-- Assumes nothing.
use Rattle.std.specs.Prelude.{◌≡◌, ℕ, zero, suc, ◌<◌, ◌≤◌, true, List, length, ◌==◌}
use Rattle.std.proofs.Math.Path.{refl}
use Rattle.std.proofs.Common.{le_refl, arith, eq-eqb}
use Rattle.std.proofs.Math.Dec.{eqb-suc-zero}
use Rattle.laws.specs.Lists.{elem}
use Rattle.laws.specs.laws.Tests.{or_true}
use Rattle.tree.specs.declared.node.Node.{Node}
use Rattle.tree.specs.Tree.{node_at, Falls, above_in, is_above, path_in, path_of}
use Rattle.tree.specs.inner.Back.{Reaches}
use Rattle.tree.specs.laws.Climb.{path_up, path_reaches}

-- a path begins with the record that it starts from
pub path_starts : (nodes : List Node) (k target : ℕ) → elem (path_of nodes k target) k ≡ true
unfolding path_in elem
path_starts nodes zero target = refl
path_starts nodes (suc k) target = rw (eq-eqb (suc k) (suc k) refl)

module _ (nodes : List Node) (count : ℕ) (falls : Falls nodes count) where
  above_in_lem : (steps k : ℕ) → k ≤ steps → k < count → above_in steps nodes k 0 ≡ true
  unfolding above_in
  above_in_lem zero zero a h = refl
  above_in_lem zero (suc k) a h = absurd (omega arith)
  above_in_lem (suc steps) zero a h = refl
  above_in_lem (suc steps) (suc k) a h =
      let up : (node_at nodes (suc k)).parent < suc k = falls (suc k) (omega arith) h in
      rw (eqb-suc-zero, above_in_lem steps (node_at nodes (suc k)).parent (omega arith) (omega arith))

  module _ (k : ℕ) (inside : k < count) where
    pub root_above : is_above nodes k 0 ≡ true
    root_above = above_in_lem k k (le_refl k) inside

    -- so a path up to record 0 comes there
    pub path_root : elem (path_of nodes k 0) 0 ≡ true
    path_root = path_reaches nodes k k 0 root_above

    -- what a back-propagation to record 0 asks
    pub root_reached : count ≤ length nodes → Reaches nodes k 0
    root_reached room = record { climbs = record { room = omega arith; falls = λ j some h. falls j some (omega arith) }; above = root_above }

    pub path_longer : 0 < k → (j : ℕ) → elem (path_of nodes (node_at nodes k).parent 0) j ≡ true → elem (path_of nodes k 0) j ≡ true
    unfolding elem
    path_longer some j is = rw (path_up nodes count 0 falls k some inside, is) (or_true (j == k))
