-- A selected record without unused moves has no child either, so its state has no move: it has ended, or nothing is legal there.
-- Assumes nothing.
use Rattle.std.specs.Prelude.{◌≡◌, ℕ, ◌<◌, ◌≤◌, Bool, true, false, ◌&&◌, List, refl, Float}
use Rattle.std.proofs.Common.{sym, ◌∙◌, pow_pos, eq-eqb}
use Rattle.laws.specs.Bits.{has}
use Rattle.laws.specs.laws.Bits.{same_members}
use Rattle.laws.specs.laws.Tests.{and_true}
use Rattle.action.specs.Known.{actions}
use Rattle.craft_context.specs.declared.context.CraftContext.{CraftContext}
use Rattle.tree.specs.declared.node.Node.{Node}
use Rattle.tree.specs.Tree.{node_at, is_child, best_by}
use Rattle.tree.specs.laws.Tree.{tree_falls}
use Rattle.search.specs.declared.options.SearchOptions.{SearchOptions}
use Rattle.search.specs.Options.{iterations_most}
use Rattle.search.specs.Select.{state_at, rate_at, select_of}
use Rattle.search.specs.inner.Grown.{mode_at, moves_in, Growing, Visited}
use Rattle.search.specs.laws.Taken.{taken_childless}
use Rattle.search.specs.laws.Moves.{moves_set}
use Rattle.search.specs.laws.Asked.{Asked}
use Rattle.search.specs.laws.Descend.{selected_below, selected_last}
use Rattle.search.specs.laws.Newest.{rated_none}

module _ (c : CraftContext) (o : SearchOptions) (logs : List Float) (asked : Asked c o logs) (nodes : List Node) (count done : ℕ)
    (growing : Growing c nodes count) (visited : Visited nodes count done) (few : done ≤ iterations_most)
    (none : (node_at nodes (select_of o logs nodes count)).unused ≡ 0) where
  abbrev selected : ℕ
  selected = select_of o logs nodes count

  not_picked : best_by (rate_at o logs nodes selected) count nodes selected ≡ 0
  not_picked = rw (eq-eqb (node_at nodes selected).unused 0 none) at (selected_last o logs nodes count (tree_falls growing.tree))

  pub dead_childless : (j : ℕ) → j < count → is_child j (node_at nodes j) selected ≡ false
  dead_childless j h = go (is_child j (node_at nodes j) selected) refl
    where
      go : (t : Bool) → is_child j (node_at nodes j) selected ≡ t → t ≡ false
      go false e = refl
      go true e = absurd (rated_none c o logs asked nodes count done growing.tree visited few selected not_picked j h e)

  pub dead_end : moves_in c nodes selected ≡ 0
  dead_end = same_members actions (moves_in c nodes selected) 0 (moves_set c (state_at c nodes selected) (mode_at selected)) (pow_pos actions) each
    where
      each : (n : ℕ) → n < actions → has (moves_in c nodes selected) n ≡ has 0 n
      each n h =
          let inside = selected_below o logs nodes count (tree_falls growing.tree) growing.tree.some in
          let left : has 0 n ≡ has (moves_in c nodes selected) n && true =
          rw (none, taken_childless nodes count selected n dead_childless) at (growing.left selected inside n h) in
          sym (left ∙ and_true (has (moves_in c nodes selected) n))
