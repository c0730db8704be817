-- THE theorems of the tree, over the tests by which the entries answer: every accepted call leaves a sound tree, and after back-propagation exactly the
-- records on the path differ.
-- Assumes nothing.
use Rattle.std.specs.Prelude.{◌≡◌, ℕ, ◌+◌, ◌<◌, ◌≤◌, true, false, List, [], length, ◌≢◌, refl, Float}
use Rattle.std.proofs.Common.{arith, leb-true, ltb-true}
use Rattle.std.proofs.lemmas.Bool.{not-true}
use Rattle.refusal.specs.Judge.{pass, checks_of, room_test}
use Rattle.refusal.specs.laws.Judge.{shown}
use Rattle.laws.specs.Lists.{elem}
use Rattle.action.specs.Known.{action_test}
use Rattle.action_set.specs.Sets.{set_test}
use Rattle.tree.specs.declared.node.Node.{Node}
use Rattle.tree.specs.Node.{is_score, score_test, touched_of}
use Rattle.tree.specs.Tree.{node_at, is_sound, planted_of, inserted_of, is_above, path_of, any_full, back_of}
use Rattle.tree.specs.inner.Sound.{SoundTree}
use Rattle.tree.specs.laws.Tree.{tree_of, of_tree, planted_sound, inserted_sound}
use Rattle.tree.specs.laws.Climb.{path_reaches}
use Rattle.tree.specs.laws.Back.{back_on, back_off, back_differs, back_sound}
use Rattle.tree.specs.Refusals.{tree_test, node_test, above_test, visits_test, new_count, new_tests, insert_tests, back_tests}

pub new_kept : (nodes : List Node) (unused : ℕ) → pass ≡ checks_of (new_tests nodes unused) → is_sound (planted_of nodes unused) new_count ≡ true
new_kept nodes unused e =
    let moves = shown (set_test unused) _ e refl in
    of_tree (planted_sound nodes unused moves.0 (leb-true new_count (length nodes) (shown (room_test (length nodes) new_count) [] moves.1 refl).0))

pub insert_kept : (nodes : List Node) (count parent action unused : ℕ) → pass ≡ checks_of (insert_tests nodes count parent action unused)
    → is_sound (inserted_of nodes count parent action unused) (count + 1) ≡ true
insert_kept nodes count parent action unused e =
    let moves = shown (set_test unused) _ e refl in
    let is = shown (action_test action) _ moves.1 refl in
    let tree = shown (tree_test nodes count) _ is.1 refl in
    let below = shown (node_test count parent) _ tree.1 refl in
    let room : count + 1 ≤ length nodes = leb-true (count + 1) (length nodes) (shown (room_test (length nodes) (count + 1)) [] below.1 refl).0 in
    of_tree (inserted_sound nodes count parent action unused (tree_of tree.0) (omega arith) (ltb-true parent count below.0) is.0 moves.0)

-- what the tests of a back-propagation have shown
record Accepted (nodes : List Node) (count start target : ℕ) (score : Float) : Type 0 where
  tree : SoundTree nodes count
  inside : start < count
  above : is_above nodes start target ≡ true
  bounded : is_score score ≡ true
  room : any_full nodes (path_of nodes start target) ≡ false

module _ (nodes : List Node) (count start target : ℕ) (score : Float) (e : pass ≡ checks_of (back_tests nodes count start target score)) where
  accepted : Accepted nodes count start target score
  accepted =
      let tree = shown (tree_test nodes count) _ e refl in
      let from = shown (node_test count start) _ tree.1 refl in
      let to = shown (node_test count target) _ from.1 refl in
      let above = shown (above_test nodes start target) _ to.1 refl in
      let bounded = shown (score_test score) _ above.1 refl in
      let room = shown (visits_test nodes start target) [] bounded.1 refl in
      record {
        tree = tree_of tree.0;
        inside = ltb-true start count from.0;
        above = above.0;
        bounded = bounded.0;
        room = not-true (any_full nodes (path_of nodes start target)) room.0;
      }

  pub back_kept : is_sound (back_of nodes start target score) count ≡ true
  back_kept = let a = accepted in of_tree (back_sound nodes count start target score a.tree a.inside a.room a.bounded)

  -- the path goes up to the target
  pub back_reaches : elem (path_of nodes start target) target ≡ true
  back_reaches = path_reaches nodes start start target accepted.above

  -- on the path: one visit more, the score and the greater maximum, and that is another record than before
  pub back_touches : (k : ℕ) → elem (path_of nodes start target) k ≡ true
      → node_at (back_of nodes start target score) k ≡ touched_of (node_at nodes k) score
  back_touches = let a = accepted in back_on nodes count start target score a.tree a.inside

  pub back_changes : (k : ℕ) → elem (path_of nodes start target) k ≡ true → node_at (back_of nodes start target score) k ≢ node_at nodes k
  back_changes = let a = accepted in back_differs nodes count start target score a.tree a.inside a.room

  -- off the path, used or not
  pub back_leaves : (k : ℕ) → elem (path_of nodes start target) k ≡ false → node_at (back_of nodes start target score) k ≡ node_at nodes k
  back_leaves = let a = accepted in back_off nodes count start target score a.tree a.inside
