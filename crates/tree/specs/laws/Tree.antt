-- Laws of a tree: what soundness says, record by record, and that a new tree and an accepted insertion are sound.
-- Assumes nothing.
use Rattle.std.specs.Prelude.{◌≡◌, ℕ, zero, suc, ◌+◌, ◌<◌, ◌≤◌, true, ◌&&◌, ◌⊎◌, List, [], length, nat_le, refl}
use Rattle.std.proofs.Common.{⊎_elim, eq-or-lt_of_le, add-one, arith, length-set, get_or-set_same, get_or-set_other, le-leb, leb-true, ltb-true, ne_eqb}
use Rattle.laws.specs.laws.Tests.{both, and_both}
use Rattle.refusal.specs.Judge.{Checked, pass, checked_of}
use Rattle.refusal.specs.laws.Judge.{alone, shown}
use Rattle.action.specs.Known.{known}
use Rattle.tree.specs.declared.node.Node.{Node}
use Rattle.tree.specs.Node.{node_of, root_node}
use Rattle.action_set.specs.Sets.{is_set}
use Rattle.tree.specs.Sound.{sound_at}
use Rattle.tree.specs.laws.Node.{sound_parts, root_sound, new_sound}
use Rattle.tree.specs.Tree.{no_node, node_at, sound_to, is_sound, planted_of, inserted_of, Falls}
use Rattle.tree.specs.Refusals.{tree_test, node_test}
use Rattle.tree.specs.inner.Sound.{SoundTree}

-- ---- soundness, record by record

pub last_or_below : (k m : ℕ) → k < suc m → (k ≡ m) ⊎ (k < m)
last_or_below k m h = let most : k ≤ m = omega arith in eq-or-lt_of_le most

pub sound_each : (m : ℕ) (nodes : List Node) → sound_to m nodes ≡ true → (k : ℕ) → k < m → sound_at k (node_at nodes k) ≡ true
unfolding sound_to
sound_each zero nodes e k h = absurd (omega arith)
sound_each (suc m) nodes e k h =
    ⊎_elim (λ q. rw q (both (sound_to m nodes) _ e).1) (λ l. sound_each m nodes (both (sound_to m nodes) _ e).0 k l) (last_or_below k m h)

pub sound_all : (m : ℕ) (nodes : List Node) → ((k : ℕ) → k < m → sound_at k (node_at nodes k) ≡ true) → sound_to m nodes ≡ true
unfolding sound_to
sound_all zero nodes each = refl
sound_all (suc m) nodes each = and_both (sound_all m nodes (λ k h. each k (omega arith))) (each m (omega arith))

pub tree_of : {nodes : List Node} {count : ℕ} → is_sound nodes count ≡ true → SoundTree nodes count
unfolding is_sound
tree_of {nodes} {count} e =
    let outer = both (nat_le 1 count && nat_le count (length nodes)) _ e in
    let inner = both (nat_le 1 count) _ outer.0 in
    record { some = leb-true 1 count inner.0; room = leb-true count (length nodes) inner.1; each = sound_each count nodes outer.1 }

pub of_tree : {nodes : List Node} {count : ℕ} → SoundTree nodes count → is_sound nodes count ≡ true
unfolding is_sound
of_tree {nodes} {count} t = simp (le-leb 1 count t.some, le-leb count (length nodes) t.room, sound_all count nodes t.each)

-- ---- a parent is below its child

pub parent_below : (k : ℕ) (n : Node) → 0 < k → sound_at k n ≡ true → n.parent < k
parent_below k n some e = ltb-true _ _ (both _ _ (rw (ne_eqb k 0 (λ z. omega arith)) at (sound_parts e).place)).0

pub tree_falls : {nodes : List Node} {count : ℕ} → SoundTree nodes count → Falls nodes count
tree_falls {nodes} t k some h = parent_below k (node_at nodes k) some (t.each k h)

-- ---- a new tree, and one with a record more

pub planted_sound : (nodes : List Node) (unused : ℕ) → is_set unused ≡ true → 0 < length nodes → SoundTree (planted_of nodes unused) 1
planted_sound nodes unused moves some = record { some = omega arith; room = rw length-set some; each = λ k h. first k (omega arith) }
  where
    first : (k : ℕ) → k ≡ 0 → sound_at k (node_at (planted_of nodes unused) k) ≡ true
    first k e = rw (e, get_or-set_same nodes 0 (root_node unused) no_node some) (root_sound unused moves)

module _ (nodes : List Node) (count parent action unused : ℕ) (tree : SoundTree nodes count) (room : count < length nodes)
    (below : parent < count) (is : known action ≡ true) (moves : is_set unused ≡ true) where
  pub inserted_sound : SoundTree (inserted_of nodes count parent action unused) (count + 1)
  inserted_sound =
      record { some = omega arith; room = rw length-set (omega arith); each = λ k h. ⊎_elim (here k) (before k) (last_or_below k count (rw add-one at h)) }
    where
      here : (k : ℕ) → k ≡ count → sound_at k (node_at (inserted_of nodes count parent action unused) k) ≡ true
      here k e = rw (e, get_or-set_same nodes count (node_of parent action unused) no_node room) (new_sound count parent action unused tree.some below is moves)

      before : (k : ℕ) → k < count → sound_at k (node_at (inserted_of nodes count parent action unused) k) ≡ true
      before k h = rw (get_or-set_other nodes count k (node_of parent action unused) no_node (λ e. omega arith)) (tree.each k h)

-- ---- what the code's tests of a tree and of a number have shown

pub checked_tree : {nodes : List Node} {count : ℕ} {checked : Checked} → checked ≡ checked_of (tree_test nodes count) → checked ≡ pass → SoundTree nodes count
checked_tree {nodes} {count} e p = tree_of (shown (tree_test nodes count) [] (alone (tree_test nodes count) e) p).0

pub checked_node : {count k : ℕ} {checked : Checked} → checked ≡ checked_of (node_test count k) → checked ≡ pass → k < count
checked_node {count} {k} e p = ltb-true k count (shown (node_test count k) [] (alone (node_test count k) e) p).0
