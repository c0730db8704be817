-- The actions of a record's children: a child has its own, a record without children has none, and they are the same in records with the same parents and
-- actions. So what is known of the records of a search holds of any that differ in their floats alone.
-- Assumes nothing.
use Rattle.std.specs.Prelude.{◌≡◌, ℕ, zero, suc, ◌<◌, ◌≤◌, Bool, true, false, not, ◌&&◌, ◌||◌, List, ◌==◌, refl}
use Rattle.std.proofs.Common.{sym, ap, ◌∙◌, ⊎_elim, le_refl, arith, eq-eqb, ne_eqb}
use Rattle.laws.specs.laws.Tests.{and_false, or_true}
use Rattle.craft_context.specs.declared.context.CraftContext.{CraftContext}
use Rattle.tree.specs.declared.node.Node.{Node}
use Rattle.tree.specs.Tree.{node_at, is_child, Falls}
use Rattle.tree.specs.inner.Sound.{SoundTree}
use Rattle.tree.specs.laws.Tree.{last_or_below, tree_falls}
use Rattle.search.specs.inner.Grown.{moves_in, is_taken, Growing}
use Rattle.search.specs.laws.States.{Alike, state_alike}

-- a child's action is taken
pub taken_by : (t : ℕ) (nodes : List Node) (k j : ℕ) → 0 < j → j < t → (node_at nodes j).parent ≡ k → is_taken t nodes k (node_at nodes j).action ≡ true
unfolding is_taken
taken_by zero nodes k j some h e = absurd (omega arith)
taken_by (suc t) nodes k j some h e = ⊎_elim here (λ l. rw (taken_by t nodes k j some l e)) (last_or_below j t h)
  where
    here : j ≡ t → is_taken t nodes k (node_at nodes j).action || (is_child t (node_at nodes t) k && (node_at nodes t).action == (node_at nodes j).action) ≡ true
    here q =
        rw (← q, ne_eqb j 0 (λ z. omega arith), eq-eqb (node_at nodes j).parent k e, eq-eqb (node_at nodes j).action (node_at nodes j).action refl)
        (or_true (is_taken j nodes k (node_at nodes j).action))

-- no record up to a record's own number is its child
pub taken_none : (nodes : List Node) (count : ℕ) → Falls nodes count → (t k n : ℕ) → t ≤ count → t ≤ k → is_taken t nodes k n ≡ false
unfolding is_taken
taken_none nodes count falls zero k n a b = refl
taken_none nodes count falls (suc zero) k n a b = refl
taken_none nodes count falls (suc (suc t)) k n a b =
    let up : (node_at nodes (suc t)).parent < suc t = falls (suc t) (omega arith) (omega arith) in
    rw (taken_none nodes count falls (suc t) k n (omega arith) (omega arith), ne_eqb (node_at nodes (suc t)).parent k (λ e. omega arith))
    (ap (λ (b : Bool). b && (node_at nodes (suc t)).action == n) (and_false (not (suc t == 0))))

-- no children, no actions
pub taken_childless : (nodes : List Node) (t k n : ℕ) → ((j : ℕ) → j < t → is_child j (node_at nodes j) k ≡ false) → is_taken t nodes k n ≡ false
unfolding is_taken
taken_childless nodes zero k n none = refl
taken_childless nodes (suc t) k n none = rw (taken_childless nodes t k n (λ j h. none j (omega arith)), none t (omega arith))

pub taken_alike : (nodes others : List Node) (count : ℕ) → Alike nodes others count → (t k n : ℕ) → t ≤ count → is_taken t others k n ≡ is_taken t nodes k n
unfolding is_taken
taken_alike nodes others count alike zero k n h = refl
taken_alike nodes others count alike (suc t) k n h =
    rw (taken_alike nodes others count alike t k n (omega arith), alike.parent t (omega arith), alike.action t (omega arith))

module _ (c : CraftContext) (nodes others : List Node) (count : ℕ) (falls : Falls nodes count) (alike : Alike nodes others count) where
  pub moves_alike : (k : ℕ) → k < count → moves_in c others k ≡ moves_in c nodes k
  moves_alike k h = rw (state_alike c nodes count falls others alike k h)

-- records that differ in their floats alone
module _ (c : CraftContext) (nodes others : List Node) (count : ℕ) (growing : Growing c nodes count) (alike : Alike nodes others count)
    (unused : (k : ℕ) → k < count → (node_at others k).unused ≡ (node_at nodes k).unused) where
  pub growing_alike : SoundTree others count → Growing c others count
  growing_alike tree =
      record {
        tree = tree;
        legal = λ k some h. rw (alike.parent k h, alike.action k h, moves_alike c nodes others count falls alike (node_at nodes k).parent (below k some h))
            (growing.legal k some h);
        left = λ k h n l.
            rw (unused k h, moves_alike c nodes others count falls alike k h, taken_alike nodes others count alike count k n (le_refl count))
            (growing.left k h n l);
        once = λ j k a b i l p q. growing.once j k a b i l (sym (alike.parent j b) ∙ p ∙ alike.parent k l) (sym (alike.action j b) ∙ q ∙ alike.action k l);
      }
    where
      falls : Falls nodes count
      falls = tree_falls growing.tree

      below : (k : ℕ) → 0 < k → k < count → (node_at nodes k).parent < count
      below k some h = omega (arith, falls k some h)
