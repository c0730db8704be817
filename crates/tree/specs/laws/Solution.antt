-- Laws of `solution`: the best child is above its parent; how a loop goes down the path; and that the path ends where there is no child, and is shorter
-- than the count.
-- Assumes nothing.
use Rattle.std.specs.Prelude.{◌≡◌, ℕ, zero, suc, ◌+◌, ◌<◌, ◌≤◌, List, [], ◌∷◌, length}
use Rattle.std.proofs.Math.Path.{refl, ap}
use Rattle.std.proofs.Common.{sym, ◌∙◌, arith}
use Rattle.std.proofs.lemmas.List.{length-map}
use Rattle.tree.specs.declared.node.Node.{Node}
use Rattle.tree.specs.Tree.{node_at, Falls, children_of, best_of, onward, descent_in, descent_of, last_of, solution_of, end_of}
use Rattle.tree.specs.inner.Few.{follow_in, Rises}
use Rattle.tree.specs.inner.Sound.{SoundTree}
use Rattle.tree.specs.laws.Tree.{tree_falls}
use Rattle.tree.specs.laws.Follow.{follow_steps, follow_next, follow_length}
use Rattle.tree.specs.laws.Best.{child_parent, best_listed, best_childless}

module _ (nodes : List Node) (count : ℕ) (falls : Falls nodes count) where
  pub best_below : (k : ℕ) → 0 < best_of count nodes k → best_of count nodes k < count
  best_below k some = (best_listed nodes count k some).0

  -- a child's number is above its parent's
  pub best_rises : (k : ℕ) → 0 < best_of count nodes k → k < best_of count nodes k
  best_rises k some =
      let c = best_listed nodes count k some in
      omega (arith, falls (best_of count nodes k) some c.0, child_parent (best_of count nodes k) (node_at nodes (best_of count nodes k)) k c.1)

  pub tree_rises : Rises (best_of count nodes) count
  tree_rises = record { up = best_rises; below = best_below }

  -- ---- the way down is followed by the best child

  pub descent_follows : (steps k : ℕ) → descent_in steps nodes count k ≡ follow_in (best_of count nodes) steps k
  unfolding descent_in follow_in
  descent_follows zero k = refl
  descent_follows (suc steps) k = go (best_of count nodes k) (descent_follows steps)
    where
      go : (b : ℕ) → ((b : ℕ) → descent_in steps nodes count b ≡ follow_in (best_of count nodes) steps b)
          → onward b (descent_in steps nodes count) ≡ onward b (follow_in (best_of count nodes) steps)
      go zero rest = refl
      go (suc b) rest = ap (λ (l : List ℕ). suc b ∷ l) (rest (suc b))

  -- more steps than are needed change nothing
  pub descent_steps : (f g k : ℕ) → count ≤ f + k → count ≤ g + k → descent_in f nodes count k ≡ descent_in g nodes count k
  descent_steps f g k p q = descent_follows f k ∙ follow_steps (best_of count nodes) count tree_rises f g k p q ∙ sym (descent_follows g k)

  -- ---- step by step, for the loops

  pub descent_stop : (k : ℕ) → best_of count nodes k ≡ 0 → descent_of nodes count k ≡ []
  descent_stop k e =
      descent_follows count k ∙ follow_next (best_of count nodes) count tree_rises k
      ∙ ap (λ (b : ℕ). onward b (follow_in (best_of count nodes) count)) e

  pub descent_on : (k : ℕ) → 0 < best_of count nodes k → descent_of nodes count k ≡ best_of count nodes k ∷ descent_of nodes count (best_of count nodes k)
  descent_on k some = descent_follows count k ∙ follow_next (best_of count nodes) count tree_rises k ∙ go (best_of count nodes k) some
    where
      go : (b : ℕ) → 0 < b → onward b (follow_in (best_of count nodes) count) ≡ b ∷ descent_of nodes count b
      go zero l = absurd (omega arith)
      go (suc b) l = ap (λ (l : List ℕ). suc b ∷ l) (sym (descent_follows count (suc b)))

  -- ---- the whole path

  pub descent_length : (steps k : ℕ) → k < count → length (descent_in steps nodes count k) + k < count
  descent_length steps k h = omega (arith, ap length (descent_follows steps k), follow_length (best_of count nodes) count tree_rises steps k h)

  descent_ends : (steps k : ℕ) → count ≤ steps + k → best_of count nodes (last_of k (descent_in steps nodes count k)) ≡ 0
  unfolding descent_in
  descent_ends zero k h = go (best_of count nodes k) refl
    where
      go : (b : ℕ) → best_of count nodes k ≡ b → b ≡ 0
      go zero e = refl
      go (suc b) e = absurd (omega (arith, best_rises k (omega (arith, e)), best_below k (omega (arith, e))))
  descent_ends (suc steps) k h = go (best_of count nodes k) refl (λ b r. descent_ends steps b (omega arith))
    where
      go : (b : ℕ) → best_of count nodes k ≡ b → ((b : ℕ) → k < b → best_of count nodes (last_of b (descent_in steps nodes count b)) ≡ 0)
          → best_of count nodes (last_of k (onward b (descent_in steps nodes count))) ≡ 0
      go zero e rest = e
      go (suc b) e rest = rest (suc b) (omega (arith, e, best_rises k (omega (arith, e))))

module _ (nodes : List Node) (count : ℕ) (tree : SoundTree nodes count) where
  -- the last node has no child
  pub solution_ends : children_of count nodes (end_of nodes count) ≡ []
  solution_ends = best_childless nodes count tree (end_of nodes count) (descent_ends nodes count (tree_falls tree) count 0 (omega arith))

  -- the path is shorter than the count
  pub solution_length : length (solution_of nodes count) < count
  solution_length = rw length-map (omega (arith, descent_length nodes count (tree_falls tree) count 0 tree.some))
