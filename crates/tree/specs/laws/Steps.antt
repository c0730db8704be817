-- Why the counted steps of the definitions are enough. In a sound tree more of them change nothing, `is_above` tells of every record that going up
-- from parent to parent comes by, and a path ends at the target if that is above, else at record 0.
-- Assumes nothing.
use Rattle.std.specs.Prelude.{◌≡◌, ℕ, zero, suc, ◌<◌, ◌≤◌, Bool, true, false, cond, not, ◌&&◌, ◌||◌, List, [], ◌==◌}
use Rattle.std.proofs.Math.Path.{refl}
use Rattle.std.proofs.Common.{sym, ap, ◌∙◌, le_refl}
use native.Mathlib.Omega.{arith}
use Rattle.std.proofs.Math.Dec.{eqb-suc-zero}
use borrow.Author.Tests.{eqb-true, eqb-false}
use Rattle.laws.specs.laws.Tests.{both, or_true}
use Rattle.tree.specs.declared.node.Node.{Node}
use Rattle.tree.specs.Tree.{node_at, is_sound, Falls, above_in, is_above, path_in, path_of, descent_in, descent_of, last_of}
use Rattle.tree.specs.laws.Node.{sound_parts}
use Rattle.tree.specs.inner.Sound.{SoundTree}
use Rattle.tree.specs.laws.Tree.{tree_of, tree_falls}
use Rattle.tree.specs.laws.Climb.{path_steps, above_steps, above_here}
use Rattle.tree.specs.laws.Solution.{descent_steps}

-- record k, gone up to its parent so many times
unfoldable pub up_by : ℕ → List Node → ℕ → ℕ
up_by zero nodes k = k
up_by (suc n) nodes k = up_by n nodes (node_at nodes k).parent

-- some number of times comes by the target
pub record Reached (nodes : List Node) (k target : ℕ) : Type 0 where
  pub times : ℕ
  pub there : up_by times nodes k ≡ target

reached : (nodes : List Node) (target steps k : ℕ) → above_in steps nodes k target ≡ true → Reached nodes k target
unfolding above_in up_by
reached nodes target zero k e = record { times = 0; there = eqb-true k target e }
reached nodes target (suc steps) k e = go (k == target) refl e (reached nodes target steps (node_at nodes k).parent)
  where
    go : (t : Bool) → (k == target) ≡ t → t || (not (k == 0) && above_in steps nodes (node_at nodes k).parent target) ≡ true
        → (above_in steps nodes (node_at nodes k).parent target ≡ true → Reached nodes (node_at nodes k).parent target) → Reached nodes k target
    go true q e later = record { times = 0; there = eqb-true k target q }
    go false q e later = let r = later (both (not (k == 0)) _ e).1 in record { times = suc r.times; there = r.there }

module _ (nodes : List Node) (count target : ℕ) (tree : SoundTree nodes count) where
  falls : Falls nodes count
  falls = tree_falls tree

  above_more : (k : ℕ) → 0 < k → k < count → is_above nodes (node_at nodes k).parent target ≡ true → is_above nodes k target ≡ true
  unfolding above_in
  above_more zero some h e = absurd (omega arith)
  above_more (suc k) some h e =
      let below : (node_at nodes (suc k)).parent < suc k = falls (suc k) some h in
      let up = above_steps nodes count target falls k (node_at nodes (suc k)).parent (node_at nodes (suc k)).parent (omega arith) (le_refl _) (omega arith) in
      simp (eqb-suc-zero, up ∙ e, or_true)

  root_parent : (node_at nodes 0).parent ≡ 0
  root_parent = eqb-true _ 0 (both _ _ (sound_parts (tree.each 0 tree.some)).place).0

  above_by : (n k : ℕ) → k < count → up_by n nodes k ≡ target → is_above nodes k target ≡ true
  unfolding up_by
  above_by zero k h e = rw e (above_here nodes count target falls)
  above_by (suc n) zero h e = above_by n 0 h (ap (up_by n nodes) (sym root_parent) ∙ e)
  above_by (suc n) (suc k) h e =
      let below : (node_at nodes (suc k)).parent < suc k = falls (suc k) (omega arith) h in
      above_more (suc k) (omega arith) h (above_by n (node_at nodes (suc k)).parent (omega arith) e)

  ends : (steps k from : ℕ) → k ≤ steps → k < count → last_of from (path_in steps nodes k target) ≡ cond (above_in steps nodes k target) target 0
  unfolding path_in above_in
  ends zero k from l h = go (k == target) refl
    where
      go : (t : Bool) → (k == target) ≡ t → k ≡ cond t target 0
      go true e = eqb-true k target e
      go false e = omega arith
  ends (suc steps) k from l h =
      go (k == target) refl (k == 0) refl
      (λ some. let below : (node_at nodes k).parent < k = falls k some h in ends steps (node_at nodes k).parent k (omega arith) (omega arith))
    where
      go : (t : Bool) → (k == target) ≡ t → (u : Bool) → (k == 0) ≡ u
          → (0 < k → last_of k (path_in steps nodes (node_at nodes k).parent target) ≡ cond (above_in steps nodes (node_at nodes k).parent target) target 0)
          → last_of k (cond (t || u) [] (path_in steps nodes (node_at nodes k).parent target))
          ≡ cond (t || (not u && above_in steps nodes (node_at nodes k).parent target)) target 0
      go true e u f later = eqb-true k target e
      go false e true f later = eqb-true k 0 f
      go false e false f later = let other : k ≡ 0 → ⊥ = eqb-false k 0 f in later (omega arith)

-- ---- THE theorems

module _ (nodes : List Node) (count start target : ℕ) (sound : is_sound nodes count ≡ true) (used : start < count) where
  -- more steps change nothing
  pub above_enough : (steps : ℕ) → start ≤ steps → above_in steps nodes start target ≡ is_above nodes start target
  above_enough steps h = above_steps nodes count target (tree_falls (tree_of sound)) steps start start h (le_refl start) used

  pub path_enough : (steps : ℕ) → start ≤ steps → path_in steps nodes start target ≡ path_of nodes start target
  path_enough steps h = path_steps nodes count target (tree_falls (tree_of sound)) steps start start h (le_refl start) used

  -- a target that going up comes by, however late, is above, and no other is
  pub above_all : (n : ℕ) → up_by n nodes start ≡ target → is_above nodes start target ≡ true
  above_all n e = above_by nodes count target (tree_of sound) n start used e

  pub above_reached : is_above nodes start target ≡ true → Reached nodes start target
  above_reached e = reached nodes target start start e

  -- the path ends at the target if that is above, else at record 0
  pub path_ends : last_of start (path_of nodes start target) ≡ cond (is_above nodes start target) target 0
  path_ends = ends nodes count target (tree_of sound) start start start (le_refl start) used

-- the way down
pub descent_enough : (nodes : List Node) (count : ℕ) → is_sound nodes count ≡ true → (steps k : ℕ) → count ≤ steps
    → descent_in steps nodes count k ≡ descent_of nodes count k
descent_enough nodes count sound steps k h = descent_steps nodes count (tree_falls (tree_of sound)) steps count k (omega arith) (omega arith)
