-- The state at a record: by its parent's, and the same in records with the same parents and actions.
-- Assumes nothing.
use Rattle.std.specs.Prelude.{◌≡◌, ℕ, zero, suc, ◌<◌, ◌≤◌, Bool, true, false, cond, List, ◌==◌}
use Rattle.std.proofs.Math.Path.{refl, sym, ap}
use Rattle.std.proofs.Common.{arith}
use Rattle.std.proofs.Math.Dec.{eqb-suc-zero}
use borrow.Author.Tests.{eqb-false}
use Rattle.craft_context.specs.declared.context.CraftContext.{CraftContext}
use Rattle.craft_state.specs.declared.state.CraftState.{CraftState}
use Rattle.craft_state.specs.Start.{start_of}
use Rattle.step.specs.Step.{execute_of}
use Rattle.tree.specs.declared.node.Node.{Node}
use Rattle.tree.specs.Tree.{node_at, Falls}
use Rattle.search.specs.Select.{state_in, state_at}

-- the same parents and actions below count
pub record Alike (nodes others : List Node) (count : ℕ) : Type 0 where
  pub parent : (k : ℕ) → k < count → (node_at others k).parent ≡ (node_at nodes k).parent
  pub action : (k : ℕ) → k < count → (node_at others k).action ≡ (node_at nodes k).action

at_zero : (c : CraftContext) (nodes : List Node) (g k : ℕ) → k ≤ 0 → state_in g c nodes k ≡ start_of c
unfolding state_in
at_zero c nodes zero k a = refl
at_zero c nodes (suc g) zero a = refl
at_zero c nodes (suc g) (suc k) a = absurd (omega arith)

alike_in : (c : CraftContext) (nodes others : List Node) (count : ℕ) → Falls nodes count → Alike nodes others count
    → (f k : ℕ) → k < count → state_in f c others k ≡ state_in f c nodes k
unfolding state_in
alike_in c nodes others count falls alike zero k h = refl
alike_in c nodes others count falls alike (suc f) k h = go (k == 0) refl (alike_in c nodes others count falls alike f)
  where
    go : (t : Bool) → (k == 0) ≡ t → ((j : ℕ) → j < count → state_in f c others j ≡ state_in f c nodes j)
        → cond t (start_of c) (execute_of c (state_in f c others (node_at others k).parent) (node_at others k).action)
        ≡ cond t (start_of c) (execute_of c (state_in f c nodes (node_at nodes k).parent) (node_at nodes k).action)
    go true e rest = refl
    go false e rest =
        let some : k ≡ 0 → ⊥ = eqb-false k 0 e in
        let up : (node_at nodes k).parent < k = falls k (omega arith) h in
        rw (alike.parent k h, alike.action k h, rest (node_at nodes k).parent (omega arith)) refl

module _ (c : CraftContext) where
  pub state_root : (nodes : List Node) → state_at c nodes 0 ≡ start_of c
  unfolding state_in
  state_root nodes = refl

  module _ (nodes : List Node) (count : ℕ) (falls : Falls nodes count) where
    -- so many steps or more are enough
    enough : (f g k : ℕ) → k ≤ f → k ≤ g → k < count → state_in f c nodes k ≡ state_in g c nodes k
    unfolding state_in
    enough zero g k a b h = sym (at_zero c nodes g k a)
    enough (suc f) zero k a b h = at_zero c nodes (suc f) k b
    enough (suc f) (suc g) k a b h = go (k == 0) refl (enough f g)
      where
        go : (t : Bool) → (k == 0) ≡ t → ((j : ℕ) → j ≤ f → j ≤ g → j < count → state_in f c nodes j ≡ state_in g c nodes j)
            → cond t (start_of c) (execute_of c (state_in f c nodes (node_at nodes k).parent) (node_at nodes k).action)
            ≡ cond t (start_of c) (execute_of c (state_in g c nodes (node_at nodes k).parent) (node_at nodes k).action)
        go true e rest = refl
        go false e rest =
            let some : k ≡ 0 → ⊥ = eqb-false k 0 e in
            let up : (node_at nodes k).parent < k = falls k (omega arith) h in
            ap (λ (s : CraftState). execute_of c s (node_at nodes k).action) (rest (node_at nodes k).parent (omega arith) (omega arith) (omega arith))

    pub state_below : (k : ℕ) → 0 < k → k < count → state_at c nodes k ≡ execute_of c (state_at c nodes (node_at nodes k).parent) (node_at nodes k).action
    unfolding state_in
    state_below zero some h = absurd (omega arith)
    state_below (suc k) some h =
        let up : (node_at nodes (suc k)).parent < suc k = falls (suc k) some h in
        rw eqb-suc-zero
        (ap (λ (s : CraftState). execute_of c s (node_at nodes (suc k)).action) (enough k (node_at nodes (suc k)).parent (node_at nodes (suc k)).parent (omega arith) (omega arith) (omega arith)))

    pub state_alike : (others : List Node) → Alike nodes others count → (k : ℕ) → k < count → state_at c others k ≡ state_at c nodes k
    state_alike others alike k h = alike_in c nodes others count falls alike k k h
