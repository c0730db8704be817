-- A whole list of actions stored, each a record below the one before: the records are those of a search again, the old ones keep all but unused moves, and the
-- new ones are a chain that was never visited, all of it on the way from its last record up to record 0.
-- Assumes nothing.
use Rattle.std.specs.Prelude.{◌≡◌, ℕ, zero, suc, ◌+◌, ◌-◌, ◌<◌, ◌≤◌, true, List, [], ◌∷◌, length, refl}
use Rattle.std.proofs.Common.{sym, ap, subst, ◌∙◌, ⊎_elim, add-zero}
use native.Mathlib.Omega.{arith}
use Rattle.std.proofs.Math.Dec.{eqb-suc-zero}
use Rattle.laws.specs.Bits.{has}
use Rattle.laws.specs.Lists.{elem}
use Rattle.craft_context.specs.declared.context.CraftContext.{CraftContext}
use Rattle.craft_state.specs.declared.state.CraftState.{CraftState}
use Rattle.step.specs.Step.{execute_of}
use Rattle.moves.specs.Moves.{moves_of}
use Rattle.moves.specs.Modes.{strict}
use Rattle.rollout.specs.laws.RolledSampled.{Sampled}
use Rattle.tree.specs.declared.node.Node.{Node}
use Rattle.tree.specs.Node.{plus_zero, node_of}
use Rattle.tree.specs.Tree.{node_at, path_of}
use Rattle.tree.specs.laws.Tree.{last_or_below, tree_falls}
use Rattle.search.specs.Select.{state_at}
use Rattle.search.specs.Iterate.{below_of, store_of, last_stored}
use Rattle.search.specs.inner.Grown.{Growing}
use Rattle.tree.specs.laws.Upward.{path_starts, path_longer}
use Rattle.search.specs.laws.Below.{left_with, below_length, below_new, below_kept, below_state, below_growing}

-- n records more, below record k
pub record Stored (c : CraftContext) (nodes : List Node) (count k n : ℕ) (after : List Node) : Type 0 where
  pub growing : Growing c after (count + n)
  pub long : length after ≡ length nodes
  pub kept : (j : ℕ) → j < count → node_at after j ≡ left_with (node_at nodes j) (node_at after j).unused
  pub fresh : (i : ℕ) → i < n → (node_at after (count + i)).visits ≡ plus_zero
  -- the parent of the first is record k, and of each other the one before
  pub chain : (i : ℕ) → i < n → (node_at after (count + i)).parent ≡ last_stored count k i

last_more : (count k i : ℕ) → last_stored (suc count) count i ≡ last_stored count k (suc i)
last_more count k zero = omega arith
last_more count k (suc i) = rw (eqb-suc-zero, eqb-suc-zero) (omega arith)

-- the first of them
abbrev one_below : CraftContext → List Node → ℕ → ℕ → ℕ → List Node
one_below c nodes count k action = below_of nodes count k action (moves_of c (execute_of c (state_at c nodes k) action) strict)

module _ (c : CraftContext) where
  stored_none : (nodes : List Node) (count k : ℕ) → Growing c nodes count → Stored c nodes count k 0 nodes
  stored_none nodes count k growing =
      record {
        growing = rw add-zero growing;
        long = refl;
        kept = λ j h. refl;
        fresh = λ i h. absurd (omega arith);
        chain = λ i h. absurd (omega arith);
      }

  module _ (nodes : List Node) (count k action n : ℕ) (growing : Growing c nodes count) (inside : k < count) (room : count < length nodes)
      (is : has (node_at nodes k).unused action ≡ true) where
    -- the first, and then the rest below it
    stored_next : {after : List Node} → Stored c (one_below c nodes count k action) (suc count) count n after → Stored c nodes count k (suc n) after
    stored_next {after} rest =
        record {
          growing = subst (Growing c after) (sym next) rest.growing;
          long = rest.long ∙ below_length nodes count k action _;
          kept = λ j h.
              rest.kept j (omega arith) ∙ ap (λ (n : Node). left_with n (node_at after j).unused) (below_kept nodes count k action _ inside room j h);
          fresh = fresh;
          chain = chain;
        }
      where
        next : count + suc n ≡ suc count + n
        next = omega arith

        shift : (i : ℕ) → count + suc i ≡ suc count + i
        shift i = omega arith

        moves : ℕ
        moves = moves_of c (execute_of c (state_at c nodes k) action) strict

        first : node_at after (count + 0) ≡ left_with (node_of k action moves) (node_at after (count + 0)).unused
        first = rw add-zero (rw (below_new nodes count k action moves inside room) at (rest.kept count (omega arith)))

        fresh : (i : ℕ) → i < suc n → (node_at after (count + i)).visits ≡ plus_zero
        fresh zero h = ap (λ (m : Node). m.visits) first
        fresh (suc i) h = rw (shift i) (rest.fresh i (omega arith))

        chain : (i : ℕ) → i < suc n → (node_at after (count + i)).parent ≡ last_stored count k i
        chain zero h = ap (λ (m : Node). m.parent) first
        chain (suc i) h = ap (λ (j : ℕ). (node_at after j).parent) (shift i) ∙ rest.chain i (omega arith) ∙ last_more count k i

  -- THE law of what is stored
  pub stored : (actions : List ℕ) (nodes : List Node) (count k : ℕ) (s : CraftState) → Growing c nodes count → k < count → s ≡ state_at c nodes k
      → Sampled c s (node_at nodes k).unused actions → count + length actions ≤ length nodes
      → Stored c nodes count k (length actions) (store_of c nodes count k s actions)
  unfolding store_of Sampled
  stored [] nodes count k s growing inside here sampled room = stored_none nodes count k growing
  stored (action ∷ rest) nodes count k s growing inside here sampled room =
      let l : count < length nodes = omega arith in
      rw here
      (stored_next nodes count k action (length rest) growing inside l sampled.0
      (stored rest (one_below c nodes count k action) (suc count) count (execute_of c (state_at c nodes k) action)
      (below_growing c nodes count k action growing inside l sampled.0) (omega arith)
      (sym (below_state c nodes count k action growing inside l sampled.0))
      (rw (below_new nodes count k action (moves_of c (execute_of c (state_at c nodes k) action) strict) inside l) (rw here at sampled.1))
      (rw below_length (omega arith))))

-- ---- the way up from the last of them

pub last_is : (count k m : ℕ) → last_stored count k (suc m) ≡ count + m
last_is count k m = rw eqb-suc-zero (omega arith)

pub last_inside : (count k n : ℕ) → k < count → last_stored count k n < count + n
last_inside count k zero h = rw add-zero h
last_inside count k (suc m) h = rw last_is (omega arith)

module _ {c : CraftContext} {nodes : List Node} {count k n : ℕ} {after : List Node} (st : Stored c nodes count k n after) where
  chain_up : (m i : ℕ) → i ≤ m → m < n → elem (path_of after (count + m) 0) (count + i) ≡ true
  chain_up zero i a h = let e : i ≡ 0 = omega arith in rw e (path_starts after (count + 0) 0)
  chain_up (suc m) i a h = ⊎_elim here (λ l. above (chain_up m i (omega arith) (omega arith))) (last_or_below i (suc m) (omega arith))
    where
      here : i ≡ suc m → elem (path_of after (count + suc m) 0) (count + i) ≡ true
      here e = rw e (path_starts after (count + suc m) 0)

      above : elem (path_of after (count + m) 0) (count + i) ≡ true → elem (path_of after (count + suc m) 0) (count + i) ≡ true
      above is =
          path_longer after (count + n) (tree_falls st.growing.tree) (count + suc m) (omega arith) (omega arith) (count + i)
          (rw (st.chain (suc m) h ∙ last_is count k m) is)

  -- each new record is on it
  pub stored_path : (j : ℕ) → count ≤ j → j < count + n → elem (path_of after (last_stored count k n) 0) j ≡ true
  stored_path j a b = go n refl
    where
      go : (t : ℕ) → n ≡ t → elem (path_of after (last_stored count k t) 0) j ≡ true
      go zero e = absurd (omega arith)
      go (suc m) e =
          let split : count + (j - count) ≡ j = omega arith in
          rw (last_is count k m, ← split) (chain_up m (j - count) (omega arith) (omega arith))
