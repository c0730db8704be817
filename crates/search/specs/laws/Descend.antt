-- The way down of `select`: the next record is a child, so it is above its parent and used; counted steps are enough, it ends where there is no next record,
-- and the state goes along.
-- Assumes nothing.
use Rattle.std.specs.Prelude.{◌≡◌, ℕ, zero, suc, ◌+◌, ◌<◌, ◌≤◌, Bool, true, false, cond, List, ◌==◌, nat_lt, Float}
use Rattle.std.proofs.Math.Path.{refl}
use Rattle.std.proofs.Common.{sym, ap, ◌∙◌, arith, ltb-true}
use Rattle.laws.specs.Lists.{elem}
use Rattle.laws.specs.laws.Tests.{both}
use Rattle.action.specs.Bounds.{RowBounds}
use Rattle.action.specs.Table.{attributes_of}
use Rattle.craft_context.specs.declared.context.CraftContext.{CraftContext}
use Rattle.craft_context.specs.Limits.{ContextIn}
use Rattle.craft_state.specs.Limits.{step_most}
use Rattle.step.specs.Step.{execute_of}
use Rattle.step.specs.inner.Asked.{Playable}
use Rattle.tree.specs.declared.node.Node.{Node}
use Rattle.tree.specs.Tree.{node_at, Falls, is_child, children_of, best_by, onward, last_of}
use Rattle.tree.specs.inner.Few.{follow_in, Rises}
use Rattle.tree.specs.laws.Best.{child_parent}
use Rattle.tree.specs.laws.Children.{children_each}
use Rattle.tree.specs.laws.Follow.{follow_steps}
use Rattle.tree.specs.laws.Tree.{tree_falls}
use Rattle.tree.specs.laws.Yield.{in_found}
use Rattle.search.specs.declared.options.SearchOptions.{SearchOptions}
use Rattle.search.specs.Select.{rate_at, next_of, toward, select_in, select_of, state_at}
use Rattle.search.specs.inner.Grown.{Growing}
use Rattle.search.specs.laws.States.{state_below}
use Rattle.search.specs.laws.Legal.{grown_playable}

pub child_listed : (nodes : List Node) (count k j : ℕ) → elem (children_of count nodes k) j ≡ true → (j < count) × (is_child j (node_at nodes j) k ≡ true)
child_listed nodes count k j e =
    let is = both (nat_lt j count) (is_child j (node_at nodes j) k) (sym (children_each nodes k count j) ∙ e) in
    (ltb-true j count is.0, is.1)

-- the best by any rate is a child
pub picked_child : (rate : ℕ → Float) (nodes : List Node) (count k : ℕ) → 0 < best_by rate count nodes k
    → (best_by rate count nodes k < count) × (is_child (best_by rate count nodes k) (node_at nodes (best_by rate count nodes k)) k ≡ true)
picked_child rate nodes count k some =
    child_listed nodes count k (best_by rate count nodes k) (in_found rate (children_of count nodes k) (children_of count nodes k) some).0

module _ (o : SearchOptions) (logs : List Float) (nodes : List Node) (count : ℕ) where
  abbrev next : ℕ → ℕ
  next = next_of o logs nodes count

  pub next_child : (k : ℕ) → 0 < next k → (next k < count) × (is_child (next k) (node_at nodes (next k)) k ≡ true)
  next_child k some = go ((node_at nodes k).unused == 0) some
    where
      best : ℕ
      best = best_by (rate_at o logs nodes k) count nodes k

      go : (t : Bool) → 0 < cond t best 0 → (cond t best 0 < count) × (is_child (cond t best 0) (node_at nodes (cond t best 0)) k ≡ true)
      go true some = picked_child (rate_at o logs nodes k) nodes count k some
      go false some = absurd (omega arith)

  pub next_parent : (k : ℕ) → 0 < next k → (node_at nodes (next k)).parent ≡ k
  next_parent k some = child_parent (next k) (node_at nodes (next k)) k (next_child k some).1

  module _ (falls : Falls nodes count) where
    pub next_rises : Rises next count
    next_rises =
        record {
          up = λ k some. omega (arith, falls (next k) some (next_child k some).0, next_parent k some);
          below = λ k some. (next_child k some).0;
        }

    -- ---- the way down is followed from record to record

    select_follows : (steps k : ℕ) → select_in steps o logs nodes count k ≡ last_of k (follow_in next steps k)
    unfolding select_in follow_in
    select_follows zero k = refl
    select_follows (suc steps) k = go (next k) (select_follows steps)
      where
        go : (b : ℕ) → ((b : ℕ) → select_in steps o logs nodes count b ≡ last_of b (follow_in next steps b))
            → toward k b (select_in steps o logs nodes count) ≡ last_of k (onward b (follow_in next steps))
        go zero rest = refl
        go (suc b) rest = rest (suc b)

    -- more steps than are needed change nothing
    pub select_steps : (f g k : ℕ) → count ≤ f + k → count ≤ g + k → select_in f o logs nodes count k ≡ select_in g o logs nodes count k
    select_steps f g k p q = select_follows f k ∙ ap (last_of k) (follow_steps next count next_rises f g k p q) ∙ sym (select_follows g k)

    -- step by step, for a loop
    one_step : (k : ℕ) → select_in count o logs nodes count k ≡ toward k (next k) (select_in count o logs nodes count)
    unfolding select_in
    one_step k = select_steps count (suc count) k (omega arith) (omega arith)

    pub select_stop : (k : ℕ) → next k ≡ 0 → select_in count o logs nodes count k ≡ k
    select_stop k e = one_step k ∙ ap (λ (b : ℕ). toward k b (select_in count o logs nodes count)) e

    pub select_on : (k : ℕ) → 0 < next k → select_in count o logs nodes count k ≡ select_in count o logs nodes count (next k)
    select_on k some = one_step k ∙ go (next k) some
      where
        go : (b : ℕ) → 0 < b → toward k b (select_in count o logs nodes count) ≡ select_in count o logs nodes count b
        go zero l = absurd (omega arith)
        go (suc b) l = refl

    -- ---- its end

    pub select_below : (steps k : ℕ) → k < count → select_in steps o logs nodes count k < count
    unfolding select_in
    select_below zero k h = h
    select_below (suc steps) k h = go (next k) refl (select_below steps)
      where
        go : (b : ℕ) → next k ≡ b → ((b : ℕ) → b < count → select_in steps o logs nodes count b < count) → toward k b (select_in steps o logs nodes count) < count
        go zero e rest = h
        go (suc b) e rest = rest (suc b) (omega (arith, e, next_rises.below k (omega (arith, e))))

    select_ends : (steps k : ℕ) → count ≤ steps + k → next (select_in steps o logs nodes count k) ≡ 0
    unfolding select_in
    select_ends zero k h = go (next k) refl
      where
        go : (b : ℕ) → next k ≡ b → b ≡ 0
        go zero e = refl
        go (suc b) e = absurd (omega (arith, next_rises.up k (omega (arith, e)), next_rises.below k (omega (arith, e))))
    select_ends (suc steps) k h = go (next k) refl (λ b r. select_ends steps b (omega arith))
      where
        go : (b : ℕ) → next k ≡ b → ((b : ℕ) → k < b → next (select_in steps o logs nodes count b) ≡ 0)
            → next (toward k b (select_in steps o logs nodes count)) ≡ 0
        go zero e rest = e
        go (suc b) e rest = rest (suc b) (omega (arith, e, next_rises.up k (omega (arith, e))))

    -- the selected record is used, and none comes after it
    pub selected_below : 0 < count → select_of o logs nodes count < count
    selected_below some = select_below count 0 some

    pub selected_last : next (select_of o logs nodes count) ≡ 0
    selected_last = select_ends count 0 (omega arith)

-- ---- the state is carried along: at the next record it is that after its action, which may be executed

module _ (c : CraftContext) (o : SearchOptions) (logs : List Float) (nodes : List Node) (count : ℕ) (growing : Growing c nodes count) (k : ℕ)
    (some : 0 < next_of o logs nodes count k) where
  abbrev child : ℕ
  child = next_of o logs nodes count k

  abbrev action : ℕ
  action = (node_at nodes child).action

  pub next_state : state_at c nodes child ≡ execute_of c (state_at c nodes k) action
  next_state =
      rw (next_parent o logs nodes count k some) at
      (state_below c nodes count (tree_falls growing.tree) child some (next_child o logs nodes count k some).0)

  pub next_playable : ContextIn c → c.step_max ≤ step_most
      → Playable c (state_at c nodes k) action (attributes_of action) × RowBounds action (attributes_of action)
  next_playable context byte =
      rw (next_parent o logs nodes count k some) at
      (grown_playable c nodes count growing context byte child some (next_child o logs nodes count k some).0)
