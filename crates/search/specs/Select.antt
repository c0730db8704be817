-- Document 02, E7: "Port `search_oneshot` with `select`, `ucb1` and `expand_and_rollout`"; "in place of `ln` a table of f32 for whole visits". From record 0
-- on, while a record has no unused moves and has children, to the child of greatest ucb1, the last of equals; and the state at a record.
-- Assumes nothing.
use Rattle.std.specs.Prelude.{ℕ, zero, suc, ◌-◌, cond, List, ◌==◌, Float}
use Rattle.std.specs.Float.Ieee.{to_unsigned}
use Rattle.craft_context.specs.declared.context.CraftContext.{CraftContext}
use Rattle.craft_state.specs.declared.state.CraftState.{CraftState}
use Rattle.craft_state.specs.Start.{start_of}
use Rattle.step.specs.Step.{execute_of}
use Rattle.rates.specs.declared.Weights.{Weights}
use Rattle.rates.specs.Best.{rate_of}
use Rattle.tree.specs.declared.node.Node.{Node}
use Rattle.tree.specs.Tree.{node_at, best_by}
use Rattle.search.specs.declared.options.SearchOptions.{SearchOptions}
use Rattle.search.specs.Options.{log_at}

-- ---- the child of greatest ucb1

-- the logarithm of the visits of a record that was visited
abbrev pub ln_of : List Float → Float → Float
ln_of logs visits = log_at logs (to_unsigned 64 visits - 1)

-- what the children of one record are rated by, with the logarithm of its visits
abbrev pub weights_of : SearchOptions → Float → Weights
weights_of o ln = record { w = o.max_score_weighting_constant; c = o.exploration_constant; ln = ln }

-- the ucb1 of child k
abbrev pub rate_at : SearchOptions → List Float → List Node → ℕ → ℕ → Float
rate_at o logs nodes parent k =
    rate_of (node_at nodes k).visits (node_at nodes k).score_sum (node_at nodes k).max_score (weights_of o (ln_of logs (node_at nodes parent).visits))

-- the record that comes after record k; 0 where the way down ends, since record 0 is no child
abbrev pub next_of : SearchOptions → List Float → List Node → ℕ → ℕ → ℕ
next_of o logs nodes count k = cond ((node_at nodes k).unused == 0) (best_by (rate_at o logs nodes k) count nodes k) 0

-- ---- the way down: a child is above its parent, so count steps reach its end

abbrev pub toward : ℕ → ℕ → (ℕ → ℕ) → ℕ
toward k zero rest = k
toward k (suc next) rest = rest (suc next)

unfoldable pub select_in : ℕ → SearchOptions → List Float → List Node → ℕ → ℕ → ℕ
select_in zero o logs nodes count k = k
select_in (suc steps) o logs nodes count k = toward k (next_of o logs nodes count k) (select_in steps o logs nodes count)

abbrev pub select_of : SearchOptions → List Float → List Node → ℕ → ℕ
select_of o logs nodes count = select_in count o logs nodes count 0

-- ---- the state at record k: its action, executed in the state at its parent, which is below it

unfoldable pub state_in : ℕ → CraftContext → List Node → ℕ → CraftState
state_in zero c nodes k = start_of c
state_in (suc steps) c nodes k = cond (k == 0) (start_of c) (execute_of c (state_in steps c nodes (node_at nodes k).parent) (node_at nodes k).action)

abbrev pub state_at : CraftContext → List Node → ℕ → CraftState
state_at c nodes k = state_in k c nodes k
