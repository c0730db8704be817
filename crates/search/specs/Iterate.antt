-- Document 02, E7: "Port `search_oneshot` with `select`, `ucb1` and `expand_and_rollout`"; "An iteration that is refused stores nothing". One iteration, a pure
-- step on the records, their count and the draws used: it selects, rolls out, stores one record or the whole path, and propagates back.
-- Assumes nothing.
use Rattle.std.specs.Prelude.{ℕ, suc, ◌+◌, ◌-◌, Bool, false, cond, ◌&&◌, List, [], ◌∷◌, length, drop, ◌==◌, nat_le, slice_set, Float, Ok, Err}
use Rattle.std.specs.Float.Ieee.{le}
use Rattle.refusal.specs.declared.Refusal.{Refusal}
use Rattle.refusal.specs.declared.Refusal.TheVariants.{NoRoom}
use Rattle.action_set.specs.Sets.{without_of}
use Rattle.craft_context.specs.declared.context.CraftContext.{CraftContext}
use Rattle.craft_state.specs.declared.state.CraftState.{CraftState}
use Rattle.step.specs.Step.{execute_of}
use Rattle.moves.specs.Moves.{moves_of}
use Rattle.moves.specs.Modes.{strict}
use Rattle.score.specs.declared.result.CraftResult.{CraftResult}
use Rattle.score.specs.declared.result.CraftResult.TheVariants as R
use Rattle.rollout.specs.Rollout.{Rolled, rolled_from, sampled_of}
use Rattle.tree.specs.declared.node.Node.{Node}
use Rattle.tree.specs.Node.{plus_zero}
use Rattle.tree.specs.Tree.{node_at, inserted_of, back_of, max_at}
use Rattle.search.specs.declared.options.SearchOptions.{SearchOptions}
use Rattle.search.specs.Select.{select_of, state_at}

-- ---- what a rollout's result means

-- the score where finished, else +0
abbrev pub score_in : CraftResult → Float
score_in (R.Finished score) = score
score_in R.DurabilityFailure = plus_zero
score_in R.MaxStepsFailure = plus_zero
score_in R.InvalidActionFailure = plus_zero
score_in R.Continuing = plus_zero

-- finished with a score at least the threshold and at least the best so far
abbrev pub is_worth : Float → Float → CraftResult → Bool
is_worth threshold best (R.Finished score) = le threshold score && le best score
is_worth threshold best R.DurabilityFailure = false
is_worth threshold best R.MaxStepsFailure = false
is_worth threshold best R.InvalidActionFailure = false
is_worth threshold best R.Continuing = false

-- of so many draws: a record for each, or for the first alone; with no draw there is none
abbrev pub stored_of : Bool → ℕ → ℕ
stored_of whole used = cond whole used (cond (used == 0) 0 1)

-- ---- what is stored: records below record k, each below the one before, which loses the action

abbrev pub drawn_from : Node → ℕ → Node
drawn_from n action =
    record {
      parent = n.parent;
      action = n.action;
      visits = n.visits;
      score_sum = n.score_sum;
      max_score = n.max_score;
      unused = without_of n.unused action;
    }

-- one record, in whose state these are the moves
abbrev pub below_of : List Node → ℕ → ℕ → ℕ → ℕ → List Node
below_of nodes count k action moves = inserted_of (slice_set nodes k (drawn_from (node_at nodes k) action)) count k action moves

unfoldable pub store_of : CraftContext → List Node → ℕ → ℕ → CraftState → List ℕ → List Node
store_of c nodes count k s [] = nodes
store_of c nodes count k s (action ∷ rest) =
    store_of c (below_of nodes count k action (moves_of c (execute_of c s action) strict)) (suc count) count (execute_of c s action) rest

-- the last of them, or record k where there is none
abbrev pub last_stored : ℕ → ℕ → ℕ → ℕ
last_stored count k stored = cond (stored == 0) k (count + stored - 1)

-- ---- an iteration

-- the records, how many are used, and how many draws were
pub record Growth : Type 0 where
  pub nodes : List Node
  pub count : ℕ
  pub at : ℕ

pub data Turn : Type 0 where
  Goes : Growth → Turn
  Stops : Refusal → Turn

module _ (c : CraftContext) (o : SearchOptions) (logs : List Float) (draws : List ℕ) where
  -- from the selected record on
  abbrev pub selected_of : Growth → ℕ
  selected_of g = select_of o logs g.nodes g.count

  abbrev pub selected_state : Growth → CraftState
  selected_state g = state_at c g.nodes (selected_of g)

  abbrev pub unused_of : Growth → ℕ
  unused_of g = (node_at g.nodes (selected_of g)).unused

  -- the rollout, whose first draw is of the record's unused moves
  abbrev pub rolled_of : Growth → Rolled
  rolled_of g = rolled_from c (selected_state g) (unused_of g) g.at (drop g.at draws)

  -- the actions that so many draws name
  abbrev pub path_from : Growth → ℕ → List ℕ
  path_from g stored = sampled_of c (selected_state g) (unused_of g) stored (drop g.at draws)

  abbrev pub grown_of : Growth → CraftResult → ℕ → ℕ → Growth
  grown_of g result end stored =
      record {
        nodes = back_of (store_of c g.nodes g.count (selected_of g) (selected_state g) (path_from g stored))
            (last_stored g.count (selected_of g) stored) 0 (score_in result);
        count = g.count + stored;
        at = end;
      }

  abbrev pub room_for : Growth → CraftResult → ℕ → ℕ → Turn
  room_for g result end stored = cond (nat_le (g.count + stored) (length g.nodes)) (Goes (grown_of g result end stored)) (Stops (NoRoom (g.count + stored)))

  abbrev pub turn_by : Growth → Rolled → Turn
  turn_by g (Ok (result, end)) = room_for g result end (stored_of (is_worth o.score_storage_threshold (max_at g.nodes 0) result) (end - g.at))
  turn_by g (Err x) = Stops x

  unfoldable pub iterate_of : Growth → Turn
  iterate_of g = turn_by g (rolled_of g)
