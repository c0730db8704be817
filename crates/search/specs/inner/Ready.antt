-- For the contracts of inner functions: what each step of an iteration asks, and what it answers.
-- Assumes nothing.
use Rattle.std.specs.Prelude.{◌≡◌, ℕ, zero, suc, ◌+◌, ◌-◌, ◌<◌, ◌≤◌, true, cond, List, [], ◌∷◌, length, drop, nat_le, Float, Result, Ok, Err}
use Rattle.std.specs.Float.Ieee.{to_unsigned}
use Rattle.refusal.specs.declared.Refusal.{Refusal}
use Rattle.refusal.specs.declared.Refusal.TheVariants.{NoRoom}
use Rattle.refusal.specs.Judge.{Checked}
use Rattle.action_set.specs.Sets.{size_of}
use Rattle.craft_context.specs.declared.context.CraftContext.{CraftContext}
use Rattle.craft_state.specs.declared.state.CraftState.{CraftState}
use Rattle.craft_state.specs.Inside.{CraftIn}
use Rattle.craft_state.specs.Start.{start_of}
use Rattle.moves.specs.Modes.{plain}
use Rattle.moves.specs.Moves.{moves_of}
use Rattle.score.specs.declared.result.CraftResult.{CraftResult}
use Rattle.rollout.specs.Rollout.{Rolled, rolled_from, sampled_of, drawn_state, strict_moves}
use Rattle.tree.specs.declared.node.Node.{Node}
use Rattle.tree.specs.Sound.{is_count}
use Rattle.tree.specs.Tree.{node_at, back_of, planted_of}
use Rattle.tree.specs.Refusals.{new_count}
use Rattle.tree.specs.inner.Sound.{SoundTree}
use Rattle.search.specs.declared.options.SearchOptions.{SearchOptions}
use Rattle.search.specs.declared.select.Chosen.{Chosen}
use Rattle.search.specs.declared.plan.Plan.{Plan}
use Rattle.search.specs.declared.iterate.Turned.{Turned}
use Rattle.search.specs.declared.entry.Progress.{Progress}
use Rattle.search.specs.Options.{iterations_most}
use Rattle.search.specs.Select.{ln_of, weights_of, select_of, state_at}
use Rattle.search.specs.Iterate.{score_in, is_worth, stored_of, store_of, last_stored, Turn, Goes, Stops}
use Rattle.search.specs.Search.{Outcome, grow_from, progress_of}
use Rattle.search.specs.inner.Asked.{Asked}
use Rattle.search.specs.inner.Links.{Links}
use Rattle.search.specs.inner.Newest.{FairChildren}
use Rattle.search.specs.inner.Grown.{Growing, Visited}

-- ---- the records of a search between two iterations, with their index

pub record Ready (c : CraftContext) (o : SearchOptions) (logs : List Float) (nodes : List Node) (count : ℕ) (links : List ℕ) : Type 0 where
  pub done : ℕ
  pub asked : Asked c o logs
  pub growing : Growing c nodes count
  pub visited : Visited nodes count done
  pub few : done < iterations_most
  pub index : Links nodes count links

-- ---- select

-- what looking up the logarithm of a record's visits asks
pub record Logged (logs : List Float) (visits : Float) : Type 0 where
  pub whole : is_count visits ≡ true
  pub most : to_unsigned 64 visits ≤ iterations_most
  pub table : iterations_most ≤ length logs

-- what finding the child of record k asks
pub record Rating (o : SearchOptions) (logs : List Float) (nodes : List Node) (count : ℕ) (links : List ℕ) (k : ℕ) : Type 0 where
  pub tree : SoundTree nodes count
  pub inside : k < count
  pub logged : Logged logs (node_at nodes k).visits
  pub fair : FairChildren nodes count k (weights_of o (ln_of logs (node_at nodes k).visits))
  pub index : Links nodes count links

abbrev pub chosen_of : CraftContext → SearchOptions → List Float → List Node → ℕ → Chosen
chosen_of c o logs nodes count = record { at = select_of o logs nodes count; state = state_at c nodes (select_of o logs nodes count) }

-- ---- the plan of an iteration

abbrev pub passed_plan : CraftResult → ℕ → ℕ → Plan
passed_plan result end stored = record { stored = stored; score = score_in result; at = end }

abbrev pub plan_room : ℕ → ℕ → CraftResult → ℕ → ℕ → Result Plan Refusal
plan_room count records result end stored = cond (nat_le (count + stored) records) (Ok (passed_plan result end stored)) (Err (NoRoom (count + stored)))

abbrev pub plan_by : Float → Float → ℕ → ℕ → ℕ → Rolled → Result Plan Refusal
plan_by threshold best count records at (Ok (result, end)) = plan_room count records result end (stored_of (is_worth threshold best result) (end - at))
plan_by threshold best count records at (Err x) = Err x

abbrev pub plan_of : CraftContext → Float → CraftState → ℕ → Float → ℕ → ℕ → ℕ → List ℕ → Result Plan Refusal
plan_of c threshold s unused best count records at draws = plan_by threshold best count records at (rolled_from c s unused at (drop at draws))

-- ---- what it stores

-- each of the first so many draws is below the size of the set that it is of
unfoldable pub Drawable : CraftContext → CraftState → ℕ → ℕ → List ℕ → Type 0
Drawable c s set zero draws = Unit {0}
Drawable c s set (suc n) [] = ⊥
Drawable c s set (suc n) (d ∷ draws) = (d < size_of set) × Drawable c (drawn_state c s set d) (strict_moves c (drawn_state c s set d)) n draws

pub record Storing (c : CraftContext) (s : CraftState) (nodes : List Node) (count k : ℕ) (links draws : List ℕ) (at stored : ℕ) : Type 0 where
  pub growing : Growing c nodes count
  pub craft : CraftIn c s
  pub inside : k < count
  pub state : s ≡ state_at c nodes k
  pub room : count + stored ≤ length nodes
  pub draws_left : at + stored ≤ length draws
  pub drawable : Drawable c s (node_at nodes k).unused stored (drop at draws)
  pub index : Links nodes count links

-- the records after it, their index, and the last of them
pub record Stores (c : CraftContext) (s : CraftState) (nodes : List Node) (count k : ℕ) (draws : List ℕ) (at stored : ℕ) (r : ℕ) (after : List Node)
    (index : List ℕ) : Type 0 where
  pub last : r ≡ last_stored count k stored
  pub inside : r < count + stored
  pub growing : Growing c after (count + stored)
  pub records : after ≡ store_of c nodes count k s (sampled_of c s (node_at nodes k).unused stored (drop at draws))
  pub links : Links after (count + stored) index

-- and after the score was propagated from there
pub record Carried (c : CraftContext) (s : CraftState) (nodes : List Node) (count k : ℕ) (draws : List ℕ) (at stored : ℕ) (score : Float) (after : List Node)
    (index : List ℕ) : Type 0 where
  pub records : after
      ≡ back_of (store_of c nodes count k s (sampled_of c s (node_at nodes k).unused stored (drop at draws))) (last_stored count k stored) 0 score
  pub links : Links after (count + stored) index

-- ---- an iteration

-- one that is refused leaves the records and their index
abbrev pub turned_of : Turn → Result Turned Refusal
turned_of (Goes g) = Ok (record { count = g.count; at = g.at })
turned_of (Stops x) = Err x

abbrev pub records_after : List Node → Turn → List Node
records_after nodes (Goes g) = g.nodes
records_after nodes (Stops x) = nodes

abbrev pub count_after : ℕ → Turn → ℕ
count_after count (Goes g) = g.count
count_after count (Stops x) = count

pub record Turns (nodes : List Node) (count : ℕ) (turn : Turn) (r : Result Turned Refusal) (after : List Node) (index : List ℕ) : Type 0 where
  pub answer : r ≡ turned_of turn
  pub records : after ≡ records_after nodes turn
  pub links : Links after (count_after count turn) index

-- ---- the iterations

-- before them: the tree that was planted
pub record Started (c : CraftContext) (o : SearchOptions) (logs : List Float) (nodes : List Node) : Type 0 where
  pub asked : Asked c o logs
  pub before : List Node
  pub some : 0 < length before
  pub planted : nodes ≡ planted_of before (moves_of c (start_of c) plain)

-- what they come to
abbrev pub outcome_from : CraftContext → SearchOptions → List Float → List ℕ → List Node → Outcome
outcome_from c o logs draws nodes = grow_from c o logs draws o.iterations (record { nodes = nodes; count = new_count; at = 0 }) 0

-- what was done, and what stopped it
abbrev pub grown_by : Checked → Progress → Result Progress (Refusal × Progress)
grown_by (Ok u) done = Ok done
grown_by (Err x) done = Err (x, done)

pub record GrowsTo (c : CraftContext) (o : SearchOptions) (logs : List Float) (draws : List ℕ) (nodes : List Node) (r : Result Progress (Refusal × Progress))
    (after : List Node) : Type 0 where
  pub answer : r ≡ grown_by (outcome_from c o logs draws nodes).checked (progress_of (outcome_from c o logs draws nodes))
  pub records : after ≡ (outcome_from c o logs draws nodes).growth.nodes
