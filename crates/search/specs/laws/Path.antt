-- THE theorem of the path: from the records of a search, a plain replay executes the actions of `solution` whole, and comes to the state at the last record.
-- Assumes nothing.
use Rattle.std.specs.Prelude.{◌≡◌, ℕ, zero, suc, ◌<◌, ◌≤◌, true, List, [], ◌∷◌, length}
use Rattle.std.proofs.Math.Path.{refl, sym, ap}
use Rattle.std.proofs.Common.{◌∙◌, le_refl, le_antisymm, arith, lt-ltb, leb-true}
use Rattle.std.proofs.Math.Seq.{take-length}
use Rattle.laws.specs.Bits.{has}
use Rattle.laws.specs.laws.Tests.{and_both}
use Rattle.action.specs.Known.{actions, all_known, known_front}
use Rattle.action.specs.Table.{attributes_of}
use Rattle.action.specs.laws.Bounds.{rows_bounded}
use Rattle.action.specs.laws.Known.{all_front}
use Rattle.craft_context.specs.declared.context.CraftContext.{CraftContext}
use Rattle.craft_context.specs.Limits.{ContextIn}
use Rattle.craft_state.specs.declared.state.CraftState.{CraftState}
use Rattle.craft_state.specs.Limits.{step_most}
use Rattle.craft_state.specs.Start.{start_of}
use Rattle.step.specs.Step.{execute_of}
use Rattle.moves.specs.Modes.{plain}
use Rattle.moves.specs.Moves.{moves_of}
use Rattle.moves.specs.laws.Moves.{legal_known}
use Rattle.simulator.specs.declared.replay.Replay.{Replay}
use Rattle.simulator.specs.Replay.{replay_of}
use Rattle.simulator.specs.Promise.{after, EachLegal, PromiseBy}
use Rattle.simulator.specs.inner.Known.{AllKnown}
use Rattle.simulator.specs.laws.Promise.{promised}
use Rattle.tree.specs.declared.node.Node.{Node}
use Rattle.tree.specs.Tree.{node_at, best_of, onward, descent_in, actions_of, last_of, solution_of, end_of}
use Rattle.tree.specs.laws.Best.{child_parent, best_listed}
use Rattle.tree.specs.laws.Tree.{tree_falls}
use Rattle.search.specs.Select.{state_at}
use Rattle.search.specs.inner.Grown.{Growing}
use Rattle.search.specs.laws.States.{state_root, state_below}
use Rattle.search.specs.laws.Legal.{plain_part}

-- the actions of a list are each legal from a state on, and lead to another
abbrev Leads : CraftContext → CraftState → List ℕ → CraftState → Type 0
Leads c s list end = EachLegal attributes_of c plain s list × (after attributes_of c s list ≡ end)

leads_known : (c : CraftContext) (s : CraftState) (list : List ℕ) → EachLegal attributes_of c plain s list → AllKnown list
unfolding EachLegal
leads_known c s [] l = tt
leads_known c s (n ∷ rest) l = (legal_known attributes_of c s plain n l.0, leads_known c (execute_of c s n) rest l.1)

-- as a test of the whole list
all_true : (list : List ℕ) → AllKnown list → all_known list ≡ true
all_true [] k = refl
all_true (n ∷ rest) k = and_both (lt-ltb n actions k.0) (all_true rest k.1)

module _ (c : CraftContext) (nodes : List Node) (count : ℕ) (growing : Growing c nodes count) where
  -- one record down
  leads_on : (k b : ℕ) → 0 < b → b < count → (node_at nodes b).parent ≡ k → (path : List ℕ) (end : CraftState)
      → Leads c (state_at c nodes b) (actions_of nodes path) end → Leads c (state_at c nodes k) (actions_of nodes (b ∷ path)) end
  unfolding EachLegal after
  leads_on k b some h e path end rest =
      let next : execute_of c (state_at c nodes k) (node_at nodes b).action ≡ state_at c nodes b =
      sym (rw e at (state_below c nodes count (tree_falls growing.tree) b some h)) in
      let legal : has (moves_of c (state_at c nodes k) plain) (node_at nodes b).action ≡ true =
      plain_part c (state_at c nodes k) k (node_at nodes b).action (rw e at (growing.legal b some h)) in
      ((legal, rw next rest.0), ap (λ (s : CraftState). after attributes_of c s (actions_of nodes path)) next ∙ rest.1)

  -- from record k on along these records
  abbrev LeadsBy : ℕ → List ℕ → Type 0
  LeadsBy k path = Leads c (state_at c nodes k) (actions_of nodes path) (state_at c nodes (last_of k path))

  leads_down : (steps k : ℕ) → LeadsBy k (descent_in steps nodes count k)
  unfolding descent_in EachLegal after
  leads_down zero k = (tt, refl)
  leads_down (suc steps) k = go (best_of count nodes k) refl (leads_down steps)
    where
      go : (b : ℕ) → best_of count nodes k ≡ b → ((b : ℕ) → LeadsBy b (descent_in steps nodes count b)) → LeadsBy k (onward b (descent_in steps nodes count))
      go zero e rest = (tt, refl)
      go (suc b) e rest =
          let child = rw e at (best_listed nodes count k (omega (arith, e))) in
          leads_on k (suc b) (omega arith) child.0 (child_parent (suc b) (node_at nodes (suc b)) k child.1) (descent_in steps nodes count (suc b))
          (state_at c nodes (last_of (suc b) (descent_in steps nodes count (suc b)))) (rest (suc b))

  path_leads : Leads c (start_of c) (solution_of nodes count) (state_at c nodes (end_of nodes count))
  path_leads = rw state_root at (leads_down count 0)

  -- its actions are known
  pub path_known : length (solution_of nodes count) ≤ known_front (solution_of nodes count)
  path_known =
      let path : List ℕ = solution_of nodes count in
      leb-true (length path) (known_front path) (sym (all_front path) ∙ all_true path (leads_known c (start_of c) path path_leads.0))

  module _ (context : ContextIn c) (byte : c.step_max ≤ step_most) where
    abbrev path : List ℕ
    path = solution_of nodes count

    abbrev replay : Replay
    replay = replay_of c plain path

    promise : PromiseBy attributes_of c plain path replay
    promise = promised attributes_of rows_bounded c plain context byte path (leads_known c (start_of c) path path_leads.0)

    -- every action of the path is executed
    pub path_whole : replay.executed ≡ length path
    path_whole =
        le_antisymm promise.executed.part
        (promise.executed.longest (length path) (le_refl (length path)) (rw (take-length path) path_leads.0))

    -- and the state is the one at the last record
    pub path_state : replay.state ≡ state_at c nodes (end_of nodes count)
    path_state = promise.state ∙ rw (path_whole, take-length path) path_leads.1

    -- so it has at most 255 actions
    pub path_short : length path ≤ step_most
    path_short = rw (← path_whole) promise.few
