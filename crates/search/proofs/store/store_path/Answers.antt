-- `search::store::store_path` meets its contract: the loop's state is how many records are stored, the last of them, the state there, the records and the index.
-- Assumes nothing.
use Rattle.std.proofs.Common.{◌≡◌, ◌+◌, ℕ, slice_index, sym, ap, ◌∙◌, subst}
use Rattle.action.specs.Table.{attributes_of}
use Rattle.action_set.specs.Sets.{nth_of}
use Rattle.craft_state.specs.Inside.{CraftIn}
use Rattle.step.specs.Step.{execute_of}
use Rattle.step.specs.inner.Asked.{Playable}
use Rattle.tree.specs.declared.node.Node.{Node}
use Rattle.tree.specs.Tree.{node_at}
use Rattle.search.specs.Iterate.{below_of}
use Rattle.search.specs.laws.Storing.{store_draw, store_room, store_set, store_low, store_playable, store_craft, part_first, part_on, part_more, part_all}
use Rattle.search.proofs.store.store_path.Goals as goal
use Rattle.search.proofs.store.store_path.Goals.{After-sampled-action}

-- what is left of the path at an iteration of the loop, and the action that its draw names
named : (c : After-sampled-action) → c.sampled-action.result ≡ nth_of (node_at c.loop-i.nodes c.loop-i.end).unused (slice_index c.args.draws.now (c.args.at + c.loop-i.i))
named c = c.sampled-action.ensures.0 ∙ ap (λ (m : Node). nth_of m.unused (slice_index c.args.draws.now (c.args.at + c.loop-i.i))) c.node_at-n.ensures

pub loop-i-init : goal.loop-i-init
loop-i-init c = part_first c.requires

pub invariant_of-unused : goal.invariant_of-unused
invariant_of-unused c = record { inside = rw c.node_at-n.ensures (store_set (part_on c.loop-i.invariant c.loop-i-test.true)) }

pub sampled-action-requires : goal.sampled-action-requires
sampled-action-requires c =
    let st = part_on c.loop-i.invariant c.loop-i-test.true in
    rw c.node_at-n.ensures (store_draw st, store_low st)

pub stepped-state-requires : goal.stepped-state-requires
stepped-state-requires c =
    subst (λ (n : ℕ). Playable c.args.context c.loop-i.state n (attributes_of n)) (sym (named (goal.at.stepped-state-requires c).After-sampled-action))
    (store_playable (part_on c.loop-i.invariant c.loop-i-test.true))

-- the state that is stored is inside the limits
pub invariant_of-moves_at_once : goal.invariant_of-moves_at_once
invariant_of-moves_at_once c =
    let moved = c.stepped-state.ensures ∙ ap (execute_of c.args.context c.loop-i.state) (named (goal.at.invariant_of-moves_at_once c).After-sampled-action) in
    record { inside = subst (CraftIn c.args.context) (sym moved) (store_craft (part_on c.loop-i.invariant c.loop-i-test.true)) }

pub insert_below-requires : goal.insert_below-requires
insert_below-requires c =
    let st = part_on c.loop-i.invariant c.loop-i-test.true in
    (store_room st, st.inside, store_set st, c.sampled-action.ensures.1, st.index.room)

pub loop-i-preserved : goal.loop-i-preserved
loop-i-preserved c =
    part_more c.loop-i.invariant c.loop-i-test.true (named (goal.at.loop-i-preserved c).After-sampled-action) c.stepped-state.ensures
    (c.insert_below.ensures.0 ∙ ap (below_of c.loop-i.nodes (c.args.count + c.loop-i.i) c.loop-i.end c.sampled-action.result) c.moves_at_once-moves.ensures) c.insert_below.ensures.1

pub returns : goal.returns
returns c = part_all c.loop-i.invariant c.loop-i-test.false
