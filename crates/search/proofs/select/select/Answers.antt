-- `search::select::select` meets its contract: the record and the state there are on the way down.
-- Assumes nothing.
use Rattle.std.proofs.Common.{◌<◌, sym, ap, subst, ◌∙◌, arith}
use Rattle.action.specs.Table.{attributes_of}
use Rattle.step.specs.Step.{execute_of}
use Rattle.step.specs.inner.Asked.{Playable}
use Rattle.tree.specs.declared.node.Node.{Node}
use Rattle.search.specs.laws.Rating.{ready_rating}
use Rattle.search.specs.laws.Selecting.{at_first, at_rises, at_below, at_playable, at_on, at_end}
use Rattle.search.proofs.select.select.Goals as goal
use Rattle.search.proofs.select.select.Goals.{In-Some}

below : (c : In-Some) → c.in-Some.child < c.args.count
below c = at_below c.requires c.loop-child.invariant c.in-Some.ensures

pub loop-child-init : goal.loop-child-init
loop-child-init c = at_first c.requires c.fresh-state.ensures

pub next_child-requires : goal.next_child-requires
next_child-requires c = ready_rating c.requires c.loop-child.at c.loop-child.invariant.inside

pub node_at-n-requires : goal.node_at-n-requires
node_at-n-requires c = omega (arith, below (goal.at.node_at-n-requires c).In-Some, c.requires.growing.tree.room)

pub stepped-state-requires : goal.stepped-state-requires
stepped-state-requires c =
    subst (λ (m : Node). Playable c.args.context c.loop-child.state m.action (attributes_of m.action)) (sym c.node_at-n.ensures)
    (at_playable c.requires c.loop-child.invariant c.in-Some.ensures)

pub loop-child-smaller : goal.loop-child-smaller
loop-child-smaller c =
    let rises : c.loop-child.at < c.in-Some.child = at_rises c.requires c.loop-child.invariant c.in-Some.ensures in
    omega (arith, below (goal.at.loop-child-smaller c).In-Some)

pub loop-child-preserved : goal.loop-child-preserved
loop-child-preserved c =
    at_on c.requires c.loop-child.invariant c.in-Some.ensures
    (c.stepped-state.ensures ∙ ap (λ (m : Node). execute_of c.args.context c.loop-child.state m.action) c.node_at-n.ensures)

pub returns : goal.returns
returns c = at_end c.requires c.loop-child.invariant c.in_default.ensures
