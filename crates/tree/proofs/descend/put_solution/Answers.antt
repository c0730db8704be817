-- `tree::descend::put_solution` meets its contract: the actions down to the last record are stored.
-- Assumes nothing.
use Rattle.std.proofs.Common.{◌≡◌, ◌<◌, length, arith}
use Rattle.text.specs.laws.Over.{put_one}
use Rattle.tree.specs.Tree.{best_of}
use Rattle.tree.specs.laws.Best.{at_child, at_none}
use Rattle.tree.specs.laws.Descent.{turned, down_rises, down_room, down_on, down_end, stored_all}
use Rattle.tree.proofs.descend.put_solution.Goals.{In-Some}
use Rattle.tree.proofs.descend.put_solution.Goals as goal

-- there is a child
module _ (c : In-Some) where
  found : (c.in-Some.child ≡ best_of c.args.count c.args.nodes.now c.loop-child.last) × (0 < c.in-Some.child)
  found = at_child _ c.in-Some.ensures

  more : 0 < best_of c.args.count c.args.nodes.now c.loop-child.last
  more = rw (← found.0) found.1

  below : c.in-Some.child < c.args.count
  below = rw found.0 (down_on _ _ c.requires.0 c.loop-child.invariant.down more).inside

  rises : c.loop-child.last < c.in-Some.child
  rises = rw found.0 (down_rises _ _ c.requires.0 c.loop-child.invariant.down more)

  room : c.loop-child.at < length c.loop-child.out
  room = omega (arith, down_room _ _ c.requires.0 c.loop-child.invariant.down more, c.requires.1, c.loop-child.invariant.stored.long)

pub node_at-requires : goal.node_at-requires
node_at-requires c = let t = (goal.at.node_at-requires c).In-Some in omega (arith, below t, c.requires.0.room)

pub bounds-out-at : goal.bounds-out-at
bounds-out-at c = room (goal.at.bounds-out-at c).In-Some

pub loop-child-smaller : goal.loop-child-smaller
loop-child-smaller c = let t = (goal.at.loop-child-smaller c).In-Some in omega (arith, below t, rises t)

pub loop-child-preserved : goal.loop-child-preserved
loop-child-preserved c =
    let t = (goal.at.loop-child-preserved c).In-Some in
    let turn = turned _ _ c.requires.0 c.loop-child.invariant.down c.loop-child.invariant.stored (found t).0 (more t) (put_one _ _ _) in
    record { down = turn.down; stored = rw c.node_at.ensures turn.stored }

pub returns : goal.returns
returns c = let end = at_none _ c.in_default.ensures in (down_end _ _ c.requires.0 c.loop-child.invariant.down end, stored_all _ _ c.requires.0 c.loop-child.invariant.stored end)
