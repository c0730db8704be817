-- `tree::descend::solution_len` meets its contract: the last record is on the way down, and len records below record 0.
-- Assumes nothing.
use Rattle.std.proofs.Common.{◌≡◌, ◌+◌, ◌<◌, arith}
use Rattle.tree.specs.Tree.{best_of}
use Rattle.tree.specs.laws.Best.{at_child, at_none}
use Rattle.tree.specs.laws.Descent.{Down, down_short, down_rises, down_on, down_length}
use Rattle.tree.proofs.descend.solution_len.Goals.{In-Some}
use Rattle.tree.proofs.descend.solution_len.Goals as goal

-- there is a child, and it is on the way down
module _ (c : In-Some) where
  found : (c.in-Some.child ≡ best_of c.args.count c.args.nodes.now c.loop-child.last) × (0 < c.in-Some.child)
  found = at_child _ c.in-Some.ensures

  more : 0 < best_of c.args.count c.args.nodes.now c.loop-child.last
  more = rw (← found.0) found.1

  on : Down c.args.nodes.now c.args.count c.in-Some.child (c.loop-child.len + 1)
  on = rw found.0 (down_on _ _ c.requires c.loop-child.invariant more)

  rises : c.loop-child.last < c.in-Some.child
  rises = rw found.0 (down_rises _ _ c.requires c.loop-child.invariant more)

pub overflow_add-len : goal.overflow_add-len
overflow_add-len c = omega (arith, down_short _ _ c.requires (on (goal.at.overflow_add-len c).In-Some))

pub loop-child-smaller : goal.loop-child-smaller
loop-child-smaller c = let t = (goal.at.loop-child-smaller c).In-Some in omega (arith, rises t, (on t).inside)

pub loop-child-preserved : goal.loop-child-preserved
loop-child-preserved c = on (goal.at.loop-child-preserved c).In-Some

pub returns : goal.returns
returns c = down_length _ _ c.requires c.loop-child.invariant (at_none _ c.in_default.ensures)
