-- `rollout::rollout::roll_out` meets its contract.
-- Assumes nothing.
use mathlib.Core.Path.{◌≡◌}
use Prim.Native.Nat.{◌-◌, ◌≤◌}
use lib.ListN.{length, drop}
use Rattle.rollout.specs.Rollout.{rolled_from}
use Rattle.rollout.specs.inner.Movable.{Movable}
use Rattle.rollout.proofs.rollout.roll_out.Given as goal

-- the rest of the draws gives the whole rollout; the state is inside the limits, and the moves are some of its own
abbrev pub invariant-loop-moves : goal.invariant-loop-moves
invariant-loop-moves l =
    (rolled_from l.context l.state l.moves.bits l.at (drop l.at l.draws) ≡ rolled_from l.context l.initial.state l.fn.start_moves.bits l.first (drop l.first l.draws))
    × Movable l.context l.state l.moves.bits × (l.at ≤ length l.draws)

abbrev pub decreases-loop-moves : goal.decreases-loop-moves
decreases-loop-moves l = length l.draws - l.at
