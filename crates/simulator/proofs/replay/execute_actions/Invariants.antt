-- `simulator::replay::execute_actions` meets its contract.
-- Assumes nothing.
use mathlib.Core.Path.{◌≡◌}
use Prim.Native.Nat.{◌≤◌, ◌-◌}
use lib.ListN.{length, drop}
use Rattle.action.specs.Table.{attributes_of}
use Rattle.craft_state.specs.Inside.{CraftIn}
use Rattle.simulator.specs.Replay.{replay_from, replay_of}
use Rattle.simulator.proofs.replay.execute_actions.Given as goal

-- what is left of the list gives the whole replay, and the state is inside the limits
abbrev pub invariant-turns : goal.invariant-turns
invariant-turns l =
    (l.i ≤ length l.list) × (replay_from attributes_of l.context l.mode l.state l.i (drop l.i l.list) ≡ replay_of l.context l.mode l.list) × CraftIn l.context l.state

abbrev pub decreases-turns : goal.decreases-turns
decreases-turns l = length l.list - l.i
