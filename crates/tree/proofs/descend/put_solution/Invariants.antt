-- `tree::descend::put_solution` meets its contract: the actions down to the last record are stored.
-- Assumes nothing.
use Rattle.std.proofs.Common.{◌-◌}
use Rattle.tree.specs.laws.Descent.{Down, Stored}
use Rattle.tree.proofs.descend.put_solution.Given as goal

abbrev pub invariant-loop-child : goal.invariant-loop-child
invariant-loop-child l = record { down : Down l.nodes l.count l.last l.at; stored : Stored l.nodes l.count l.initial.out l.last l.at l.out }

abbrev pub decreases-loop-child : goal.decreases-loop-child
decreases-loop-child l = l.count - l.last
