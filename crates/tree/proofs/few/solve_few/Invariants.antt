-- `tree::few::solve_few` meets its contract: the actions down to the last record are stored.
-- Assumes nothing.
use Rattle.tree.specs.laws.Descent.{Down, Stored}
use Rattle.tree.proofs.few.solve_few.Given as goal

abbrev pub invariant-loop-at : goal.invariant-loop-at
invariant-loop-at l = record { down : Down l.nodes l.count l.last l.at; stored : Stored l.nodes l.count l.initial.out l.last l.at l.out }
