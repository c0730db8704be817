-- `tree::descend::solution_len` meets its contract: the last record is on the way down, and len records below record 0.
-- Assumes nothing.
use Rattle.std.proofs.Common.{◌-◌}
use Rattle.tree.specs.laws.Descent.{Down}
use Rattle.tree.proofs.descend.solution_len.Given as goal

abbrev pub invariant-loop-child : goal.invariant-loop-child
invariant-loop-child l = Down l.nodes l.count l.last l.len

abbrev pub decreases-loop-child : goal.decreases-loop-child
decreases-loop-child l = l.count - l.last
