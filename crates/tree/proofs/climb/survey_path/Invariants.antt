-- `tree::climb::survey_path` meets its contract: what was found, and what is left to find from record k on, make the whole.
-- Assumes nothing.
use Rattle.tree.proofs.Turns.{Testing}
use Rattle.tree.proofs.climb.survey_path.Given as goal

abbrev pub invariant-loop-k : goal.invariant-loop-k
invariant-loop-k l = Testing l.nodes l.start l.target l.full l.k

abbrev pub decreases-loop-k : goal.decreases-loop-k
decreases-loop-k l = l.k
