-- `tree::climb::touch_path` meets its contract: what was written, and what is left to write from record k on, make the whole.
-- Assumes nothing.
use Rattle.tree.proofs.Turns.{Writing}
use Rattle.tree.proofs.climb.touch_path.Given as goal

abbrev pub invariant-loop-k : goal.invariant-loop-k
invariant-loop-k l = Writing l.initial.nodes l.start l.target l.score l.nodes l.k

abbrev pub decreases-loop-k : goal.decreases-loop-k
decreases-loop-k l = l.k
