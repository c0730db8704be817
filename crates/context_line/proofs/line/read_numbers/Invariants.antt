-- `context_line::line::read_numbers` meets its contract: each turn of the walk reads one number.
-- Assumes nothing.
use Rattle.context_line.proofs.Walk.{Walk}
use Rattle.context_line.proofs.line.read_numbers.Given as goal

abbrev pub invariant-loop-k : goal.invariant-loop-k
invariant-loop-k l = Walk l.line l.values l.k l.at
