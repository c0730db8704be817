-- `search::options::are_logs` meets its contract: number by number, up to one that is no logarithm.
-- Assumes nothing.
use Rattle.std.proofs.Common.{◌≡◌, true}
use Rattle.search.specs.Options.{logs_to}
use Rattle.search.proofs.options.are_logs.Given as goal

abbrev pub invariant-loop-v : goal.invariant-loop-v
invariant-loop-v l = logs_to l.v l.logs ≡ true
