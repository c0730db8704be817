-- `case::number` is safe: so many digits make a number below that power of ten.
-- Assumes nothing.
use Rattle.std.proofs.Common.{◌<◌, ◌^◌}
use Rattle.compare_lines.proofs.case.number.Given as goal

abbrev pub invariant-loop-k : goal.invariant-loop-k
invariant-loop-k l = l.value < 10 ^ l.k
