-- `context_line::runs::number` meets its contract: the digits that are left go on from the value so far.
-- Assumes nothing.
use Rattle.std.proofs.Common.{◌≡◌, ◌^◌, ◌<◌, drop}
use Rattle.text.specs.Reading.{value_of}
use Rattle.context_line.specs.laws.Runs.{value_after}
use Rattle.context_line.proofs.runs.number.Given as goal

abbrev pub invariant-loop-b : goal.invariant-loop-b
invariant-loop-b l = (l.value < 10 ^ l.b-index) × (value_after l.value (drop l.b-index l.run) ≡ value_of l.run)
