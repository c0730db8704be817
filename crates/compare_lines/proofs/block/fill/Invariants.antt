-- `block::fill` meets its contract: what is read so far is within the block, and each turn reads a byte.
-- Assumes nothing.
use Rattle.std.proofs.Common.{◌≡◌, ◌≤◌, length, take}
use Rattle.std.specs.Io.KnownBytes.{Consumes}
use Rattle.compare_lines.proofs.block.fill.Given as goal

abbrev pub invariant-loop : goal.invariant-loop
invariant-loop g l = (length l.block ≡ length l.initial.block) × (l.got ≤ length l.block) × (l.counter ≤ l.got) × Consumes (g.R.Read.remaining l.initial.input) (g.R.Read.remaining l.input) (take l.got l.block)
