-- `rotation::lines::measure` meets its contract: what is passed and what the rest has are what the whole list has.
-- Assumes nothing.
use Rattle.std.proofs.Common.{◌≡◌, ◌+◌, ◌*◌, ◌≤◌, length, drop}
use Rattle.rotation.specs.Lines.{list_text_of}
use Rattle.rotation.specs.inner.Lines.{name_line_most}
use Rattle.rotation.proofs.lines.measure.Given as goal

abbrev pub invariant-loop-n : goal.invariant-loop-n
invariant-loop-n l =
    (l.need ≤ name_line_most * l.n-index) × (l.need + length (list_text_of (drop l.n-index l.list)) ≡ length (list_text_of l.list))
