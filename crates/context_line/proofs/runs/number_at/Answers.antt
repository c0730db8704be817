-- `context_line::runs::number_at` meets its contract.
-- Assumes nothing.
use Rattle.std.proofs.Common.{sym, ◌∙◌}
use Rattle.context_line.specs.laws.Shape.{run_within, run_here}
use Rattle.context_line.proofs.runs.number_at.Goals as goal

pub slice_bounds-number-end : goal.slice_bounds-number-end
slice_bounds-number-end c = run_within c.args.line.now c.args.at c.run_end-end.ensures c.requires

pub number-requires : goal.number-requires
number-requires c = run_here c.args.line.now c.args.at c.run_end-end.ensures (sym c.is_wide.ensures ∙ c.if-not-is_wide.false)
