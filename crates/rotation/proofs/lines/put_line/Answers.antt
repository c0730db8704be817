-- `rotation::lines::put_line` meets its contract.
-- Assumes nothing.
use Rattle.rotation.specs.laws.Lines.{line_put}
use Rattle.rotation.proofs.lines.put_line.Goals as goal

pub returns : goal.returns
returns c = line_put _ c.put_text-end.ensures c.put_byte.ensures
