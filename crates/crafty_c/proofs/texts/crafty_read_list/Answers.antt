-- `crafty_c::texts::crafty_read_list` meets its contract: the entry's answer is told in numbers.
-- Assumes nothing.
use Rattle.crafty_c.specs.laws.Answer.{writes_told}
use Rattle.crafty_c.proofs.texts.crafty_read_list.Goals as goal

pub returns : goal.returns
returns c = rw c.answer.ensures (writes_told c.read_list.ensures)
