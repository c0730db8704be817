-- `crafty_c::replays::crafty_replay` meets its contract: the entry's answer is told in numbers.
-- Assumes nothing.
use Rattle.crafty_c.specs.laws.Answer.{writes_told}
use Rattle.crafty_c.proofs.replays.crafty_replay.Goals as goal

pub returns : goal.returns
returns c = rw c.answer.ensures (rw c.mode_of-mode.ensures at (writes_told c.replay.ensures))
