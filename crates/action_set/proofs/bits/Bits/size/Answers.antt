-- `Bits::size` meets its contract.
-- Assumes nothing.
use Rattle.laws.specs.laws.Bits.{size_ones}
use Rattle.action.specs.Known.{actions}
use Rattle.action_set.proofs.bits.Bits.size.Goals as goal

pub returns : goal.returns
returns c = size_ones actions _ c.args.self.inside
