-- `Bits::remove` meets its contract.
-- Assumes nothing.
use Rattle.laws.specs.laws.Bits.{less_bit}
use Rattle.action.specs.Known.{actions}
use Rattle.action_set.proofs.bits.Bits.remove.Goals as goal

pub returns : goal.returns
returns c = rw c.bit.ensures (less_bit actions _ _ c.args.self.inside c.requires)
