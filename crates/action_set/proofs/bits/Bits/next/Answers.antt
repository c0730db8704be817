-- `Bits::next` meets its contract: the count of trailing zeros is the place of a member.
-- Assumes nothing.
use native.Mathlib.Omega.{arith}
use Rattle.laws.specs.laws.Bits.{trailing_member}
use Rattle.action.specs.Known.{actions}
use Rattle.action_set.proofs.bits.Bits.next.Goals as goal

pub returns : goal.returns
returns c = trailing_member actions 32 _ (omega arith) c.requires c.args.self.inside
