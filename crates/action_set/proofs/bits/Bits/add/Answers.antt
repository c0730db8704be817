-- `Bits::add` meets its contract.
-- Assumes nothing.
use mathlib.Core.Path.{◌≡◌, sym, subst}
use lib.Bits.{bit_or}
use Rattle.laws.specs.laws.Bits.{or_bit}
use Rattle.action.specs.Known.{actions}
use Rattle.action_set.specs.Sets.{SetIn, with_of}
use Rattle.action_set.specs.laws.Sets.{set_inside}
use Rattle.action_set.proofs.bits.Bits.add.Goals as goal
use Rattle.action_set.proofs.bits.Bits.add.Goals.{After-bit}

sum : (c : After-bit) → bit_or c.args.self.bits c.bit.result ≡ with_of c.args.self.bits c.args.n
sum c = rw c.bit.ensures (or_bit actions _ _ c.args.self.inside c.requires)

pub invariant_of-result : goal.invariant_of-result
invariant_of-result c = record { inside = subst SetIn (sym (sum (goal.at.invariant_of-result c).After-bit)) (set_inside _) }

pub returns : goal.returns
returns c = sum (goal.at.returns c).After-bit
