-- `action_set::bits::holds` meets its contract.
-- Assumes nothing.
use mathlib.Core.Path.{refl}
use Rattle.laws.specs.Bits.{has}
use Rattle.action_set.proofs.bits.holds.Goals as goal

pub returns : goal.returns
unfolding has
returns c = refl
