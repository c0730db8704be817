-- `moves::sets::within` meets its contract.
-- Assumes nothing.
use native.Mathlib.Omega.{arith}
use lib.Bits.{and_le_l}
use Rattle.laws.specs.laws.Bits.{and_keep}
use Rattle.action.specs.Known.{actions}
use Rattle.moves.proofs.sets.within.Goals as goal

pub invariant_of-result : goal.invariant_of-result
invariant_of-result c = record { inside = omega (arith, c.args.set.inside, and_le_l c.args.set.bits c.args.other) }

pub returns : goal.returns
returns c = and_keep actions _ _ c.args.set.inside
