-- `moves::amounts::keep_payable` meets its contract.
-- Assumes nothing.
use Rattle.action.specs.Table.{attributes_of}
use Rattle.action.specs.laws.Bounds.{dearest_most}
use Rattle.moves.specs.laws.Amounts.{payable_all}
use Rattle.moves.proofs.amounts.keep_payable.Goals as goal

pub returns-then-points-ge-DEAREST : goal.returns-then-points-ge-DEAREST
returns-then-points-ge-DEAREST c = payable_all attributes_of dearest_most c.args.points c.if-points-ge-DEAREST.true c.args.set.bits c.args.set.inside
