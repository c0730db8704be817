-- `moves::amounts::progress_moves` meets its contract.
-- Assumes nothing.
use Rattle.laws.specs.Bits.{collect}
use Rattle.action.specs.Table.{action_of, attributes_of}
use Rattle.action.specs.laws.Bounds.{rows_bounded}
use Rattle.moves.specs.laws.Amounts.{progress_leaves}
use Rattle.moves.proofs.amounts.progress_moves.Goals as goal

pub returns : goal.returns
unfolding collect action_of
returns c =
    simp (c.unless.ensures, c.unless-work.ensures, c.unless-set.ensures, c.requires)
    (progress_leaves c.args.context c.args.state attributes_of rows_bounded c.args.set.bits)
