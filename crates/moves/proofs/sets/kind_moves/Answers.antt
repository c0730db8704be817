-- `moves::sets::kind_moves` meets its contract.
-- Assumes nothing.
use mathlib.Core.Path.{◌≡◌, ◌∙◌}
use Rattle.laws.specs.Bits.{collect}
use Rattle.action.specs.Table.{action_of, attributes_of}
use Rattle.action.specs.laws.Bounds.{rows_bounded}
use Rattle.moves.specs.laws.Leaves.{leaves}
use Rattle.moves.specs.laws.Sets.{kind_rules, kind_leaves}
use Rattle.moves.proofs.sets.kind_moves.Goals as goal

pub returns : goal.returns
unfolding collect action_of
returns c =
    let left : c.unless.result.bits ≡ leaves (kind_rules c.args.context c.args.state) c.args.set.bits =
    simp (c.unless.ensures, c.unless-set-2.ensures, c.unless-set.ensures, c.on_observe.ensures)
    in
    left ∙ kind_leaves c.args.context c.args.state attributes_of rows_bounded c.args.set.bits c.args.set.inside
