-- `moves::sets::own_moves` meets its contract.
-- Assumes nothing.
use mathlib.Core.Path.{◌≡◌, ◌∙◌}
use Rattle.laws.specs.Bits.{collect}
use Rattle.action.specs.Table.{attributes_of}
use Rattle.moves.specs.laws.Leaves.{leaves}
use Rattle.moves.specs.laws.Sets.{own_rules, own_leaves}
use Rattle.moves.proofs.sets.own_moves.Goals as goal

pub returns : goal.returns
unfolding collect
returns c =
    let left : c.unless.result.bits ≡ leaves (own_rules c.args.context c.args.state attributes_of) c.args.set.bits =
    simp (
      c.unless.ensures,
      c.unless-set-11.ensures,
      c.unless-set-10.ensures,
      c.unless-set-9.ensures,
      c.unless-set-8.ensures,
      c.unless-set-7.ensures,
      c.unless-set-6.ensures,
      c.unless-set-5.ensures,
      c.unless-set-4.ensures,
      c.unless-set-3.ensures,
      c.unless-set-2.ensures,
      c.unless-set.ensures,
      c.on_basic_touch.ensures,
      c.is_withstood-traited.ensures,
      c.is_withstood-groundwork.ensures,
      c.on_observe.ensures,
      c.no_waste_not.ensures,
      c.is_unused.ensures,
    )
    in left ∙ own_leaves c.args.context c.args.state attributes_of c.args.set.bits c.args.set.inside
