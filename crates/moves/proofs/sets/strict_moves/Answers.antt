-- `moves::sets::strict_moves` meets its contract.
-- Assumes nothing.
use mathlib.Core.Path.{◌≡◌, ◌∙◌}
use Rattle.std.proofs.Common.{◌-ℤ◌}
use mir.Syntax.{w8}
use mir.Val.{SFits}
use mir.ValLaws.{to_z-of_z}
use borrow.Author.Rules.{rules}
use Rattle.laws.specs.Bits.{collect}
use Rattle.craft_state.specs.laws.Inside.{durability_read}
use Rattle.moves.specs.laws.Leaves.{leaves}
use Rattle.moves.specs.laws.Sets.{strict_rules, strict_leaves}
use Rattle.moves.proofs.sets.strict_moves.Goals as goal

pub returns : goal.returns
unfolding collect
returns c =
    let e = durability_read c.requires in
    let fits : SFits w8 (c.args.context.durability_max -ℤ c.args.state.durability) = search rules in
    let left : c.unless.result.bits ≡ leaves (strict_rules c.args.context c.args.state) c.args.set.bits =
    simp (
      c.unless.ensures,
      c.unless-set-8.ensures,
      c.unless-set-7.ensures,
      c.unless-set-6.ensures,
      c.unless-set-5.ensures,
      c.unless-set-4.ensures,
      c.unless-set-3.ensures,
      c.unless-set-2.ensures,
      c.unless-set.ensures,
      c.no_waste_not.ensures,
      e.0,
      e.1,
      to_z-of_z w8 _ fits,
    )
    in
    left ∙ strict_leaves c.args.context c.args.state c.args.set.bits c.args.set.inside
