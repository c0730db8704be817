-- `craft_state::display::put_line` meets its contract: four shares, one after another. A signed number that crosses a call is washed.
-- Assumes nothing.
use native.Mathlib.Omega.{arith}
use Rattle.std.proofs.Common.{rules, w8, SFits}
use mir.ValLaws.{to_z-of_z}
use Rattle.text.specs.laws.Over.{then}
use Rattle.craft_state.specs.Line.{display_of}
use Rattle.craft_state.proofs.display.put_line.Goals as goal

pub returns : goal.returns
unfolding display_of
returns c =
    let part : SFits w8 c.args.state.durability = search rules in
    let most : SFits w8 c.args.context.durability_max = search rules in (
      then (then (then c.put_share-quality.ensures.0 c.put_share-durability.ensures.0) (simp (to_z-of_z w8 _ part, to_z-of_z w8 _ most) at c.put_share-cp.ensures.0)) c.put_share.ensures.0,
      omega (arith, c.put_share-quality.ensures.1, c.put_share-durability.ensures.1, c.put_share-cp.ensures.1, c.put_share.ensures.1),
    )
