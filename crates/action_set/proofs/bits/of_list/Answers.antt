-- `action_set::bits::of_list` meets its contract: what is left of the list is still to be joined.
-- Assumes nothing.
use mathlib.Core.Path.{sym, ap, ◌∙◌}
use native.Mathlib.Omega.{arith}
use Rattle.std.proofs.lemmas.Grind.{common_steps}
use lib.Pow.{pow_pos}
use lib.ListN.{drop_of_length-le}
use Rattle.action.specs.Known.{actions}
use Rattle.action.specs.laws.Known.{known_each}
use Rattle.action_set.specs.laws.Sets.{joined, joined_start, joined_turn, joined_end}
use Rattle.action_set.proofs.bits.of_list.Goals as goal

pub invariant_of-s : goal.invariant_of-s
invariant_of-s c = record { inside = c.loop-n.invariant.1 }

pub invariant_of-s-2 : goal.invariant_of-s-2
invariant_of-s-2 c = record { inside = c.loop-n.invariant.1 }

pub loop-n-init : goal.loop-n-init
loop-n-init c = (joined_start _, pow_pos actions)

pub add-s-requires : goal.add-s-requires
add-s-requires c = grind (arith, common_steps, known_each c.args.list.now c.requires)

pub loop-n-preserved : goal.loop-n-preserved
loop-n-preserved c = (joined_turn _ _ _ c.loop-n-test.true c.add-s.ensures ∙ c.loop-n.invariant.0, c.add-s.result.inside)

pub returns : goal.returns
returns c =
    let l = c.loop-n in
    sym (joined_end _ l.invariant.1) ∙ ap (joined _) (sym (drop_of_length-le _ c.loop-n-test.false)) ∙ l.invariant.0
