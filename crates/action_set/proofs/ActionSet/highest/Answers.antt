-- `ActionSet::highest` meets its contract.
-- Assumes nothing.
use Rattle.std.proofs.Common.{◌≡◌, Some, None, arith}
use Rattle.std.proofs.lemmas.Grind.{common_steps}
use Rattle.refusal.specs.Judge.{judged}
use Rattle.laws.specs.laws.Bits.{highest_is, highest_none, top_member}
use Rattle.action.specs.Known.{actions}
use Rattle.action_set.specs.Sets.{SetIn, highest_of}
use Rattle.action_set.proofs.ActionSet.highest.Goals as goal

pub returns-then-self-eq0 : goal.returns-then-self-eq0
unfolding judged
returns-then-self-eq0 c = grind (arith, common_steps, highest_none)

pub returns : goal.returns
unfolding judged
returns c =
    let inside : SetIn c.args.self.0 = grind arith in
    let e : highest_of Some None c.args.self.0 ≡ Some c.top.result =
    highest_is Some None actions _ _ (top_member actions _ _ inside c.top.ensures).known c.top.ensures in
    grind (arith, common_steps)
