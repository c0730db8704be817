-- `ActionSet::members` meets its contract.
-- Assumes nothing.
use Rattle.std.proofs.Common.{arith}
use Rattle.std.proofs.lemmas.Grind.{common_steps}
use Rattle.refusal.specs.Judge.{judged}
use Rattle.action_set.specs.laws.Sets.{members_size}
use Rattle.action_set.proofs.ActionSet.members.Goals as goal

pub returns : goal.returns
unfolding judged
returns c = grind (arith, common_steps, members_size, c.put_members.ensures.next)
