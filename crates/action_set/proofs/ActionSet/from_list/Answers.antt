-- `ActionSet::from_list` meets its contract.
-- Assumes nothing.
use Rattle.action.specs.laws.Known.{list_shown}
use Rattle.action_set.proofs.ActionSet.from_list.Goals as goal

pub of_list-requires : goal.of_list-requires
of_list-requires c = list_shown _ c.check_list.ensures c.in_ok-check_list.was
