-- `tree::back::check_back` meets its contract: the way up is walked where the ends are records of a sound tree.
-- Assumes nothing.
use Rattle.tree.specs.laws.Tree.{checked_tree, checked_node}
use Rattle.tree.specs.laws.Propagate.{climbs_of}
use Rattle.tree.proofs.back.check_back.Goals as goal

pub survey_path-survey-requires : goal.survey_path-survey-requires
survey_path-survey-requires c = climbs_of (checked_tree c.check_tree.ensures c.in_ok-check_tree.was) (checked_node c.check_node.ensures c.in_ok-check_node.was)
