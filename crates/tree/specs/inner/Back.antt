-- For the contracts of inner functions: the way up that a back-propagation tests.
-- Assumes nothing.
use Rattle.std.specs.Prelude.{◌≡◌, ℕ, ◌+◌, ◌<◌, Bool, true, ◌||◌, List, length, ◌==◌}
use Rattle.tree.specs.declared.node.Node.{Node}
use Rattle.tree.specs.declared.climb.Survey.{Survey}
use Rattle.tree.specs.Node.{is_full}
use Rattle.tree.specs.Tree.{Falls, is_above, path_of, any_full}

-- ---- the way up

-- from record start on every step goes to a smaller number
pub record Climbs (nodes : List Node) (start : ℕ) : Type 0 where
  pub room : start < length nodes
  pub falls : Falls nodes (start + 1)

-- and comes by the target
pub record Reaches (nodes : List Node) (start target : ℕ) : Type 0 where
  pub climbs : Climbs nodes start
  pub above : is_above nodes start target ≡ true

-- what is found where the way ends at record k
abbrev pub survey_of : Bool → ℕ → Node → ℕ → Survey
survey_of full k n target = record { above = (k == target); full = full || is_full n }

-- a survey answers tests 9 and 11, the latter where 9 has passed
pub record Surveys (nodes : List Node) (start target : ℕ) (survey : Survey) : Type 0 where
  pub above : survey.above ≡ is_above nodes start target
  pub full : survey.above ≡ true → survey.full ≡ any_full nodes (path_of nodes start target)
