-- Laws of the entries that list children and the solution: what an accepted call has found.
-- Assumes nothing.
use Rattle.std.specs.Prelude.{◌≡◌, ℕ, ◌<◌, List, [], length, refl}
use Rattle.refusal.specs.Judge.{pass, checks_of}
use Rattle.refusal.specs.laws.Judge.{shown}
use Rattle.tree.specs.declared.node.Node.{Node}
use Rattle.tree.specs.Tree.{children_of, solution_of, end_of}
use Rattle.tree.specs.laws.Tree.{tree_of}
use Rattle.tree.specs.laws.Solution.{solution_ends, solution_length}
use Rattle.tree.specs.Refusals.{tree_test, solution_tests}

-- the way down is shorter than the count, and its last record has no child
pub record Ended (nodes : List Node) (count : ℕ) : Type 0 where
  pub short : length (solution_of nodes count) < count
  pub ends : children_of count nodes (end_of nodes count) ≡ []

pub solution_kept : (nodes : List Node) (count room : ℕ) → pass ≡ checks_of (solution_tests nodes count room) → Ended nodes count
solution_kept nodes count room e =
    let tree = tree_of (shown (tree_test nodes count) _ e refl).0 in
    record { short = solution_length nodes count tree; ends = solution_ends nodes count tree }
