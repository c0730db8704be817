-- Document 01, Tree: "`backpropagate` goes from start up to target". What the entry answers and what the records then hold.
-- Assumes nothing.
use Rattle.std.specs.Prelude.{ℕ, List, Float}
use Rattle.refusal.specs.Judge.{Checked, pass, answering}
use Rattle.tree.specs.declared.node.Node.{Node}
use Rattle.tree.specs.Tree.{back_of}
use Rattle.tree.specs.Grow.{Changes}
use Rattle.tree.specs.Refusals.{back_tests}

-- ---- the entry

-- refusals 7, 8 for start or target, 9, 10 and 11; the records on the path are touched, and no other
abbrev pub Propagates : List Node → ℕ → ℕ → ℕ → Float → Checked → List Node → Type 0
Propagates nodes count start target score r after =
    Changes answering (back_tests nodes count start target score) pass nodes (back_of nodes start target score) r after
