-- Document 01, Tree: "Children come in record order", and `solution` "answers the actions and the last node". What these entries answer, and what the
-- lent room holds then.
-- Assumes nothing.
use Rattle.std.specs.Prelude.{ℕ, List, length, Result, Ok}
use Rattle.refusal.specs.declared.Refusal.{Refusal}
use Rattle.refusal.specs.Judge.{Writes, answering}
use Rattle.text.specs.Over.{over}
use Rattle.tree.specs.declared.node.Node.{Node}
use Rattle.tree.specs.Tree.{children_of, solution_of, end_of}
use Rattle.tree.specs.Refusals.{children_tests, solution_tests}

-- ---- the entries

-- refusals 7, 8 and 6; else how many children there are, and their numbers at the front of the room
abbrev pub Lists : List Node → ℕ → ℕ → List ℕ → Result ℕ Refusal → List ℕ → Type 0
Lists nodes count k out r after =
    Writes answering (children_tests nodes count k (length out)) (Ok (length (children_of count nodes k)))
    out (over out 0 (children_of count nodes k)) r after

-- refusals 7 and 6; else how many actions there are and the last record, and the actions at the front of the room
abbrev pub Solves : List Node → ℕ → List ℕ → Result (ℕ × ℕ) Refusal → List ℕ → Type 0
Solves nodes count out r after =
    Writes answering (solution_tests nodes count (length out)) (Ok (length (solution_of nodes count), end_of nodes count))
    out (over out 0 (solution_of nodes count)) r after
