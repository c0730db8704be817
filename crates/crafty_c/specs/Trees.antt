-- Document 01, Tree, for hosts: what each function over a host's records answers, and what the records or the lent room hold then. As its entry in
-- tree, told in numbers.
-- Assumes nothing.
use Rattle.std.specs.Prelude.{List, ℕ, Float, length, Result, Ok, Err}
use Rattle.refusal.specs.declared.Refusal.{Refusal}
use Rattle.refusal.specs.declared.Report.{Report}
use Rattle.refusal.specs.Judge.{Kind, Writes}
use Rattle.text.specs.Over.{over}
use Rattle.tree.specs.declared.node.Node.{Node}
use Rattle.tree.specs.Tree.{planted_of, inserted_of, children_of, back_of, solution_of, end_of}
use Rattle.tree.specs.Refusals.{new_count, new_tests, insert_tests, children_tests, back_tests, solution_tests}
use Rattle.tree.specs.Grow.{Changes}
use Rattle.crafty_c.specs.declared.answer.CraftyAnswer.{CraftyAnswer}
use Rattle.crafty_c.specs.declared.trees.CraftySolution.{CraftySolution}
use Rattle.crafty_c.specs.Answer.{done_of, refused_of, answer_by, report_in, answered}

-- ---- the answers in numbers: of a new tree its count, of an insertion the new record's number, of a back-propagation nothing, of children how many

abbrev pub inserted_answer : Result (ℕ × ℕ) Refusal → CraftyAnswer
inserted_answer r = answer_by (λ at. at.0) r

abbrev pub propagated_answer : Result Unit Refusal → CraftyAnswer
propagated_answer r = answer_by (λ u. 0) r

-- of a solution its length and the last node

abbrev pub solved_at : CraftyAnswer → ℕ → CraftySolution
solved_at answer node = record { number = answer.number; value = answer.value; node = node }

abbrev pub solved_answer : Result (ℕ × ℕ) Refusal → CraftySolution
solved_answer (Ok found) = solved_at (done_of found.0) found.1
solved_answer (Err x) = solved_at (refused_of x) 0

abbrev solution_report : CraftySolution → Report
solution_report s = report_in (record { number = s.number; value = s.value })

abbrev solution_refused : Refusal → CraftySolution
solution_refused x = solved_at (refused_of x) 0

abbrev pub solution_answered : Kind CraftySolution
solution_answered = record { told = solution_report; refused = solution_refused; refusing = answered.refusing }

-- ---- the functions

abbrev pub TellsPlanted : List Node → ℕ → CraftyAnswer → List Node → Type 0
TellsPlanted nodes unused r after = Changes answered (new_tests nodes unused) (done_of new_count) nodes (planted_of nodes unused) r after

abbrev pub TellsInserted : List Node → ℕ → ℕ → ℕ → ℕ → CraftyAnswer → List Node → Type 0
TellsInserted nodes count parent action unused r after =
    Changes answered (insert_tests nodes count parent action unused) (done_of count) nodes (inserted_of nodes count parent action unused) r after

abbrev pub TellsPropagated : List Node → ℕ → ℕ → ℕ → Float → CraftyAnswer → List Node → Type 0
TellsPropagated nodes count start target score r after =
    Changes answered (back_tests nodes count start target score) (done_of 0) nodes (back_of nodes start target score) r after

abbrev pub TellsListed : List Node → ℕ → ℕ → List ℕ → CraftyAnswer → List ℕ → Type 0
TellsListed nodes count node out r after =
    Writes answered (children_tests nodes count node (length out)) (done_of (length (children_of count nodes node)))
    out (over out 0 (children_of count nodes node)) r after

abbrev pub TellsSolved : List Node → ℕ → List ℕ → CraftySolution → List ℕ → Type 0
TellsSolved nodes count out r after =
    Writes solution_answered (solution_tests nodes count (length out)) (solved_at (done_of (length (solution_of nodes count))) (end_of nodes count))
    out (over out 0 (solution_of nodes count)) r after
