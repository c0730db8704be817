-- An answer of the tree, told in numbers: what is so of the one is so of the other.
-- Assumes nothing.
use Rattle.std.specs.Prelude.{◌≡◌, refl, List, ℕ, Float, Result, Ok, Err}
use Rattle.refusal.specs.declared.Refusal.{Refusal}
use Rattle.refusal.specs.Judge.{answering}
use Rattle.tree.specs.declared.node.Node.{Node}
use Rattle.tree.specs.Grow.{Plants, Inserts}
use Rattle.tree.specs.Back.{Propagates}
use Rattle.tree.specs.Paths.{Lists, Solves}
use Rattle.crafty_c.specs.Answer.{answer_of}
use Rattle.crafty_c.specs.laws.Answer.{report_in_lem, says_told, says_answered, writes_told}
use Rattle.crafty_c.specs.Trees.{inserted_answer, propagated_answer, solved_answer, solution_answered}
use Rattle.crafty_c.specs.Trees.{TellsPlanted, TellsInserted, TellsPropagated, TellsListed, TellsSolved}

pub planted_told_lem : (nodes : List Node) (unused : ℕ) {r : Result ℕ Refusal} {after : List Node} → Plants nodes unused r after
    → TellsPlanted nodes unused (answer_of r) after
planted_told_lem nodes unused w = record { says = says_answered (λ k. k) w.says; records = w.records }

pub inserted_told_lem : (nodes : List Node) (count parent action unused : ℕ) {r : Result (ℕ × ℕ) Refusal} {after : List Node}
    → Inserts nodes count parent action unused r after → TellsInserted nodes count parent action unused (inserted_answer r) after
inserted_told_lem nodes count parent action unused w = record { says = says_answered (λ at. at.0) w.says; records = w.records }

pub propagated_told_lem : (nodes : List Node) (count start target : ℕ) (score : Float) {r : Result Unit Refusal} {after : List Node}
    → Propagates nodes count start target score r after
    → TellsPropagated nodes count start target score (propagated_answer r) after
propagated_told_lem nodes count start target score w = record { says = says_answered (λ u. 0) w.says; records = w.records }

pub listed_told_lem : (nodes : List Node) (count node : ℕ) (out : List ℕ) {r : Result ℕ Refusal} {after : List ℕ} → Lists nodes count node out r after
    → TellsListed nodes count node out (answer_of r) after
listed_told_lem nodes count node out w = writes_told w

solved_number : (r : Result (ℕ × ℕ) Refusal) → solution_answered.told (solved_answer r) ≡ answering.told r
solved_number (Ok found) = refl
solved_number (Err x) = report_in_lem x

pub solved_told_lem : (nodes : List Node) (count : ℕ) (out : List ℕ) {r : Result (ℕ × ℕ) Refusal} {after : List ℕ} → Solves nodes count out r after
    → TellsSolved nodes count out (solved_answer r) after
solved_told_lem nodes count out w = record { says = says_told solution_answered answering solved_answer (λ x. refl) solved_number w.says; room = w.room }
