-- Total and refusing: for each function of the archive, every answer that meets its statement has the number 0 or one of these,
-- in the order of its tests; and where it is not 0, what was lent is as it was. A line to each function, as in crafty's Total.antt.
-- Assumes nothing.
use Rattle.std.specs.Prelude.{List, [], ◌∷◌, ℕ, Float}
use Rattle.refusal.specs.Demands.{Refuses, RefusesWhole}
use Rattle.refusal.specs.laws.Demands.{says_refuses, writes_refuses}
use Rattle.moves.specs.declared.mode.Mode.{Mode}
use Rattle.tree.specs.declared.node.Node.{Node}
use Rattle.tree.specs.laws.Grow.{changes_refuses}
use Rattle.search.specs.declared.options.SearchOptions.{SearchOptions}
use Rattle.search.specs.Demands.{RefusesInPart}
use Rattle.crafty_c.specs.Answer.{answered}
use Rattle.crafty_c.specs.Reports.{TellsNumbers}
use Rattle.crafty_c.specs.Texts.{TellsReplay, TellsPrinted, TellsActions, TellsList, TellsSeconds}
use Rattle.crafty_c.specs.Trees.{solution_answered, TellsPlanted, TellsInserted, TellsPropagated, TellsListed, TellsSolved}
use Rattle.crafty_c.specs.Searches.{found_told, first_tests, TellsSearched}
use Rattle.crafty_c.specs.laws.Searches.{found_refuses}

-- values are the fifteen numbers of the context
pub total_crafty_replay : (values : List ℕ) (mode : Mode) (list out : List ℕ)
    → RefusesWhole answered (1 ∷ 3 ∷ 6 ∷ []) out (TellsNumbers values mode list out)
total_crafty_replay values mode list out = writes_refuses

pub total_crafty_replay_text : (input out : List ℕ) → RefusesWhole answered (13 ∷ 12 ∷ 1 ∷ 5 ∷ 6 ∷ []) out (TellsReplay input out)
total_crafty_replay_text input out = writes_refuses

pub total_crafty_print : (input out : List ℕ) → RefusesWhole answered (6 ∷ []) out (TellsPrinted input out)
total_crafty_print input out = writes_refuses

pub total_crafty_read_list : (text out : List ℕ) → RefusesWhole answered (5 ∷ 6 ∷ []) out (TellsActions text out)
total_crafty_read_list text out = writes_refuses

pub total_crafty_write_list : (list out : List ℕ) → RefusesWhole answered (13 ∷ 3 ∷ 6 ∷ []) out (TellsList list out)
total_crafty_write_list list out = writes_refuses

pub total_crafty_macro_time : (list : List ℕ) → Refuses answered (13 ∷ 3 ∷ []) (TellsSeconds list)
total_crafty_macro_time list = says_refuses

pub total_crafty_tree_new : (nodes : List Node) (unused : ℕ) → RefusesWhole answered (1 ∷ 6 ∷ []) nodes (TellsPlanted nodes unused)
total_crafty_tree_new nodes unused = changes_refuses

pub total_crafty_tree_insert : (nodes : List Node) (count parent action unused : ℕ)
    → RefusesWhole answered (1 ∷ 3 ∷ 7 ∷ 8 ∷ 6 ∷ []) nodes (TellsInserted nodes count parent action unused)
total_crafty_tree_insert nodes count parent action unused = changes_refuses

pub total_crafty_tree_backpropagate : (nodes : List Node) (count start target : ℕ) (score : Float)
    → RefusesWhole answered (7 ∷ 8 ∷ 9 ∷ 10 ∷ 11 ∷ []) nodes (TellsPropagated nodes count start target score)
total_crafty_tree_backpropagate nodes count start target score = changes_refuses

pub total_crafty_tree_children : (nodes : List Node) (count node : ℕ) (out : List ℕ)
    → RefusesWhole answered (7 ∷ 8 ∷ 6 ∷ []) out (TellsListed nodes count node out)
total_crafty_tree_children nodes count node out = writes_refuses

pub total_crafty_tree_solution : (nodes : List Node) (count : ℕ) (out : List ℕ)
    → RefusesWhole solution_answered (7 ∷ 6 ∷ []) out (TellsSolved nodes count out)
total_crafty_tree_solution nodes count out = writes_refuses

-- document 02's exceptions to demand 1: where an iteration or the path's room is refused, the iterations before stand
pub total_crafty_search : (values : List ℕ) (options : SearchOptions) (logs : List Float) (draws : List ℕ) (nodes : List Node) (out : List ℕ)
    → RefusesInPart found_told (1 ∷ 21 ∷ 6 ∷ 19 ∷ 20 ∷ []) (6 ∷ 19 ∷ 20 ∷ []) (first_tests values options logs nodes) nodes out
    (TellsSearched values options logs draws nodes out)
total_crafty_search values options logs draws nodes out = found_refuses
