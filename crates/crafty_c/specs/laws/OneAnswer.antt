-- One answer: for each function of the archive, two answers that meet its statement are equal, and so is what they leave in lent room or records.
-- A line to each function, named after it: the general law, applied to the statement that stands in the function's `ensures`.
-- Assumes nothing.
use Rattle.std.specs.Prelude.{List, ℕ, Float}
use Rattle.moves.specs.declared.mode.Mode.{Mode}
use Rattle.tree.specs.declared.node.Node.{Node}
use Rattle.search.specs.declared.options.SearchOptions.{SearchOptions}
use Rattle.refusal.specs.Demands.{OneAnswer, OneOutcome}
use Rattle.search.specs.Demands.{OneOutcomes}
use Rattle.crafty.specs.laws.OneAnswer.{says, writes, changes}
use Rattle.crafty_c.specs.Reports.{TellsNumbers}
use Rattle.crafty_c.specs.Texts.{TellsReplay, TellsPrinted, TellsActions, TellsList, TellsSeconds}
use Rattle.crafty_c.specs.Trees.{TellsPlanted, TellsInserted, TellsPropagated, TellsListed, TellsSolved}
use Rattle.crafty_c.specs.Searches.{TellsSearched}
use Rattle.crafty_c.specs.laws.Searches.{found_outcomes}

-- values are the fifteen numbers of the context
pub one_crafty_replay : (values : List ℕ) (mode : Mode) (list out : List ℕ) → OneOutcome (TellsNumbers values mode list out)
one_crafty_replay values mode list out = writes

pub one_crafty_replay_text : (input out : List ℕ) → OneOutcome (TellsReplay input out)
one_crafty_replay_text input out = writes

pub one_crafty_print : (input out : List ℕ) → OneOutcome (TellsPrinted input out)
one_crafty_print input out = writes

pub one_crafty_read_list : (text out : List ℕ) → OneOutcome (TellsActions text out)
one_crafty_read_list text out = writes

pub one_crafty_write_list : (list out : List ℕ) → OneOutcome (TellsList list out)
one_crafty_write_list list out = writes

pub one_crafty_macro_time : (list : List ℕ) → OneAnswer (TellsSeconds list)
one_crafty_macro_time list = says

pub one_crafty_tree_new : (nodes : List Node) (unused : ℕ) → OneOutcome (TellsPlanted nodes unused)
one_crafty_tree_new nodes unused = changes

pub one_crafty_tree_insert : (nodes : List Node) (count parent action unused : ℕ) → OneOutcome (TellsInserted nodes count parent action unused)
one_crafty_tree_insert nodes count parent action unused = changes

pub one_crafty_tree_backpropagate : (nodes : List Node) (count start target : ℕ) (score : Float)
    → OneOutcome (TellsPropagated nodes count start target score)
one_crafty_tree_backpropagate nodes count start target score = changes

pub one_crafty_tree_children : (nodes : List Node) (count node : ℕ) (out : List ℕ) → OneOutcome (TellsListed nodes count node out)
one_crafty_tree_children nodes count node out = writes

pub one_crafty_tree_solution : (nodes : List Node) (count : ℕ) (out : List ℕ) → OneOutcome (TellsSolved nodes count out)
one_crafty_tree_solution nodes count out = writes

pub one_crafty_search : (values : List ℕ) (options : SearchOptions) (logs : List Float) (draws : List ℕ) (nodes : List Node) (out : List ℕ)
    → OneOutcomes (TellsSearched values options logs draws nodes out)
one_crafty_search values options logs draws nodes out = found_outcomes
