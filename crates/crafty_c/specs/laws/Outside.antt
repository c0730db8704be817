-- Document 02, E1: of each function of the archive that can refuse by 1, every answer with the number 1 has for its value the place of the first field
-- outside its limit. A line to each function, as in crafty's Outside.antt.
-- Assumes nothing.
use Rattle.std.specs.Prelude.{refl, List, [], ℕ, Float, length}
use Rattle.refusal.specs.Demands.{TellsFirstBeside}
use Rattle.refusal.specs.laws.Limits.{tells_first}
use Rattle.action_set.specs.Sets.{set_limits}
use Rattle.context_line.specs.Shape.{numbers_of}
use Rattle.context_line.specs.Fields.{number_limits}
use Rattle.moves.specs.declared.mode.Mode.{Mode}
use Rattle.tree.specs.declared.node.Node.{Node}
use Rattle.search.specs.declared.options.SearchOptions.{SearchOptions}
use Rattle.search.specs.Demands.{TellsFirstBesides}
use Rattle.crafty.specs.Program.{line_in, replay_text_of}
use Rattle.crafty.specs.laws.Outside.{text_first, planted_first, inserted_first}
use Rattle.crafty_c.specs.Answer.{answered}
use Rattle.crafty_c.specs.Reports.{report_tests, TellsNumbers}
use Rattle.crafty_c.specs.Texts.{TellsReplay}
use Rattle.crafty_c.specs.Trees.{TellsPlanted, TellsInserted}
use Rattle.crafty_c.specs.Searches.{found_told, TellsSearched}
use Rattle.crafty_c.specs.laws.Searches.{found_first}

-- values are the fifteen numbers of the context
pub outside_crafty_replay : (values : List ℕ) (mode : Mode) (list out : List ℕ)
    → TellsFirstBeside answered.told (number_limits values) (TellsNumbers values mode list out)
outside_crafty_replay values mode list out after r s = tells_first [] (number_limits values) (report_tests list out) refl refl r s.says

pub outside_crafty_replay_text : (input out : List ℕ) → TellsFirstBeside answered.told (number_limits (numbers_of (line_in input))) (TellsReplay input out)
outside_crafty_replay_text input out after r s = text_first input (length out) (length (replay_text_of input)) r s.says

pub outside_crafty_tree_new : (nodes : List Node) (unused : ℕ) → TellsFirstBeside answered.told (set_limits unused) (TellsPlanted nodes unused)
outside_crafty_tree_new nodes unused after r s = planted_first nodes unused r s.says

pub outside_crafty_tree_insert : (nodes : List Node) (count parent action unused : ℕ)
    → TellsFirstBeside answered.told (set_limits unused) (TellsInserted nodes count parent action unused)
outside_crafty_tree_insert nodes count parent action unused after r s = inserted_first nodes count parent action unused r s.says

pub outside_crafty_search : (values : List ℕ) (options : SearchOptions) (logs : List Float) (draws : List ℕ) (nodes : List Node) (out : List ℕ)
    → TellsFirstBesides found_told (number_limits values) (TellsSearched values options logs draws nodes out)
outside_crafty_search = found_first
