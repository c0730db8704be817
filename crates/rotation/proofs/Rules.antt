-- The laws that the check uses by itself, for the functions whose `using` names them.
-- Assumes nothing.
use Rattle.text.specs.laws.Over.{over_none}
use Rattle.action.specs.laws.Known.{known_each}
use Rattle.rotation.specs.laws.Words.{actions_most}
use Rattle.rotation.specs.laws.Told.{tally_all, named_all, named_leading}
use Rattle.rotation.specs.laws.Lines.{line_length, line_short, lines_length, lines_end}

pub ruleset reading = (tally_all, named_all, named_leading, actions_most, over_none)

pub ruleset writing = (known_each, line_length, line_short, lines_length, lines_end)
