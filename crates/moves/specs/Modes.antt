-- Document 01, 'Legal moves' and 'Results and scores': the two modes of a call.
-- Assumes nothing.
use Rattle.std.specs.Prelude.{Bool, true, false, cond}
use Rattle.moves.specs.declared.mode.Mode.{Mode}

abbrev pub plain : Mode
plain = record { strict = false }

abbrev pub strict : Mode
strict = record { strict = true }

-- by a host's flag
abbrev pub mode_of : Bool → Mode
mode_of asked = cond asked strict plain
