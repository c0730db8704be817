-- What the reader answers, of a line and of fifteen numbers. Document 01, "What comes back on refusal": 12 precedes 1.
-- Assumes nothing.
use Rattle.std.specs.Prelude.{List, ◌∷◌, ℕ}
use Rattle.refusal.specs.Judge.{Test}
use Rattle.context_line.specs.Shape.{line_test, numbers_of}
use Rattle.context_line.specs.Fields.{number_tests}

-- refusal 12 of the whole line, before refusal 1 of any number
abbrev pub line_tests : List ℕ → List Test
line_tests line = line_test line ∷ number_tests (numbers_of line)
