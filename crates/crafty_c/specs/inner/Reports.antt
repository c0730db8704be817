-- For the contracts of inner functions: the replay of a list of numbers, before its answer is told in a number and a value.
-- Assumes nothing.
use Rattle.std.specs.Prelude.{List, ◌++◌, ℕ, Result, Ok}
use Rattle.refusal.specs.declared.Refusal.{Refusal}
use Rattle.refusal.specs.Judge.{Writes, answering}
use Rattle.craft_context.specs.declared.context.CraftContext.{CraftContext}
use Rattle.context_line.specs.Fields.{context_of, number_tests}
use Rattle.moves.specs.declared.mode.Mode.{Mode}
use Rattle.crafty_c.specs.Numbers.{numbers_length}
use Rattle.crafty_c.specs.Reports.{report_tests, reported}

-- in a context inside its limits
abbrev pub Reports : CraftContext → Mode → List ℕ → List ℕ → Result ℕ Refusal → List ℕ → Type 0
Reports context mode list out r after = Writes answering (report_tests list out) (Ok numbers_length) out (reported context mode list out) r after

-- in one given by its numbers
abbrev pub ReportsNumbers : List ℕ → Mode → List ℕ → List ℕ → Result ℕ Refusal → List ℕ → Type 0
ReportsNumbers values mode list out r after =
    Writes answering (number_tests values ++ report_tests list out) (Ok numbers_length) out (reported (context_of values) mode list out) r after
