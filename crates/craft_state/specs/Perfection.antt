-- Document 01, What must change shape: `trained_perfection_active` is a small enum. Its cases as numbers, as hosts and the comparison tell them.
-- Assumes nothing.
use Rattle.std.specs.Prelude.{ℕ}
use Rattle.craft_state.specs.declared.state.Perfection.{Perfection}
use Rattle.craft_state.specs.declared.state.Perfection.TheVariants as P

abbrev pub perfection_number : Perfection → ℕ
perfection_number P.Unused = 0
perfection_number P.Active = 1
perfection_number P.Spent = 2
