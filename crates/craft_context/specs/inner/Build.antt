-- For the contracts of inner functions: the tests of player and recipe, and the place of the built context's first field.
-- Assumes nothing.
use Rattle.std.specs.Prelude.{◌≡◌, ℕ, List, ◌++◌}
use Rattle.refusal.specs.Judge.{Test, pass, checks_of}
use Rattle.refusal.specs.Limits.{limit_tests}
use Rattle.craft_context.specs.Limits.{player_limits, recipe_limits}
use Rattle.craft_context.specs.declared.sheet.Player.{Player}
use Rattle.craft_context.specs.declared.sheet.Recipe.{Recipe}

-- player's and recipe's fields; those of the options have no limit
abbrev pub sheet_tests : Player → Recipe → List Test
sheet_tests player recipe = limit_tests (player_limits player ++ recipe_limits recipe)

-- each of them passes: what `build` asks
abbrev pub Buildable : Player → Recipe → Type 0
Buildable player recipe = checks_of (sheet_tests player recipe) ≡ pass

-- the place of the built context's first field: that of a context alone, 0, is below it
abbrev pub context_first : ℕ
context_first = 22
