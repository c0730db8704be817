-- For the contracts of inner functions: a host's numbers of a context in their order, their tests, and the numbers of a u32.
-- Assumes nothing.
use Rattle.std.specs.Prelude.{cond, List, [], ◌∷◌, ℕ, ◌≤◌, leb, take, drop}
use Rattle.refusal.specs.Judge.{Test}
use Rattle.craft_context.specs.Limits.{durability_most}
use Rattle.context_line.specs.Fields.{word_most, byte_most, number_tests}
use Rattle.context_line.specs.declared.fields.Fields.{Fields}

abbrev pub listed : Fields → List ℕ
listed numbers =
    numbers.player_job_level ∷
    numbers.recipe_job_level ∷
    numbers.base_progress_factor ∷
    numbers.base_quality_factor ∷
    numbers.step_max ∷
    numbers.progress_target ∷
    numbers.starting_quality ∷
    numbers.quality_target ∷
    numbers.durability_max ∷
    numbers.cp_max ∷
    numbers.is_expert ∷
    numbers.action_pool ∷
    numbers.player_is_specialist ∷
    numbers.use_manipulation ∷
    numbers.use_delineation ∷
    []

-- the tests of the fields before durability, and from it on: two functions, since all in one would be long
abbrev early : ℕ
early = 8

abbrev pub early_tests : List ℕ → List Test
early_tests values = take early (number_tests values)

abbrev pub late_tests : List ℕ → List Test
late_tests values = drop early (number_tests values)

-- step_max is a byte, and durability at most its limit: what `context_of` asks
pub record Fitting (numbers : Fields) : Type 0 where
  pub steps : numbers.step_max ≤ byte_most
  pub durability : numbers.durability_max ≤ durability_most

-- a number, or the greatest u32 where it is above that
abbrev pub word_of : ℕ → ℕ
word_of n = cond (leb n word_most) n word_most
