-- Document 01, "Limits", the lines "Context" and "Building a context", field by field in order. Outside is refusal 1. Document 02, E1: its place is "in
-- `CraftContext` order for a context, and for the builder player's four, then recipe and options fields in source order, then the built context's".
-- Assumes nothing.
use Rattle.std.specs.Prelude.{◌≡◌, ℕ, ◌≤◌, Bool, true, false, ◌&&◌, List, [], ◌∷◌, ℤ, pos, negsuc, nat_le}
use Rattle.refusal.specs.Judge.{Test, Checked, Checks}
use Rattle.refusal.specs.Limits.{free, limit_tests}
use Rattle.action.specs.Limits.{factor_most, target_most}
use Rattle.action_set.specs.Sets.{SetIn, is_set}
use Rattle.craft_context.specs.declared.context.CraftContext.{CraftContext}
use Rattle.craft_context.specs.declared.sheet.Player.{Player}
use Rattle.craft_context.specs.declared.sheet.Recipe.{Recipe}
use Rattle.craft_context.specs.declared.sheet.CraftOptions.{CraftOptions}

-- ---- of what a context is built from

-- craftsmanship and control
abbrev pub stat_most : ℕ
stat_most = 10000

abbrev pub div_most : ℕ
div_most = 1000

abbrev pub mod_most : ℕ
mod_most = 200

-- ---- of a context

abbrev pub durability_most : ℕ
durability_most = 97

-- 1..=97
abbrev pub durable : ℤ → Bool
durable (pos n) = nat_le 1 n && nat_le n durability_most
durable (negsuc k) = false

-- each field of a context by whether it is inside; a field's place is its position here. Levels, steps and flags have no limit
abbrev pub context_limits : CraftContext → List Bool
context_limits c =
    free c.player_job_level ∷
    free c.recipe_job_level ∷
    nat_le c.base_progress_factor factor_most ∷
    nat_le c.base_quality_factor factor_most ∷
    free c.step_max ∷
    nat_le c.progress_target target_most ∷
    nat_le c.starting_quality target_most ∷
    nat_le c.quality_target target_most ∷
    durable c.durability_max ∷
    nat_le c.cp_max target_most ∷
    free c.is_expert ∷
    is_set c.action_pool.0 ∷
    free c.player_is_specialist ∷
    free c.use_manipulation ∷
    free c.use_delineation ∷
    []

abbrev pub context_tests : CraftContext → List Test
context_tests c = limit_tests (context_limits c)

abbrev pub ChecksContext : CraftContext → Checked → Type 0
ChecksContext c r = Checks (context_tests c) r

-- ---- the fields of what a context is built from, in their order; what only the context limits is tested there

abbrev pub player_limits : Player → List Bool
player_limits player =
    free player.job_level ∷
    nat_le player.craftsmanship stat_most ∷
    nat_le player.control stat_most ∷
    free player.cp ∷
    []

abbrev pub divides : ℕ → Bool
divides n = nat_le 1 n && nat_le n div_most

abbrev pub recipe_limits : Recipe → List Bool
recipe_limits recipe =
    free recipe.recipe_level ∷
    free recipe.job_level ∷
    free recipe.stars ∷
    free recipe.progress ∷
    free recipe.quality ∷
    free recipe.durability ∷
    divides recipe.progress_div ∷
    nat_le recipe.progress_mod mod_most ∷
    divides recipe.quality_div ∷
    nat_le recipe.quality_mod mod_most ∷
    free recipe.is_expert ∷
    free recipe.conditions_flag ∷
    []

abbrev pub options_limits : CraftOptions → List Bool
options_limits options =
    free options.max_steps ∷
    free options.starting_quality ∷
    free options.quality_target ∷
    free options.player_is_specialist ∷
    free options.use_manipulation ∷
    free options.use_delineation ∷
    []

-- ---- the limits of a context as facts: `context_in_lem` and `context_passes` (specs/laws/Limits.antt) lead from its tests to them and back

pub record ContextIn (c : CraftContext) : Type 0 where
  pub base_progress : c.base_progress_factor ≤ factor_most
  pub base_quality : c.base_quality_factor ≤ factor_most
  pub progress_target : c.progress_target ≤ target_most
  pub starting_quality : c.starting_quality ≤ target_most
  pub quality_target : c.quality_target ≤ target_most
  pub durability : durable c.durability_max ≡ true
  pub cp_max : c.cp_max ≤ target_most
  pub pool : SetIn c.action_pool.0
