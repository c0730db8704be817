-- Document 01, "Context": what is built from player, recipe and options; "Limits": "Building a context: ..; then the context limits."
-- Assumes nothing.
use Rattle.std.specs.Prelude.{ℕ, Bool, List, ◌++◌, nat_le, Option, Some, None, Result, Ok}
use Rattle.refusal.specs.declared.Refusal.{Refusal}
use Rattle.refusal.specs.Judge.{Says, answering}
use Rattle.refusal.specs.Limits.{limit_tests}
use Rattle.craft_context.specs.Limits.{player_limits, recipe_limits, options_limits, context_limits}
use Rattle.craft_context.specs.Factor.{factor_of, progress_plus, quality_plus}
use Rattle.craft_context.specs.Pool.{pool_of}
use Rattle.craft_context.specs.declared.context.CraftContext.{CraftContext}
use Rattle.craft_context.specs.declared.sheet.Player.{Player}
use Rattle.craft_context.specs.declared.sheet.Recipe.{Recipe}
use Rattle.craft_context.specs.declared.sheet.CraftOptions.{CraftOptions}

-- an option's number, or another where it gives none
abbrev pub given_or : Option ℕ → ℕ → ℕ
given_or (Some n) other = n
given_or None other = other

-- the player's level is at most the recipe's: then the modifier counts
abbrev pub is_scaled : Player → Recipe → Bool
is_scaled player recipe = nat_le player.job_level recipe.job_level

unfoldable pub built_of : Player → Recipe → CraftOptions → CraftContext
built_of player recipe options =
    record {
      player_job_level = player.job_level;
      recipe_job_level = recipe.job_level;
      base_progress_factor =
          factor_of player.craftsmanship recipe.progress_div progress_plus recipe.progress_mod (is_scaled player recipe);
      base_quality_factor =
          factor_of player.control recipe.quality_div quality_plus recipe.quality_mod (is_scaled player recipe);
      step_max = options.max_steps;
      progress_target = recipe.progress;
      starting_quality = given_or options.starting_quality 0;
      quality_target = given_or options.quality_target recipe.quality;
      durability_max = recipe.durability;
      cp_max = player.cp;
      is_expert = recipe.is_expert;
      action_pool = record { 0 = pool_of player recipe };
      player_is_specialist = options.player_is_specialist;
      use_manipulation = options.use_manipulation;
      use_delineation = options.use_delineation;
    }

-- ---- the entry

-- the numbers to build from come first, and then the context that they give
abbrev pub builder_limits : Player → Recipe → CraftOptions → List Bool
builder_limits player recipe options =
    player_limits player ++ (recipe_limits recipe ++ (options_limits options ++ context_limits (built_of player recipe options)))

abbrev pub New : Player → Recipe → CraftOptions → Result CraftContext Refusal → Type 0
New player recipe options r = Says answering (limit_tests (builder_limits player recipe options)) (Ok (built_of player recipe options)) r
