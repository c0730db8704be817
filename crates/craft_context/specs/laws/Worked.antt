-- Pools worked out from the definitions, as the Rust has them.
-- Assumes nothing.
use Rattle.std.specs.Prelude.{◌≡◌, ℕ, false, pos, refl}
use Rattle.laws.specs.Bits.{collect}
use Rattle.action.specs.Table.{action_of}
use Rattle.craft_context.specs.Pool.{pool_of}
use Rattle.craft_context.specs.declared.sheet.Player.{Player}
use Rattle.craft_context.specs.declared.sheet.Recipe.{Recipe}

abbrev player : ℕ → ℕ → Player
player level points = record { job_level = level; craftsmanship = 0; control = 0; cp = points }

abbrev recipe : ℕ → Recipe
recipe level =
    record {
      recipe_level = 0;
      job_level = level;
      stars = 0;
      progress = 0;
      quality = 0;
      durability = pos 1;
      progress_div = 1;
      progress_mod = 0;
      quality_div = 1;
      quality_mod = 0;
      is_expert = false;
      conditions_flag = 0;
    }

-- level 100 on a recipe of level 100: all but the four untraited twins and TrainedEye
traited : pool_of (player 100 600) (recipe 100) ≡ 2143805438
unfolding action_of collect
traited = refl

-- level 10 with 80 points on a recipe of level 0: BasicSynthesis and BasicTouch; MastersMend costs 88
poor : pool_of (player 10 80) (recipe 0) ≡ 3
unfolding action_of collect
poor = refl
