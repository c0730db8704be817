-- Scores worked out from the definitions: the bits are those of document 01, or those that the Rust of craft_state.rs answers.
-- Assumes nothing.
use Rattle.std.specs.Prelude.{◌≡◌, ℕ, false, ℤ, pos, negsuc, refl, None}
use Rattle.std.specs.Float.{binary32}
use Rattle.std.specs.Float.Ieee.{to_bits, of_int, add, sub, mul, div, lt}
use Rattle.craft_context.specs.declared.context.CraftContext.{CraftContext}
use Rattle.laws.specs.Floats.{float}
use Rattle.craft_state.specs.declared.state.CraftState.{CraftState}
use Rattle.craft_state.specs.declared.state.Perfection.TheVariants as P
use Rattle.craft_state.specs.Start.{no_buffs}
use Rattle.score.specs.Score.{cp_bonus, part_of, weighed_of, score_of}

abbrev craft : ℕ → ℕ → ℕ → ℤ → ℕ → CraftContext
craft steps progress quality durability points =
    record {
      player_job_level = 50;
      recipe_job_level = 50;
      base_progress_factor = 100;
      base_quality_factor = 100;
      step_max = steps;
      progress_target = progress;
      starting_quality = 0;
      quality_target = quality;
      durability_max = durability;
      cp_max = points;
      is_expert = false;
      action_pool = record { 0 = 0 };
      player_is_specialist = false;
      use_manipulation = false;
      use_delineation = false;
    }

abbrev state : ℕ → ℕ → ℕ → ℤ → ℕ → CraftState
state step progress quality durability points =
    record {
      step = step;
      progress = progress;
      quality = quality;
      durability = durability;
      cp = points;
      previous_combo_action = None;
      quick_innovation_available = false;
      trained_perfection_active = P.Unused;
      buffs = no_buffs;
      action = None;
    }

-- P9: cp 0 of 0
p9 : to_bits binary32 (part_of cp_bonus (float 0) (float 0)) ≡ 0x3d4c_cccd
unfolding to_bits of_int mul div lt
p9 = refl

-- the replay program's example
example : to_bits binary32 (score_of (craft 8 200 0 (pos 40) 100) (state 4 300 0 (pos 20) 82)) ≡ 0x3f00_0000
unfolding score_of to_bits of_int sub div
example = refl

-- added from right to left it would be 3F0F5F70
all_parts : to_bits binary32 (score_of (craft 20 1000 1000 (pos 40) 200) (state 4 1200 417 (pos 10) 146)) ≡ 0x3f0f_5f6f
unfolding score_of weighed_of to_bits of_int add sub mul div lt
all_parts = refl

-- durability -19 of 1, and cp 0 of 0
below_zero : to_bits binary32 (score_of (craft 20 1000 1000 (pos 1) 0) (state 7 1200 450 (negsuc 18) 0)) ≡ 0xbebf_ffff
unfolding score_of weighed_of to_bits of_int add sub mul div lt
below_zero = refl

-- past step_max
late : to_bits binary32 (score_of (craft 8 200 0 (pos 40) 100) (state 9 300 0 (pos 20) 82)) ≡ 0xbe00_0000
unfolding score_of to_bits of_int sub div
late = refl

-- a step of 0, which no state inside the limits has: exactly 1
step_0 : to_bits binary32 (score_of (craft 255 0 1000 (pos 40) 200) (state 0 0 1000 (pos 40) 200)) ≡ 0x3f80_0000
unfolding score_of weighed_of to_bits of_int add sub mul div lt
step_0 = refl

-- as far below as it goes while step_max is above 0: step 255 of 1, durability -19 of 1, all else none; -13.65
late_weighed : to_bits binary32 (score_of (craft 1 1000 1000 (pos 1) 100) (state 255 0 0 (negsuc 18) 0)) ≡ 0xc15a_6666
unfolding score_of weighed_of to_bits of_int add sub mul div lt
late_weighed = refl

-- and without a quality target; -254
late_alone : to_bits binary32 (score_of (craft 1 1000 0 (pos 1) 100) (state 255 0 0 (negsuc 18) 0)) ≡ 0xc37e_0000
unfolding score_of to_bits of_int sub div
late_alone = refl

-- step_max 0: minus infinity
no_steps : to_bits binary32 (score_of (craft 0 200 10 (pos 40) 100) (state 4 300 5 (pos 20) 82)) ≡ 0xff80_0000
unfolding score_of weighed_of to_bits of_int add sub mul div lt
no_steps = refl
