-- Document 01's "One action": what each of 1 to 9 does to a field.
-- Assumes nothing.
use Rattle.std.specs.Prelude.{Bool, true, false, cond, not, ◌&&◌, ◌||◌, ℕ, ◌+◌, ◌-◌, min, eqb, ltb, ℤ, pos, ◌-ℤ◌, Option, Some, None}
use Rattle.action.specs.Actions as A
use Rattle.action.specs.Limits.{quiet_most}
use Rattle.action.specs.Gain.{progress_gain_of, quality_gain_of}
use Rattle.action.specs.Price.{charge_of}
use Rattle.action.specs.Wear.{wear_of}
use Rattle.action.specs.declared.price.Combo.{Combo}
use Rattle.action.specs.declared.price.Combo.TheVariants as C
use Rattle.craft_context.specs.declared.context.CraftContext.{CraftContext}
use Rattle.craft_state.specs.declared.buffs.Buffs.{Buffs}
use Rattle.craft_state.specs.declared.state.CraftState.{CraftState}
use Rattle.craft_state.specs.declared.state.Perfection.{Perfection}
use Rattle.craft_state.specs.declared.state.Perfection.TheVariants as P
use Rattle.craft_state.specs.Limits.{waste_not_most, waste_not_ii_most, manipulation_most, great_strides_most, innovation_most, veneration_most, muscle_memory_most}
use Rattle.step.specs.Durability.{mended_of, masters_mends}

-- ---- 1: step + 1 unless QuickInnovation

abbrev pub step_after : ℕ → ℕ → ℕ
step_after n step = cond (eqb n A.QuickInnovation) step (step + 1)

-- ---- 2: progress

abbrev pub progress_after : CraftContext → CraftState → Option ℕ → ℕ
progress_after c s (Some efficiency) = s.progress + progress_gain_of c.base_progress_factor efficiency s.buffs.veneration s.buffs.muscle_memory
progress_after c s None = s.progress

-- a buff that is used up by an action with the attribute
abbrev pub used_up : Option ℕ → ℕ → ℕ
used_up (Some efficiency) buff = 0
used_up None buff = buff

-- ---- 3: quality

abbrev pub quality_gain : CraftContext → CraftState → ℕ → ℕ → ℕ
quality_gain c s n efficiency =
    let missing = c.quality_target - s.quality in
    quality_gain_of n missing c.base_quality_factor efficiency s.buffs.inner_quiet s.buffs.innovation s.buffs.great_strides

abbrev pub quality_after : CraftContext → CraftState → ℕ → Option ℕ → ℕ
quality_after c s n (Some efficiency) = s.quality + quality_gain c s n efficiency
quality_after c s n None = s.quality

abbrev pub on_basic_touch : Option Combo → Bool
on_basic_touch None = false
on_basic_touch (Some C.BasicTouch) = true
on_basic_touch (Some C.StandardTouch) = false
on_basic_touch (Some C.RefinedTouch) = false
on_basic_touch (Some C.Observe) = false

-- Reflect, PreparatoryTouch, and RefinedTouch after combo BasicTouch
abbrev pub doubles_quiet : ℕ → Option Combo → Bool
doubles_quiet n combo = eqb n A.Reflect || eqb n A.PreparatoryTouch || eqb n A.RefinedTouch && on_basic_touch combo

abbrev pub quiet_level : ℕ
quiet_level = 11

-- below player level 11 inner quiet does not move at all
abbrev pub quiet_to : ℕ → ℕ → ℕ → Option Combo → ℕ
quiet_to level quiet n combo =
    cond (ltb level quiet_level) quiet
    (cond (eqb n A.ByregotsBlessing) 0 (cond (doubles_quiet n combo) (min (quiet + 2) quiet_most) (min (quiet + 1) quiet_most)))

abbrev pub quiet_after : CraftContext → CraftState → ℕ → Option ℕ → ℕ
quiet_after c s n (Some efficiency) = quiet_to c.player_job_level s.buffs.inner_quiet n s.previous_combo_action
quiet_after c s n None = s.buffs.inner_quiet

-- ---- 4: durability

abbrev pub is_active : Perfection → Bool
is_active P.Unused = false
is_active P.Active = true
is_active P.Spent = false

abbrev pub wear : CraftState → ℕ → ℕ
wear s cost = wear_of cost (is_active s.trained_perfection_active) s.buffs.waste_not s.buffs.waste_not_ii

abbrev pub durability_after : CraftState → Option ℕ → ℤ
durability_after s (Some cost) = s.durability -ℤ pos (wear s cost)
durability_after s None = s.durability

-- a base cost above 0 spends an active trained perfection
abbrev pub spent : Perfection → ℕ → Perfection
spent P.Unused cost = P.Unused
spent P.Active cost = cond (ltb 0 cost) P.Spent P.Active
spent P.Spent cost = P.Spent

abbrev pub perfection_after : Perfection → Option ℕ → Perfection
perfection_after perfection (Some cost) = spent perfection cost
perfection_after perfection None = perfection

-- ---- 6: points

abbrev pub cp_after : ℕ → Option Combo → ℕ → Option ℕ → ℕ
cp_after cp combo n cost = cp - charge_of n combo cost

-- ---- 7: the action if BasicTouch or Observe, or StandardTouch or RefinedTouch on combo BasicTouch; else none

abbrev pub combo_after : Option Combo → ℕ → Option Combo
combo_after combo n =
    cond (eqb n A.BasicTouch) (Some C.BasicTouch)
    (cond (eqb n A.Observe) (Some C.Observe)
    (cond (eqb n A.StandardTouch && on_basic_touch combo) (Some C.StandardTouch)
    (cond (eqb n A.RefinedTouch && on_basic_touch combo) (Some C.RefinedTouch) None)))

-- ---- 8: the seven timers fall by 1, not below 0; inner quiet is no timer

unfoldable pub ticked_of : Buffs → Buffs
ticked_of b =
    record {
      inner_quiet = b.inner_quiet;
      waste_not = b.waste_not - 1;
      waste_not_ii = b.waste_not_ii - 1;
      manipulation = b.manipulation - 1;
      great_strides = b.great_strides - 1;
      innovation = b.innovation - 1;
      veneration = b.veneration - 1;
      muscle_memory = b.muscle_memory - 1;
    }

-- ---- 9: effects

-- a field that one action sets
abbrev pub set_by : ℕ → ℕ → ℕ → ℕ → ℕ
set_by n action value before = cond (eqb n action) value before

unfoldable pub effect_of : ℕ → Buffs → Buffs
effect_of n b =
    record {
      inner_quiet = b.inner_quiet;
      waste_not = set_by n A.WasteNot waste_not_most (set_by n A.WasteNotII 0 b.waste_not);
      waste_not_ii = set_by n A.WasteNot 0 (set_by n A.WasteNotII waste_not_ii_most b.waste_not_ii);
      manipulation = set_by n A.Manipulation manipulation_most b.manipulation;
      great_strides = set_by n A.GreatStrides great_strides_most b.great_strides;
      innovation = set_by n A.Innovation innovation_most (set_by n A.QuickInnovation 1 b.innovation);
      veneration = set_by n A.Veneration veneration_most b.veneration;
      muscle_memory = set_by n A.MuscleMemory muscle_memory_most b.muscle_memory;
    }

abbrev pub mend_after : ℕ → ℤ → ℤ → ℤ
mend_after n d most = cond (eqb n A.MastersMend) (mended_of d masters_mends most) (cond (eqb n A.ImmaculateMend) most d)

abbrev pub perfected_by : ℕ → Perfection → Perfection
perfected_by n perfection = cond (eqb n A.TrainedPerfection) P.Active perfection

abbrev pub quick_after : ℕ → Bool → Bool
quick_after n quick = quick && not (eqb n A.QuickInnovation)
