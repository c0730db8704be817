-- Document 01, 'Legal moves': the rules of price and quality, the strict rules in source order, and each action's own rule (craft_state.rs),
-- of a state and a candidate by its row. A rule holds where the candidate may pass.
-- Assumes nothing.
use Rattle.std.specs.Prelude.{Bool, true, false, cond, not, ◌&&◌, ◌||◌, ℕ, ◌+◌, ◌/◌, eqb, leb, ltb, pos, ◌-ℤ◌, Option, Some, None}
use Rattle.std.specs.Int.Signed.{le_z, lt_z}
use Rattle.laws.specs.Bits.{has}
use Rattle.action.specs.Actions as A
use Rattle.action.specs.Limits.{quiet_most}
use Rattle.action.specs.Gain.{progress_gain_of}
use Rattle.action.specs.Price.{affordable}
use Rattle.action.specs.declared.table.Attributes.{Attributes}
use Rattle.action.specs.declared.price.Combo.{Combo}
use Rattle.action.specs.declared.price.Combo.TheVariants as C
use Rattle.craft_context.specs.declared.context.CraftContext.{CraftContext}
use Rattle.craft_state.specs.declared.state.CraftState.{CraftState}
use Rattle.craft_state.specs.declared.state.Perfection.{Perfection}
use Rattle.craft_state.specs.declared.state.Perfection.TheVariants as P
use Rattle.craft_state.specs.Limits.{step_least}
use Rattle.step.specs.Parts.{on_basic_touch, wear}

-- ---- in either mode

-- the full price, whatever combo the candidate would continue: the source reads the last action, which never has a discount
abbrev pub affords : CraftState → ℕ → Option ℕ → Bool
affords s n cost = affordable s.cp cost

-- no quality action once quality is at its target
abbrev pub may_improve : CraftContext → CraftState → Option ℕ → Bool
may_improve c s (Some efficiency) = ltb s.quality c.quality_target
may_improve c s None = true

-- ---- in strict mode

-- at the first step of such a craft TrainedEye is the only move
abbrev pub eye_alone : CraftContext → CraftState → Bool
eye_alone c s = eqb s.step step_least && ltb 0 c.quality_target && not c.is_expert && has c.action_pool.0 A.TrainedEye

-- no quality action under muscle memory where player and recipe are of one level
abbrev pub outside_memory : CraftContext → CraftState → Option ℕ → Bool
outside_memory c s (Some quality) = not (eqb c.recipe_job_level c.player_job_level && ltb 0 s.buffs.muscle_memory)
outside_memory c s None = true

-- no pure quality action under veneration
abbrev pub outside_veneration : CraftState → Option ℕ → Option ℕ → Bool
outside_veneration s (Some progress) quality = true
outside_veneration s None (Some quality) = eqb s.buffs.veneration 0
outside_veneration s None None = true

abbrev pub on_observe : Option Combo → Bool
on_observe None = false
on_observe (Some C.BasicTouch) = false
on_observe (Some C.StandardTouch) = false
on_observe (Some C.RefinedTouch) = false
on_observe (Some C.Observe) = true

-- after Observe only AdvancedTouch
abbrev pub after_observe : CraftState → ℕ → Bool
after_observe s n = not (on_observe s.previous_combo_action) || eqb n A.AdvancedTouch

-- no pure progress under innovation
abbrev pub unless_pure : CraftState → Option ℕ → Bool
unless_pure s (Some quality) = true
unless_pure s None = eqb s.buffs.innovation 0

-- no finish while quality is below a fifth of its target; what does not finish is no pure progress under innovation
abbrev pub may_progress : CraftContext → CraftState → Option ℕ → Option ℕ → Bool
may_progress c s (Some efficiency) quality =
    let gain = progress_gain_of c.base_progress_factor efficiency s.buffs.veneration s.buffs.muscle_memory in
    cond (leb c.progress_target (s.progress + gain)) (leb (c.quality_target / 5) s.quality) (unless_pure s quality)
may_progress c s None quality = true

-- ---- each action's own rule

abbrev pub is_unused : Perfection → Bool
is_unused P.Unused = true
is_unused P.Active = false
is_unused P.Spent = false

abbrev pub no_waste_not : CraftState → Bool
no_waste_not s = eqb s.buffs.waste_not 0 && eqb s.buffs.waste_not_ii 0

-- durability is enough for the cost
abbrev pub withstands : CraftState → Option ℕ → Bool
withstands s (Some cost) = le_z (pos (wear s cost)) s.durability
withstands s None = true

-- in either mode
unfoldable pub own_rule : CraftContext → CraftState → ℕ → Attributes → Bool
own_rule c s n row =
    cond (eqb n A.MuscleMemory || eqb n A.Reflect) (eqb s.step step_least)
    (cond (eqb n A.TrainedEye) (eqb s.step step_least && not c.is_expert)
    (cond (eqb n A.ByregotsBlessing) (ltb 0 s.buffs.inner_quiet)
    (cond (eqb n A.TrainedFinesse) (eqb s.buffs.inner_quiet quiet_most)
    (cond (eqb n A.TrainedPerfection) (is_unused s.trained_perfection_active)
    (cond (eqb n A.PrudentSynthesis || eqb n A.PrudentTouch) (no_waste_not s)
    (cond (eqb n A.Observe) (not (on_observe s.previous_combo_action))
    (cond (eqb n A.Groundwork || eqb n A.GroundworkTraited) (withstands s row.durability_cost)
    (cond (eqb n A.RefinedTouch) (on_basic_touch s.previous_combo_action)
    (cond (eqb n A.Manipulation) c.use_manipulation
    (cond (eqb n A.QuickInnovation) (s.quick_innovation_available && eqb s.buffs.innovation 0) true))))))))))

-- what strict mode asks beyond it
unfoldable pub strict_rule : CraftContext → CraftState → ℕ → Bool
strict_rule c s n =
    cond (eqb n A.ByregotsBlessing) (ltb 1 s.buffs.inner_quiet)
    (cond (eqb n A.WasteNot || eqb n A.WasteNotII) (no_waste_not s)
    -- 7 points for Observe and 18 for the AdvancedTouch after it
    (cond (eqb n A.Observe) (leb 25 s.cp)
    (cond (eqb n A.ImmaculateMend) (lt_z (pos 45) (c.durability_max -ℤ s.durability) && eqb s.buffs.manipulation 0)
    (cond (eqb n A.MastersMend) (le_z (pos 25) (c.durability_max -ℤ s.durability))
    (cond (eqb n A.Manipulation) (eqb s.buffs.manipulation 0)
    (cond (eqb n A.GreatStrides) (eqb s.buffs.great_strides 0)
    (cond (eqb n A.Veneration || eqb n A.Innovation) (leb s.buffs.veneration 1 && leb s.buffs.innovation 1)
    (cond (eqb n A.QuickInnovation) (ltb (c.quality_target / 3) s.quality) true))))))))
