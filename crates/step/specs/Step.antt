-- Document 01's "One action", in its order 1 to 9; 2, 3, 4 and 6 change nothing where the action's row lacks the attribute.
-- Assumes nothing.
use Rattle.std.specs.Prelude.{cond, ℕ, eqb, Option, Some}
use Rattle.action.specs.Actions as A
use Rattle.action.specs.Bounds.{Rows}
use Rattle.action.specs.Table.{attributes_of}
use Rattle.action.specs.declared.table.Attributes.{Attributes}
use Rattle.craft_context.specs.declared.context.CraftContext.{CraftContext}
use Rattle.craft_state.specs.declared.state.CraftState.{CraftState}
use Rattle.craft_state.specs.Setters.{with_step, with_progress, with_quality, with_durability, with_cp, with_combo, with_quick, with_perfection, with_buffs, with_action}
use Rattle.craft_state.specs.Setters.{with_inner_quiet, with_great_strides, with_muscle_memory}
use Rattle.step.specs.Durability.{refreshed_to}
use Rattle.step.specs.Parts.{step_after, progress_after, used_up, quality_after, quiet_after, durability_after, perfection_after, cp_after, combo_after}
use Rattle.step.specs.Parts.{ticked_of, effect_of, mend_after, perfected_by, quick_after}

-- 1: the step, and the last action
unfoldable pub begun_of : CraftState → ℕ → CraftState
begun_of s n = with_step (step_after n s.step) (with_action (Some n) s)

-- 2: progress, which uses up muscle memory
unfoldable pub progressed_of : CraftContext → CraftState → Option ℕ → CraftState
progressed_of c s efficiency =
    with_progress (progress_after c s efficiency)
    (with_buffs (with_muscle_memory (used_up efficiency s.buffs.muscle_memory) s.buffs) s)

-- 3: quality and inner quiet, which use up great strides
unfoldable pub improved_of : CraftContext → CraftState → ℕ → Option ℕ → CraftState
improved_of c s n efficiency =
    let quieted = with_inner_quiet (quiet_after c s n efficiency) s.buffs in
    with_quality (quality_after c s n efficiency)
    (with_buffs (with_great_strides (used_up efficiency s.buffs.great_strides) quieted) s)

-- 4: durability, and a trained perfection that is spent
unfoldable pub worn_of : CraftState → Option ℕ → CraftState
worn_of s cost =
    with_durability (durability_after s cost)
    (with_perfection (perfection_after s.trained_perfection_active cost) s)

-- 5: what manipulation gives back
unfoldable pub refreshed_of : CraftContext → CraftState → CraftState
refreshed_of c s = with_durability (refreshed_to s.durability s.buffs.manipulation c.durability_max) s

-- 6: points
unfoldable pub paid_of : CraftState → ℕ → Option ℕ → CraftState
paid_of s n cost = with_cp (cp_after s.cp s.previous_combo_action n cost) s

-- 7: the combo
unfoldable pub combined_of : CraftState → ℕ → CraftState
combined_of s n = with_combo (combo_after s.previous_combo_action n) s

-- 8: the timers
unfoldable pub timed_of : CraftState → ℕ → CraftState
timed_of s n = with_buffs (cond (eqb n A.QuickInnovation) s.buffs (ticked_of s.buffs)) s

-- 9: effects, first those on the buffs
abbrev pub buffed_of : CraftState → ℕ → CraftState
buffed_of s n = with_buffs (effect_of n s.buffs) s

unfoldable pub affected_of : CraftContext → CraftState → ℕ → CraftState
affected_of c s n =
    with_durability (mend_after n s.durability c.durability_max)
    (with_quick (quick_after n s.quick_innovation_available)
    (with_perfection (perfected_by n s.trained_perfection_active)
    (buffed_of s n)))

-- all nine, by a row
unfoldable pub executed_of : CraftContext → CraftState → ℕ → Attributes → CraftState
executed_of c s n row =
    let begun = begun_of s n in
    let progressed = progressed_of c begun row.progress_efficiency in
    let improved = improved_of c progressed n row.quality_efficiency in
    let worn = worn_of improved row.durability_cost in
    let refreshed = refreshed_of c worn in
    let paid = paid_of refreshed n row.cp_cost in
    affected_of c (timed_of (combined_of paid n) n) n

-- by the action's row of any table, and of the table of action.rs
abbrev pub execute_by : Rows → CraftContext → CraftState → ℕ → CraftState
execute_by rows c s n = executed_of c s n (rows n)

abbrev pub execute_of : CraftContext → CraftState → ℕ → CraftState
execute_of = execute_by attributes_of
