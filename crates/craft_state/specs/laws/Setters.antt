-- Each setter sets its field, and what was there put back is the state as it was.
-- Assumes nothing.
use Rattle.std.specs.Prelude.{◌≡◌, refl}
use Rattle.craft_state.specs.declared.buffs.Buffs.{Buffs}
use Rattle.craft_state.specs.declared.state.CraftState.{CraftState}
use Rattle.craft_state.specs.Setters.{with_step, with_progress, with_quality, with_durability, with_cp}
use Rattle.craft_state.specs.Setters.{with_combo, with_quick, with_perfection, with_buffs, with_action}
use Rattle.craft_state.specs.Setters.{with_inner_quiet, with_great_strides, with_muscle_memory}

pub record Sets {Whole Field : Type 0} (of : Whole → Field) (with : Field → Whole → Whole) : Type 0 where
  pub sets : (v : Field) (s : Whole) → of (with v s) ≡ v
  pub back : (v : Field) (s : Whole) → with (of s) (with v s) ≡ s

pub step_set : Sets (λ (s : CraftState). s.step) with_step
step_set = record { sets = λ v s. refl; back = λ v s. refl }

pub progress_set : Sets (λ (s : CraftState). s.progress) with_progress
progress_set = record { sets = λ v s. refl; back = λ v s. refl }

pub quality_set : Sets (λ (s : CraftState). s.quality) with_quality
quality_set = record { sets = λ v s. refl; back = λ v s. refl }

pub durability_set : Sets (λ (s : CraftState). s.durability) with_durability
durability_set = record { sets = λ v s. refl; back = λ v s. refl }

pub cp_set : Sets (λ (s : CraftState). s.cp) with_cp
cp_set = record { sets = λ v s. refl; back = λ v s. refl }

pub combo_set : Sets (λ (s : CraftState). s.previous_combo_action) with_combo
combo_set = record { sets = λ v s. refl; back = λ v s. refl }

pub quick_set : Sets (λ (s : CraftState). s.quick_innovation_available) with_quick
quick_set = record { sets = λ v s. refl; back = λ v s. refl }

pub perfection_set : Sets (λ (s : CraftState). s.trained_perfection_active) with_perfection
perfection_set = record { sets = λ v s. refl; back = λ v s. refl }

pub buffs_set : Sets (λ (s : CraftState). s.buffs) with_buffs
buffs_set = record { sets = λ v s. refl; back = λ v s. refl }

pub action_set : Sets (λ (s : CraftState). s.action) with_action
action_set = record { sets = λ v s. refl; back = λ v s. refl }

-- ---- of the buffs

pub inner_quiet_set : Sets (λ (b : Buffs). b.inner_quiet) with_inner_quiet
inner_quiet_set = record { sets = λ v b. refl; back = λ v b. refl }

pub great_strides_set : Sets (λ (b : Buffs). b.great_strides) with_great_strides
great_strides_set = record { sets = λ v b. refl; back = λ v b. refl }

pub muscle_memory_set : Sets (λ (b : Buffs). b.muscle_memory) with_muscle_memory
muscle_memory_set = record { sets = λ v b. refl; back = λ v b. refl }
