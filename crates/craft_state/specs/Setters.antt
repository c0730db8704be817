-- A state with one field changed: what each part of document 01's "One action" is said by.
-- A field that is added to a state is a line in each of these.
-- Assumes nothing.
use Rattle.std.specs.Prelude.{Bool, ℕ, ℤ, Option}
use Rattle.action.specs.declared.price.Combo.{Combo}
use Rattle.craft_state.specs.declared.buffs.Buffs.{Buffs}
use Rattle.craft_state.specs.declared.state.CraftState.{CraftState}
use Rattle.craft_state.specs.declared.state.Perfection.{Perfection}

abbrev pub with_step : ℕ → CraftState → CraftState
with_step step s =
    record {
      step = step;
      progress = s.progress;
      quality = s.quality;
      durability = s.durability;
      cp = s.cp;
      previous_combo_action = s.previous_combo_action;
      quick_innovation_available = s.quick_innovation_available;
      trained_perfection_active = s.trained_perfection_active;
      buffs = s.buffs;
      action = s.action;
    }

abbrev pub with_progress : ℕ → CraftState → CraftState
with_progress progress s =
    record {
      step = s.step;
      progress = progress;
      quality = s.quality;
      durability = s.durability;
      cp = s.cp;
      previous_combo_action = s.previous_combo_action;
      quick_innovation_available = s.quick_innovation_available;
      trained_perfection_active = s.trained_perfection_active;
      buffs = s.buffs;
      action = s.action;
    }

abbrev pub with_quality : ℕ → CraftState → CraftState
with_quality quality s =
    record {
      step = s.step;
      progress = s.progress;
      quality = quality;
      durability = s.durability;
      cp = s.cp;
      previous_combo_action = s.previous_combo_action;
      quick_innovation_available = s.quick_innovation_available;
      trained_perfection_active = s.trained_perfection_active;
      buffs = s.buffs;
      action = s.action;
    }

abbrev pub with_durability : ℤ → CraftState → CraftState
with_durability durability s =
    record {
      step = s.step;
      progress = s.progress;
      quality = s.quality;
      durability = durability;
      cp = s.cp;
      previous_combo_action = s.previous_combo_action;
      quick_innovation_available = s.quick_innovation_available;
      trained_perfection_active = s.trained_perfection_active;
      buffs = s.buffs;
      action = s.action;
    }

abbrev pub with_cp : ℕ → CraftState → CraftState
with_cp cp s =
    record {
      step = s.step;
      progress = s.progress;
      quality = s.quality;
      durability = s.durability;
      cp = cp;
      previous_combo_action = s.previous_combo_action;
      quick_innovation_available = s.quick_innovation_available;
      trained_perfection_active = s.trained_perfection_active;
      buffs = s.buffs;
      action = s.action;
    }

abbrev pub with_combo : Option Combo → CraftState → CraftState
with_combo combo s =
    record {
      step = s.step;
      progress = s.progress;
      quality = s.quality;
      durability = s.durability;
      cp = s.cp;
      previous_combo_action = combo;
      quick_innovation_available = s.quick_innovation_available;
      trained_perfection_active = s.trained_perfection_active;
      buffs = s.buffs;
      action = s.action;
    }

abbrev pub with_quick : Bool → CraftState → CraftState
with_quick quick s =
    record {
      step = s.step;
      progress = s.progress;
      quality = s.quality;
      durability = s.durability;
      cp = s.cp;
      previous_combo_action = s.previous_combo_action;
      quick_innovation_available = quick;
      trained_perfection_active = s.trained_perfection_active;
      buffs = s.buffs;
      action = s.action;
    }

abbrev pub with_perfection : Perfection → CraftState → CraftState
with_perfection perfection s =
    record {
      step = s.step;
      progress = s.progress;
      quality = s.quality;
      durability = s.durability;
      cp = s.cp;
      previous_combo_action = s.previous_combo_action;
      quick_innovation_available = s.quick_innovation_available;
      trained_perfection_active = perfection;
      buffs = s.buffs;
      action = s.action;
    }

abbrev pub with_buffs : Buffs → CraftState → CraftState
with_buffs buffs s =
    record {
      step = s.step;
      progress = s.progress;
      quality = s.quality;
      durability = s.durability;
      cp = s.cp;
      previous_combo_action = s.previous_combo_action;
      quick_innovation_available = s.quick_innovation_available;
      trained_perfection_active = s.trained_perfection_active;
      buffs = buffs;
      action = s.action;
    }

abbrev pub with_action : Option ℕ → CraftState → CraftState
with_action action s =
    record {
      step = s.step;
      progress = s.progress;
      quality = s.quality;
      durability = s.durability;
      cp = s.cp;
      previous_combo_action = s.previous_combo_action;
      quick_innovation_available = s.quick_innovation_available;
      trained_perfection_active = s.trained_perfection_active;
      buffs = s.buffs;
      action = action;
    }

-- ---- buffs with one changed

abbrev pub with_inner_quiet : ℕ → Buffs → Buffs
with_inner_quiet quiet b =
    record {
      inner_quiet = quiet;
      waste_not = b.waste_not;
      waste_not_ii = b.waste_not_ii;
      manipulation = b.manipulation;
      great_strides = b.great_strides;
      innovation = b.innovation;
      veneration = b.veneration;
      muscle_memory = b.muscle_memory;
    }

abbrev pub with_great_strides : ℕ → Buffs → Buffs
with_great_strides timer b =
    record {
      inner_quiet = b.inner_quiet;
      waste_not = b.waste_not;
      waste_not_ii = b.waste_not_ii;
      manipulation = b.manipulation;
      great_strides = timer;
      innovation = b.innovation;
      veneration = b.veneration;
      muscle_memory = b.muscle_memory;
    }

abbrev pub with_muscle_memory : ℕ → Buffs → Buffs
with_muscle_memory timer b =
    record {
      inner_quiet = b.inner_quiet;
      waste_not = b.waste_not;
      waste_not_ii = b.waste_not_ii;
      manipulation = b.manipulation;
      great_strides = b.great_strides;
      innovation = b.innovation;
      veneration = b.veneration;
      muscle_memory = timer;
    }
