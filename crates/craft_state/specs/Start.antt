-- The state in which a craft starts, as craft_state.rs makes it (document 01's P1), and the entry that answers it.
-- Assumes nothing.
use Rattle.std.specs.Prelude.{ℕ, Option, None, Result, Ok}
use Rattle.refusal.specs.declared.Refusal.{Refusal}
use Rattle.refusal.specs.Judge.{answering, Says}
use Rattle.action.specs.declared.price.Combo.{Combo}
use Rattle.craft_context.specs.declared.context.CraftContext.{CraftContext}
use Rattle.craft_context.specs.Limits.{context_tests}
use Rattle.craft_state.specs.Limits.{step_least}
use Rattle.craft_state.specs.Setters.{with_combo, with_perfection, with_action}
use Rattle.craft_state.specs.declared.buffs.Buffs.{Buffs}
use Rattle.craft_state.specs.declared.state.CraftState.{CraftState}
use Rattle.craft_state.specs.declared.state.Perfection.{Perfection}
use Rattle.craft_state.specs.declared.state.Perfection.TheVariants as P

abbrev pub no_buffs : Buffs
no_buffs =
    record {
      inner_quiet = 0;
      waste_not = 0;
      waste_not_ii = 0;
      manipulation = 0;
      great_strides = 0;
      innovation = 0;
      veneration = 0;
      muscle_memory = 0;
    }

unfoldable pub start_of : CraftContext → CraftState
start_of context =
    record {
      step = step_least;
      progress = 0;
      quality = context.starting_quality;
      durability = context.durability_max;
      cp = context.cp_max;
      previous_combo_action = None;
      quick_innovation_available = context.use_delineation;
      trained_perfection_active = P.Unused;
      buffs = no_buffs;
      action = None;
    }

-- a state with its enums renewed
unfoldable pub renewed_of : CraftState → Option Combo → Perfection → Option ℕ → CraftState
renewed_of state combo perfection last = with_combo combo (with_perfection perfection (with_action last state))

-- ---- the entry

abbrev pub Start : CraftContext → Result CraftState Refusal → Type 0
Start context r = Says answering (context_tests context) (Ok (start_of context)) r
