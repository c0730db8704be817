-- Document 01's "Limits", of a context and a state, as facts: what the tests of refusals 1 and 2 have shown. Inner functions ask for them.
-- Assumes nothing.
use Rattle.std.specs.Prelude.{◌≡◌, true, ◌≤◌, ℤ}
use Rattle.std.specs.Int.Signed.{le_z}
use Rattle.action.specs.Limits.{amount_most, quiet_most}
use Rattle.craft_context.specs.declared.context.CraftContext.{CraftContext}
use Rattle.craft_context.specs.Limits.{durable, ContextIn}
use Rattle.craft_state.specs.Limits.{step_least, durability_least, last_known, combo_agrees}
use Rattle.craft_state.specs.Limits.{waste_not_most, waste_not_ii_most, manipulation_most, great_strides_most, innovation_most, veneration_most, muscle_memory_most}
use Rattle.craft_state.specs.declared.buffs.Buffs.{Buffs}
use Rattle.craft_state.specs.declared.state.CraftState.{CraftState}

-- from -19 to the most, which is from 1 to 97
pub record DurabilityIn (d most : ℤ) : Type 0 where
  pub from : le_z durability_least d ≡ true
  pub to : le_z d most ≡ true
  pub top : durable most ≡ true

pub record BuffsIn (b : Buffs) : Type 0 where
  pub quiet : b.inner_quiet ≤ quiet_most
  pub waste_not : b.waste_not ≤ waste_not_most
  pub waste_not_ii : b.waste_not_ii ≤ waste_not_ii_most
  pub manipulation : b.manipulation ≤ manipulation_most
  pub great_strides : b.great_strides ≤ great_strides_most
  pub innovation : b.innovation ≤ innovation_most
  pub veneration : b.veneration ≤ veneration_most
  pub muscle_memory : b.muscle_memory ≤ muscle_memory_most

pub record StateIn (context : CraftContext) (state : CraftState) : Type 0 where
  pub step : step_least ≤ state.step
  pub progress : state.progress ≤ amount_most
  pub quality : state.quality ≤ amount_most
  pub durability : DurabilityIn state.durability context.durability_max
  pub cp : state.cp ≤ context.cp_max
  pub combo : combo_agrees state.previous_combo_action state.action ≡ true
  pub buffs : BuffsIn state.buffs
  pub last : last_known state.action ≡ true

-- what every inner function over a state rests on
pub record CraftIn (c : CraftContext) (s : CraftState) : Type 0 where
  pub context : ContextIn c
  pub state : StateIn c s
