-- For the contracts of inner functions: what those of one action ask, a context and a state inside the limits, and what makes the action legal there.
-- Assumes nothing.
use Rattle.std.specs.Prelude.{◌≡◌, false, ℕ, ◌≤◌, ◌<◌, pos, Option, Some, None}
use Rattle.std.specs.Int.Signed.{le_z}
use Rattle.action.specs.Known.{actions}
use Rattle.action.specs.Limits.{amount_most, factor_most, target_most, progress_most, quiet_most}
use Rattle.action.specs.Amount.{AtMost}
use Rattle.action.specs.Price.{charge_of}
use Rattle.action.specs.declared.table.Attributes.{Attributes}
use Rattle.action.specs.declared.price.Combo.{Combo}
use Rattle.craft_context.specs.declared.context.CraftContext.{CraftContext}
use Rattle.craft_state.specs.declared.state.CraftState.{CraftState}
use Rattle.craft_state.specs.Inside.{CraftIn}

-- said of an attribute where there is one
abbrev pub Where : Option ℕ → Type 0 → Type 0
Where (Some amount) holds = holds
Where None holds = Unit {0}

-- the price charged is at most the points
abbrev pub Payable : ℕ → Option Combo → ℕ → Option ℕ → Type 0
Payable cp combo n cost = charge_of n combo cost ≤ cp

-- what a legal action rests on, by its row
pub record Playable (c : CraftContext) (s : CraftState) (n : ℕ) (row : Attributes) : Type 0 where
  pub given : CraftIn c s
  pub known : n < actions
  pub below : s.progress < c.progress_target
  pub early : s.step < c.step_max
  pub alive : le_z s.durability (pos 0) ≡ false
  pub quality : Where row.quality_efficiency (s.quality < c.quality_target)
  pub payable : Payable s.cp s.previous_combo_action n row.cp_cost

-- ---- what its parts ask

pub record Progressing (c : CraftContext) (s : CraftState) (efficiency : Option ℕ) : Type 0 where
  pub row : AtMost progress_most efficiency
  pub factor : c.base_progress_factor ≤ factor_most
  pub progress : s.progress ≤ amount_most

pub record Touching (c : CraftContext) (s : CraftState) : Type 0 where
  pub factor : c.base_quality_factor ≤ factor_most
  pub target : c.quality_target ≤ target_most
  pub quality : s.quality ≤ amount_most
  pub quiet : s.buffs.inner_quiet ≤ quiet_most
