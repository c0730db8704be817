-- For the contracts of inner functions: the moves by sets, where each rule takes its actions off a set unless it holds.
-- Assumes nothing.
use Rattle.std.specs.Prelude.{Bool, cond, not, ◌&&◌, ◌||◌, ℕ, ◌+◌, eqb, leb, Option, Some, None}
use Rattle.laws.specs.Bits.{has}
use Rattle.action.specs.Actions as A
use Rattle.action.specs.Amount.{present}
use Rattle.action.specs.Gain.{progress_gain_of}
use Rattle.action.specs.Table.{attributes_of}
use Rattle.action.specs.declared.table.Attributes.{Attributes}
use Rattle.action_set.specs.Sets.{set_of, keep_of}
use Rattle.craft_context.specs.declared.context.CraftContext.{CraftContext}
use Rattle.craft_state.specs.declared.state.CraftState.{CraftState}
use Rattle.moves.specs.Rules.{eye_alone, outside_memory, outside_veneration, after_observe, may_progress, strict_rule}

-- what a rule over some actions leaves of a set: all where it holds, else the others
unfoldable pub unless_of : ℕ → ℕ → Bool → ℕ
unless_of set over holds = keep_of (λ n. not (has over n) || holds) set

-- the rules of strict mode by which attributes a candidate has, and by the action before it
abbrev pub kind_rule : CraftContext → CraftState → ℕ → Attributes → Bool
kind_rule c s n row =
    outside_memory c s row.quality_efficiency
    && outside_veneration s row.progress_efficiency row.quality_efficiency
    && after_observe s n

-- so much of an attribute; none counts 0
abbrev pub amount_of : Option ℕ → ℕ
amount_of (Some amount) = amount
amount_of None = 0

-- with that efficiency progress reaches its target
abbrev pub finishes_with : CraftContext → CraftState → ℕ → Bool
finishes_with c s efficiency =
    leb c.progress_target (s.progress + progress_gain_of c.base_progress_factor efficiency s.buffs.veneration s.buffs.muscle_memory)

-- those of a set that have progress and finish with it
abbrev pub finishing_of : CraftContext → CraftState → ℕ → ℕ
finishing_of c s set =
    keep_of (λ n. finishes_with c s (amount_of (attributes_of n).progress_efficiency))
    (keep_of (has (set_of (λ n. present (attributes_of n).progress_efficiency))) set)

-- what strict mode asks beyond an action's own rule
abbrev pub strict_beyond : CraftContext → CraftState → ℕ → Attributes → Bool
strict_beyond c s n row =
    cond (eye_alone c s) (eqb n A.TrainedEye)
    (strict_rule c s n && (kind_rule c s n row && may_progress c s row.progress_efficiency row.quality_efficiency))
