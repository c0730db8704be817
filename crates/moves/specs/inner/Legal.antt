-- For the contracts of inner functions: one candidate that the pool has, by its row.
-- Assumes nothing.
use Rattle.std.specs.Prelude.{Bool, not, ◌&&◌, ℕ}
use Rattle.laws.specs.Bits.{has}
use Rattle.action.specs.Bounds.{Rows}
use Rattle.action.specs.declared.table.Attributes.{Attributes}
use Rattle.craft_context.specs.declared.context.CraftContext.{CraftContext}
use Rattle.craft_state.specs.declared.state.CraftState.{CraftState}
use Rattle.moves.specs.Moves.{allowed_of, ended}
use Rattle.moves.specs.declared.mode.Mode.{Mode}

-- the pool has it, and it passes
abbrev pub passed_of : CraftContext → CraftState → Mode → ℕ → Attributes → Bool
passed_of c s mode n row = has c.action_pool.0 n && allowed_of c s mode n row

-- legal in any state, by its row
abbrev pub legal_of : CraftContext → CraftState → Mode → ℕ → Attributes → Bool
legal_of c s mode n row = not (ended c s) && passed_of c s mode n row

-- by any table
abbrev pub passes_by : Rows → CraftContext → CraftState → Mode → ℕ → Bool
passes_by rows c s mode n = passed_of c s mode n (rows n)
