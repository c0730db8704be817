-- For the contracts of inner functions: a state inside the limits, and a set of moves of it, plain or strict.
-- Assumes nothing.
use Rattle.std.specs.Prelude.{◌≡◌, true, ℕ}
use Rattle.laws.specs.Bits.{has}
use Rattle.action_set.specs.Sets.{SetIn}
use Rattle.craft_context.specs.declared.context.CraftContext.{CraftContext}
use Rattle.craft_state.specs.declared.state.CraftState.{CraftState}
use Rattle.craft_state.specs.Inside.{CraftIn}
use Rattle.moves.specs.Modes.{plain}
use Rattle.moves.specs.Moves.{moves_of}

-- strict moves are a part of the plain ones
pub record Movable (c : CraftContext) (s : CraftState) (set : ℕ) : Type 0 where
  pub inside : CraftIn c s
  pub known : SetIn set
  pub legal : (n : ℕ) → has set n ≡ true → has (moves_of c s plain) n ≡ true
