-- For the contracts of inner functions: what the rows of a replay ask of its executed part.
-- Assumes nothing.
use Rattle.std.specs.Prelude.{List, ℕ}
use Rattle.action.specs.Table.{attributes_of}
use Rattle.craft_context.specs.declared.context.CraftContext.{CraftContext}
use Rattle.craft_state.specs.declared.state.CraftState.{CraftState}
use Rattle.moves.specs.Modes.{plain}
use Rattle.simulator.specs.Promise.{EachLegal}
use Rattle.simulator.specs.inner.Known.{AllKnown}

-- asked of such a list: known actions, each legal where it stands
pub record Played (c : CraftContext) (s : CraftState) (part : List ℕ) : Type 0 where
  pub known : AllKnown part
  pub legal : EachLegal attributes_of c plain s part
