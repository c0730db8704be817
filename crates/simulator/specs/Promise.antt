-- Document 01, 'What the statements have to say', demand 3: what a replay promises, of the definitions by which the public entries answer.
-- `promised` (laws/Promise.antt) shows it of every replay.
-- Assumes nothing.
use Rattle.std.specs.Prelude.{◌≡◌, true, List, [], ◌∷◌, ℕ, ◌+◌, ◌≤◌, length, take}
use Rattle.std.specs.Int.Signed.{le_z}
use Rattle.laws.specs.Bits.{has}
use Rattle.action.specs.Bounds.{Rows}
use Rattle.action.specs.Limits.{quiet_most}
use Rattle.action.specs.Price.{charge_of}
use Rattle.action.specs.Table.{attributes_of}
use Rattle.craft_context.specs.declared.context.CraftContext.{CraftContext}
use Rattle.craft_state.specs.declared.state.CraftState.{CraftState}
use Rattle.craft_state.specs.Limits.{step_least, step_most, durability_least}
use Rattle.craft_state.specs.Inside.{CraftIn}
use Rattle.craft_state.specs.Start.{start_of}
use Rattle.step.specs.Step.{execute_by}
use Rattle.moves.specs.declared.mode.Mode.{Mode}
use Rattle.moves.specs.Moves.{moves_by}
use Rattle.score.specs.Bounds.{ScoreIsBounded}
use Rattle.simulator.specs.declared.replay.Replay.{Replay}
use Rattle.simulator.specs.Alone.{prices_by, steps_in}

-- the state after a list of actions, all executed, by any table
unfoldable pub after : Rows → CraftContext → CraftState → List ℕ → CraftState
after rows c s [] = s
after rows c s (n ∷ rest) = after rows c (execute_by rows c s n) rest

-- each action is legal where it stands: among the moves, as the public entry answers them
unfoldable pub EachLegal : Rows → CraftContext → Mode → CraftState → List ℕ → Type 0
EachLegal rows c mode s [] = Unit {0}
EachLegal rows c mode s (n ∷ rest) = (has (moves_by rows c s mode) n ≡ true) × EachLegal rows c mode (execute_by rows c s n) rest

-- what was charged on the way, each price by the combo of the state
unfoldable pub charges_by : Rows → CraftContext → CraftState → List ℕ → ℕ
charges_by rows c s [] = 0
charges_by rows c s (n ∷ rest) = charge_of n s.previous_combo_action (rows n).cp_cost + charges_by rows c (execute_by rows c s n) rest

module _ (rows : Rows) (c : CraftContext) (mode : Mode) (list : List ℕ) where
  -- the first k actions of the list, and the state after them
  abbrev first : ℕ → List ℕ
  first k = take k list

  abbrev reached : ℕ → CraftState
  reached k = after rows c (start_of c) (first k)

  -- ---- after each executed action: the first k of the list

  pub record AfterFirst (k : ℕ) : Type 0 where
    -- each was legal where it stood
    pub legal : EachLegal rows c mode (start_of c) (first k)
    -- points left plus the prices, each read from the list alone, are the starting points
    pub points : (reached k).cp + prices_by rows (first k) ≡ c.cp_max
    -- and these prices are what was charged
    pub charged : prices_by rows (first k) ≡ charges_by rows c (start_of c) (first k)
    -- step is one plus those other than QuickInnovation, and at most 255
    pub step : (reached k).step ≡ step_least + steps_in (first k)
    pub step_to : (reached k).step ≤ step_most
    -- durability is from -19 to its most, and inner quiet at most 10
    pub durability_from : le_z durability_least (reached k).durability ≡ true
    pub durability_to : le_z (reached k).durability c.durability_max ≡ true
    pub quiet : (reached k).buffs.inner_quiet ≤ quiet_most
    -- the state is inside the limits
    pub inside : CraftIn c (reached k)

  -- ---- the longest leading part whose actions are each legal where they stand

  pub record Longest (k : ℕ) : Type 0 where
    pub part : k ≤ length list
    pub legal : EachLegal rows c mode (start_of c) (first k)
    pub longest : (j : ℕ) → j ≤ length list → EachLegal rows c mode (start_of c) (first j) → j ≤ k

  -- ---- the promise

  pub record PromiseBy (replay : Replay) : Type 0 where
    pub executed : Longest replay.executed
    pub each : (k : ℕ) → k ≤ replay.executed → AfterFirst k
    pub state : replay.state ≡ reached replay.executed
    pub few : replay.executed ≤ step_most
    -- a finished score is below 1, and at least -1 where step_max is above 0 (document 02, E10)
    pub score : ScoreIsBounded c replay.result

-- by the table of action.rs
abbrev pub Promise : CraftContext → Mode → List ℕ → Replay → Type 0
Promise = PromiseBy attributes_of
