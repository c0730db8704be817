-- Document 01, Results and scores: replay "reports the state, its moves, the result and the number executed". These as numbers, in the order that
-- include/crafty.h gives; and a state alone, which the search of document 02, E7, answers.
-- Assumes nothing.
use Rattle.std.specs.Prelude.{Bool, cond, List, [], ◌∷◌, ℕ, ◌-◌, ◌^◌, ℤ, pos, negsuc, Option, None, Some}
use Rattle.std.specs.Float.{binary32}
use Rattle.std.specs.Float.Ieee.{to_bits}
use Rattle.action.specs.Known.{actions}
use Rattle.action.specs.Price.{combo_number}
use Rattle.craft_state.specs.declared.state.CraftState.{CraftState}
use Rattle.craft_state.specs.Perfection.{perfection_number}
use Rattle.score.specs.declared.result.CraftResult.{CraftResult}
use Rattle.score.specs.declared.result.CraftResult.TheVariants as R
use Rattle.score.specs.Result.{verdict_of}
use Rattle.simulator.specs.declared.replay.Replay.{Replay}
use Rattle.crafty_c.specs.declared.numbers.CraftyState.{CraftyState}

-- how many there are
abbrev pub numbers_length : ℕ
numbers_length = 21

-- the score's bits
abbrev pub score_number : CraftResult → ℕ
score_number (R.Finished score) = to_bits binary32 score
score_number R.DurabilityFailure = 0
score_number R.MaxStepsFailure = 0
score_number R.InvalidActionFailure = 0
score_number R.Continuing = 0

-- two's complement: -1 is the greatest number of 32 bits
abbrev pub word_of : ℤ → ℕ
word_of (pos n) = n
word_of (negsuc k) = 2 ^ 32 - 1 - k

-- none is one past the actions
abbrev pub last_number : Option ℕ → ℕ
last_number None = actions
last_number (Some n) = n

abbrev pub flag_number : Bool → ℕ
flag_number b = cond b 1 0

-- a state's seventeen fields, by their names
abbrev pub state_of : CraftState → CraftyState
state_of s =
    record {
      step = s.step;
      progress = s.progress;
      quality = s.quality;
      durability = word_of s.durability;
      cp = s.cp;
      combo = combo_number s.previous_combo_action;
      quick_innovation = flag_number s.quick_innovation_available;
      trained_perfection = perfection_number s.trained_perfection_active;
      inner_quiet = s.buffs.inner_quiet;
      waste_not = s.buffs.waste_not;
      waste_not_ii = s.buffs.waste_not_ii;
      manipulation = s.buffs.manipulation;
      great_strides = s.buffs.great_strides;
      innovation = s.buffs.innovation;
      veneration = s.buffs.veneration;
      muscle_memory = s.buffs.muscle_memory;
      last_action = last_number s.action;
    }

-- where there is none
abbrev pub no_state : CraftyState
no_state =
    record {
      step = 0;
      progress = 0;
      quality = 0;
      durability = 0;
      cp = 0;
      combo = 0;
      quick_innovation = 0;
      trained_perfection = 0;
      inner_quiet = 0;
      waste_not = 0;
      waste_not_ii = 0;
      manipulation = 0;
      great_strides = 0;
      innovation = 0;
      veneration = 0;
      muscle_memory = 0;
      last_action = 0;
    }

-- the same in their order
abbrev state_numbers : CraftyState → List ℕ
state_numbers s =
    s.step
    ∷ s.progress
    ∷ s.quality
    ∷ s.durability
    ∷ s.cp
    ∷ s.combo
    ∷ s.quick_innovation
    ∷ s.trained_perfection
    ∷ s.inner_quiet
    ∷ s.waste_not
    ∷ s.waste_not_ii
    ∷ s.manipulation
    ∷ s.great_strides
    ∷ s.innovation
    ∷ s.veneration
    ∷ s.muscle_memory
    ∷ s.last_action
    ∷ []

-- the result, its score, how many actions were executed, the moves, and the state
abbrev pub replay_numbers : Replay → List ℕ
replay_numbers report = verdict_of report.result ∷ score_number report.result ∷ report.executed ∷ report.moves.0 ∷ state_numbers (state_of report.state)
