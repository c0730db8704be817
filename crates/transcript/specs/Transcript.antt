-- Document 01, 'The replay program', "It prints the Display line at the start and after each executed action, then on one line the result".
-- Assumes nothing.
use Rattle.std.specs.Prelude.{List, [], ◌∷◌, ◌++◌, ℕ, Float, length, take}
use Rattle.std.specs.Float.{binary32}
use Rattle.std.specs.Float.Ieee.{to_bits}
use Rattle.text.specs.Bytes.{bytes}
use Rattle.text.specs.Decimal.{decimal_of}
use Rattle.text.specs.Hex.{hex_of}
use Rattle.craft_context.specs.declared.context.CraftContext.{CraftContext}
use Rattle.craft_state.specs.declared.state.CraftState.{CraftState}
use Rattle.craft_state.specs.Line.{display_of}
use Rattle.craft_state.specs.Start.{start_of}
use Rattle.step.specs.Step.{execute_of}
use Rattle.moves.specs.Modes.{plain}
use Rattle.score.specs.declared.result.CraftResult.{CraftResult}
use Rattle.score.specs.declared.result.CraftResult.TheVariants as R
use Rattle.simulator.specs.declared.replay.Replay.{Replay}
use Rattle.simulator.specs.Replay.{replay_of}

-- a state's line, and byte 10
unfoldable pub row_of : CraftContext → CraftState → List ℕ
row_of c s = display_of c s ++ bytes "\n"

-- the rows of the states after each action of a list, all executed
unfoldable pub rows_of : CraftContext → CraftState → List ℕ → List ℕ
rows_of c s [] = []
rows_of c s (n ∷ rest) = row_of c (execute_of c s n) ++ rows_of c (execute_of c s n) rest

-- the score by the eight digits of its bits
unfoldable pub finished_of : Float → List ℕ
finished_of score = bytes "finished " ++ hex_of (to_bits binary32 score)

unfoldable pub result_text_of : CraftResult → List ℕ
result_text_of (R.Finished score) = finished_of score
result_text_of R.DurabilityFailure = bytes "durability"
result_text_of R.MaxStepsFailure = bytes "steps"
result_text_of R.InvalidActionFailure = bytes "invalid"
result_text_of R.Continuing = bytes "continuing"

-- the result, and how many were executed of how many
unfoldable pub last_line_of : CraftResult → ℕ → ℕ → List ℕ
last_line_of result executed listed =
    result_text_of result ++ bytes " executed " ++ decimal_of executed ++ bytes " of " ++ decimal_of listed ++ bytes "\n"

-- what a replay's report says of its list
unfoldable pub reported_of : CraftContext → List ℕ → Replay → List ℕ
reported_of c list r = row_of c (start_of c) ++ rows_of c (start_of c) (take r.executed list) ++ last_line_of r.result r.executed (length list)

unfoldable pub transcript_of : CraftContext → List ℕ → List ℕ
transcript_of c list = reported_of c list (replay_of c plain list)

-- ---- how long they are at most

abbrev pub row_most : ℕ
row_most = 127

abbrev pub result_most : ℕ
result_most = 17

abbrev pub last_most : ℕ
last_most = 52

-- a row at the start and after each of 255 actions, and the last line, fit in these
abbrev pub transcript_most : ℕ
transcript_most = 32768
