-- For the contracts of inner functions: what the code reads a line into, and what it asks of digits.
-- Assumes nothing.
use Rattle.std.specs.Prelude.{◌≡◌, true, cond, List, ℕ, ◌+◌, ◌-◌, ◌≤◌, ◌<◌, length, take, drop, get_or, Option, Some, None}
use Rattle.text.specs.Reading.{value_of}
use Rattle.context_line.specs.Shape.{digit, digits, digits_most, wide, line_shaped, numbers_of}

-- digits alone, few enough for a number: what `runs::number` asks
pub record Run (text : List ℕ) : Type 0 where
  pub few : length text ≤ digits_most
  pub each : (i : ℕ) → i < length text → digit (get_or text i 0) ≡ true

-- a number of 1 to 10 digits at a place of a line, and where it ends
pub record Numbered (line : List ℕ) (at n end : ℕ) : Type 0 where
  pub ends : end ≡ at + digits (drop at line)
  pub broad : wide (end - at) ≡ true
  pub value : n ≡ value_of (take (end - at) (drop at line))

-- what the code reads a line into: its numbers where it is shaped
abbrev pub read_of : List ℕ → Option (List ℕ)
read_of line = cond (line_shaped line) (Some (numbers_of line)) None
