-- For the contracts of inner functions: an ended rollout's score is a number, and the place is inside the draws or at their end.
-- Assumes nothing.
use Rattle.std.specs.Prelude.{ℕ, ◌≤◌, Ok, Err}
use Rattle.score.specs.Result.{ScoreIsNumber}
use Rattle.rollout.specs.Rollout.{Rolled}

abbrev pub EndsWithin : ℕ → Rolled → Type 0
EndsWithin draws (Ok (result, next)) = ScoreIsNumber result × (next ≤ draws)
EndsWithin draws (Err x) = Unit {0}
