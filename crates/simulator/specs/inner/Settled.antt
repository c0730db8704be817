-- For the contracts of inner functions: a result that was found without the moves, once these are known.
-- Assumes nothing.
use Rattle.std.specs.Prelude.{cond, ℕ, eqb}
use Rattle.score.specs.declared.result.CraftResult.{CraftResult}
use Rattle.score.specs.declared.result.CraftResult.TheVariants as R

-- a craft that goes on with no move left is a failure
abbrev pub settled_of : CraftResult → ℕ → CraftResult
settled_of (R.Finished score) moves = R.Finished score
settled_of R.DurabilityFailure moves = R.DurabilityFailure
settled_of R.MaxStepsFailure moves = R.MaxStepsFailure
settled_of R.InvalidActionFailure moves = R.InvalidActionFailure
settled_of R.Continuing moves = cond (eqb moves 0) R.InvalidActionFailure R.Continuing
