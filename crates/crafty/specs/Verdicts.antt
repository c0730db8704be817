-- Document 01, "Results and scores" and its last sentence: of a result, which is an enum, the number and the value for each of its cases.
-- Assumes nothing.
use Rattle.std.specs.Prelude.{List, ℕ, Float}
use Rattle.score.specs.declared.result.CraftResult.{CraftResult}
use Rattle.score.specs.Result.{verdict_of, scores_in}

pub record Verdict : Type 0 where
  -- 0 finished, 1 durability failure, 2 max steps failure, 3 invalid, 4 continuing
  pub number : ℕ
  -- the score of a finished craft, and none of another
  pub scores : List Float

abbrev pub verdict_in : CraftResult → Verdict
verdict_in result = record { number = verdict_of result; scores = scores_in result }
