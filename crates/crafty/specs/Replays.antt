-- Document 01, 'Results and scores', and demand 3: what the public entry of replay answers, for any context, mode and list.
-- Assumes nothing.
use Rattle.std.specs.Prelude.{◌≡◌, List, [], ◌∷◌, ◌++◌, ℕ, Result, Ok, Err, IfOk}
use Rattle.refusal.specs.declared.Refusal.{Refusal}
use Rattle.refusal.specs.Judge.{Test, judged, Says, answering}
use Rattle.action.specs.Known.{list_test}
use Rattle.craft_context.specs.declared.context.CraftContext.{CraftContext}
use Rattle.craft_context.specs.Limits.{context_tests}
use Rattle.moves.specs.declared.mode.Mode.{Mode}
use Rattle.score.specs.Result.{ScoreIsNumber}
use Rattle.simulator.specs.declared.replay.Replay.{Replay}
use Rattle.simulator.specs.Replay.{replay_of}
use Rattle.simulator.specs.Promise.{Promise}
use Rattle.crafty.specs.Verdicts.{Verdict, verdict_in}

-- the number and score of the result that is reported, and none where the call is refused
abbrev pub verdicts_in : Result Replay Refusal → List Verdict
verdicts_in (Ok replay) = verdict_in replay.result ∷ []
verdicts_in (Err x) = []

-- refusal 1, then refusal 3 over the whole list
abbrev pub replay_tests : CraftContext → List ℕ → List Test
replay_tests context list = context_tests context ++ (list_test list ∷ [])

pub record Replays (context : CraftContext) (mode : Mode) (list : List ℕ) (r : Result Replay Refusal) : Type 0 where
  -- the report that the definition gives, or a refusal
  pub says : Says answering (replay_tests context list) (Ok (replay_of context mode list)) r
  -- its result by its number, 0 to 4, and with its score
  pub verdict : verdicts_in r ≡ judged (λ x. []) (verdict_in (replay_of context mode list).result ∷ []) (replay_tests context list)
  -- which executes the longest leading part whose actions are each legal where they stand, with all that demand 3 says of each action
  pub promise : IfOk r (Promise context mode list)
  -- no score is a NaN
  pub score : IfOk r (λ replay. ScoreIsNumber replay.result)
