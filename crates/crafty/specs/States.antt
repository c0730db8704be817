-- Document 01, 'One action', 'Legal moves' and 'Results and scores': what each public entry over states answers, for any context, state, mode and
-- number: its tests in the order of the refusals, then its answer.
-- Assumes nothing.
use Rattle.std.specs.Prelude.{◌≡◌, not, List, [], ◌∷◌, ◌++◌, ℕ, T, Float, Result, Ok, Err, IfOk}
use Rattle.std.specs.Float.Ieee.{is_nan}
use Rattle.laws.specs.Bits.{has}
use Rattle.refusal.specs.declared.Refusal.{Refusal}
use Rattle.refusal.specs.declared.Refusal.TheVariants.{IllegalAction}
use Rattle.refusal.specs.Judge.{Test, judged, Says, answering}
use Rattle.action.specs.Known.{action_test}
use Rattle.action_set.specs.declared.ActionSet.{ActionSet}
use Rattle.craft_context.specs.declared.context.CraftContext.{CraftContext}
use Rattle.craft_state.specs.declared.state.CraftState.{CraftState}
use Rattle.craft_state.specs.Limits.{given_tests}
use Rattle.craft_state.specs.Line.{display_of}
use Rattle.step.specs.Step.{execute_of}
use Rattle.moves.specs.declared.mode.Mode.{Mode}
use Rattle.moves.specs.Moves.{moves_of}
use Rattle.score.specs.declared.result.CraftResult.{CraftResult}
use Rattle.score.specs.Score.{score_of}
use Rattle.score.specs.Result.{result_of, ScoreIsNumber}
use Rattle.crafty.specs.Room.{WritesText}
use Rattle.crafty.specs.Verdicts.{Verdict, verdict_in}

abbrev pub HasMoves : CraftContext → CraftState → Mode → Result ActionSet Refusal → Type 0
HasMoves context state mode r = Says answering (given_tests context state) (Ok (record { 0 = moves_of context state mode })) r

-- refusal 4: the action is not among the state's moves in the mode
abbrev pub legal_test : CraftContext → CraftState → Mode → ℕ → Test
legal_test context state mode n = record { passed = has (moves_of context state mode) n; otherwise = IllegalAction }

abbrev pub Steps : CraftContext → CraftState → Mode → ℕ → Result CraftState Refusal → Type 0
Steps context state mode n r = Says answering (given_tests context state ++ (action_test n ∷ legal_test context state mode n ∷ [])) (Ok (execute_of context state n)) r

-- the result's number and score, and none where the call is refused
abbrev pub verdicts_of : Result CraftResult Refusal → List Verdict
verdicts_of (Ok result) = verdict_in result ∷ []
verdicts_of (Err x) = []

pub record HasResult (context : CraftContext) (state : CraftState) (mode : Mode) (r : Result CraftResult Refusal) : Type 0 where
  -- refusal 1, then refusal 2; else the result that the definition gives
  pub says : Says answering (given_tests context state) (Ok (result_of context state mode)) r
  -- by its number, 0 to 4, and with its score
  pub verdict : verdicts_of r ≡ judged (λ x. []) (verdict_in (result_of context state mode) ∷ []) (given_tests context state)
  -- no score is a NaN, in a result or alone
  pub score : IfOk r ScoreIsNumber

abbrev pub HasScore : CraftContext → CraftState → Result Float Refusal → Type 0
HasScore context state r = Says answering (given_tests context state) (Ok (score_of context state)) r × IfOk r (λ score. T (not (is_nan score)))

abbrev pub HasLine : CraftContext → CraftState → List ℕ → Result ℕ Refusal → List ℕ → Type 0
HasLine context state out r after = WritesText (given_tests context state) (display_of context state) out r after
