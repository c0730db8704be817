-- Document 02, E7: "Port .. `expand_and_rollout`. In place of `SmallRng` the caller lends the draws, each the nth that `random_index` would take"; "19 draws used
-- up, 20 draw not below the size; .. 20 after 19". From a state on draws name moves, until the state has a result.
-- Assumes nothing.
use Rattle.std.specs.Prelude.{cond, List, [], ◌∷◌, ℕ, zero, suc, ◌+◌, eqb, ltb, Result, Ok, Err}
use Rattle.refusal.specs.declared.Refusal.{Refusal}
use Rattle.refusal.specs.declared.Refusal.TheVariants.{NoDraw, DrawTooHigh}
use Rattle.action_set.specs.Sets.{size_of, nth_of}
use Rattle.craft_context.specs.declared.context.CraftContext.{CraftContext}
use Rattle.craft_state.specs.declared.state.CraftState.{CraftState}
use Rattle.step.specs.Step.{execute_of}
use Rattle.moves.specs.Modes.{strict}
use Rattle.moves.specs.Moves.{moves_of}
use Rattle.score.specs.declared.result.CraftResult.{CraftResult}
use Rattle.score.specs.Result.{judged_by}

-- the state after the move that draw d names, and its strict moves
abbrev pub drawn_state : CraftContext → CraftState → ℕ → ℕ → CraftState
drawn_state c s moves d = execute_of c s (nth_of moves d)

abbrev pub strict_moves : CraftContext → CraftState → ℕ
strict_moves c s = moves_of c s strict

-- the result, and the place after the last draw that was used; or a refusal
abbrev pub Rolled : Type 0
Rolled = Result (CraftResult × ℕ) Refusal

abbrev pub ends : CraftResult → ℕ → Rolled
ends result next = Ok (result, next)

-- in a state with these moves to draw from, after `at` draws: its result where there is none, and else on from the next state
unfoldable pub rolled_from : CraftContext → CraftState → ℕ → ℕ → List ℕ → Rolled
rolled_from c s moves at [] = cond (eqb moves 0) (ends (judged_by c s moves) at) (Err NoDraw)
rolled_from c s moves at (d ∷ draws) =
    cond (eqb moves 0) (ends (judged_by c s moves) at)
    (cond (ltb d (size_of moves))
    (rolled_from c (drawn_state c s moves d) (strict_moves c (drawn_state c s moves d)) (at + 1) draws)
    (Err DrawTooHigh))

-- the actions that the first so many draws name
unfoldable pub sampled_of : CraftContext → CraftState → ℕ → ℕ → List ℕ → List ℕ
sampled_of c s moves zero draws = []
sampled_of c s moves (suc n) [] = []
sampled_of c s moves (suc n) (d ∷ draws) =
    nth_of moves d ∷ sampled_of c (drawn_state c s moves d) (strict_moves c (drawn_state c s moves d)) n draws
