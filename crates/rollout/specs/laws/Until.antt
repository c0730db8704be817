-- "until the state has a result": the definition asks for a move to draw from; of a state's own moves that is the same question, and so the rollout goes
-- through the states by their results.
-- Assumes nothing.
use Rattle.std.specs.Prelude.{◌≡◌, Bool, cond, not, List, [], ◌∷◌, ℕ, ◌+◌, eqb, leb, ltb, pos, Err}
use Rattle.std.proofs.Math.Path.{refl}
use Rattle.std.proofs.Common.{sym, ap, ◌∙◌}
use Rattle.std.proofs.Math.Bool.{true, false}
use Rattle.std.specs.Int.Signed.{le_z}
use Rattle.refusal.specs.declared.Refusal.TheVariants.{NoDraw, DrawTooHigh}
use Rattle.action_set.specs.Sets.{size_of}
use Rattle.craft_context.specs.declared.context.CraftContext.{CraftContext}
use Rattle.craft_state.specs.declared.state.CraftState.{CraftState}
use Rattle.moves.specs.declared.mode.Mode.{Mode}
use Rattle.moves.specs.Modes.{strict}
use Rattle.moves.specs.Moves.{ended, moves_of}
use Rattle.moves.specs.laws.Moves.{moves_ended}
use Rattle.action.specs.Table.{attributes_of}
use Rattle.score.specs.declared.result.CraftResult.{CraftResult}
use Rattle.score.specs.declared.result.CraftResult.TheVariants as R
use Rattle.score.specs.Score.{score_of}
use Rattle.score.specs.Result.{judged_by, result_of}
use Rattle.simulator.specs.laws.Replay.{going_result}
use Rattle.rollout.specs.Rollout.{drawn_state, strict_moves, Rolled, ends, rolled_from}

-- the Rust's `check_result` answers none
abbrev pub continues : CraftResult → Bool
continues (R.Finished score) = false
continues R.DurabilityFailure = false
continues R.MaxStepsFailure = false
continues R.InvalidActionFailure = false
continues R.Continuing = true

module _ (c : CraftContext) (s : CraftState) where
  no_moves_no_more : continues (judged_by c s 0) ≡ false
  unfolding judged_by
  no_moves_no_more = by (leb c.progress_target s.progress) (le_z s.durability (pos 0)) (leb c.step_max s.step)
    where
      by : (a d b : Bool)
          → continues (cond a (R.Finished (score_of c s)) (cond d R.DurabilityFailure (cond b R.MaxStepsFailure R.InvalidActionFailure))) ≡ false
      by true d b = refl
      by false true b = refl
      by false false true = refl
      by false false false = refl

  -- a state's moves are none where it has a result, and only there
  pub none_by_result : (mode : Mode) → eqb (moves_of c s mode) 0 ≡ not (continues (result_of c s mode))
  none_by_result mode = go (ended c s) refl
    where
      by : (b : Bool) → b ≡ not (continues (cond b R.InvalidActionFailure R.Continuing))
      by true = refl
      by false = refl

      go : (over : Bool) → ended c s ≡ over → eqb (moves_of c s mode) 0 ≡ not (continues (result_of c s mode))
      go true e = rw (moves_ended attributes_of c s mode e) (sym (ap not no_moves_no_more))
      go false e = by (eqb (moves_of c s mode) 0) ∙ ap (λ (r : CraftResult). not (continues r)) (sym (going_result attributes_of c mode s e))

-- ---- the rollout in the Rust's words

unfoldable pub rolled_until : CraftContext → CraftState → ℕ → List ℕ → Rolled
rolled_until c s at [] = cond (continues (result_of c s strict)) (Err NoDraw) (ends (result_of c s strict) at)
rolled_until c s at (d ∷ draws) =
    cond (continues (result_of c s strict))
    (cond (ltb d (size_of (strict_moves c s))) (rolled_until c (drawn_state c s (strict_moves c s) d) (at + 1) draws) (Err DrawTooHigh))
    (ends (result_of c s strict) at)

turned : (b : Bool) (x y : Rolled) → cond (not b) x y ≡ cond b y x
turned true x y = refl
turned false x y = refl

-- THE law: from a state's strict moves on, the two are one
pub rolled_until_lem : (c : CraftContext) (s : CraftState) (at : ℕ) (draws : List ℕ) → rolled_from c s (strict_moves c s) at draws ≡ rolled_until c s at draws
unfolding rolled_from rolled_until
rolled_until_lem c s at [] = rw (none_by_result c s strict) (turned (continues (result_of c s strict)) (ends (result_of c s strict) at) (Err NoDraw))
rolled_until_lem c s at (d ∷ draws) =
    rw (none_by_result c s strict, rolled_until_lem c (drawn_state c s (strict_moves c s) d) (at + 1) draws)
    (turned (continues (result_of c s strict)) (ends (result_of c s strict) at)
    (cond (ltb d (size_of (strict_moves c s))) (rolled_until c (drawn_state c s (strict_moves c s) d) (at + 1) draws) (Err DrawTooHigh)))
