-- How the definition of a replay unrolls, as the loop takes it: by whether the state has ended, and whether the next action passes.
-- Assumes nothing.
use Rattle.std.specs.Prelude.{◌≡◌, Bool, ◌||◌, ℕ, ◌+◌, ◌≤◌, ◌<◌, eqb, leb, pos, length, drop, get_or}
use Rattle.std.proofs.Math.Path.{refl, ap}
use Rattle.std.proofs.Common.{sym, ◌∙◌, le_antisymm, pow_pos, eqb-true}
use Rattle.std.proofs.Math.Bool.{true, false, cond}
use mathlib.Core.List.{List, [], ◌∷◌}
use Rattle.std.proofs.Math.Seq.{drop-length}
use Rattle.std.specs.Int.Signed.{le_z}
use Rattle.laws.specs.laws.Tests.{true_false}
use Rattle.laws.specs.laws.Lists.{drop_at}
use Rattle.laws.specs.Bits.{has}
use Rattle.laws.specs.laws.Bits.{has_high}
use Rattle.action.specs.Bounds.{Rows}
use Rattle.action.specs.Known.{actions}
use Rattle.craft_context.specs.declared.context.CraftContext.{CraftContext}
use Rattle.craft_state.specs.declared.state.CraftState.{CraftState}
use Rattle.step.specs.Step.{execute_by}
use Rattle.moves.specs.declared.mode.Mode.{Mode}
use Rattle.moves.specs.Moves.{ended, moves_by}
use Rattle.moves.specs.inner.Legal.{passes_by}
use Rattle.moves.specs.laws.Moves.{has_moves}
use Rattle.score.specs.declared.result.CraftResult.{CraftResult}
use Rattle.score.specs.declared.result.CraftResult.TheVariants as R
use Rattle.score.specs.Score.{score_of}
use Rattle.score.specs.Result.{judged_by, result_by}
use Rattle.simulator.specs.Replay.{goes_on, stopped_at, stop_by, slip_by, replay_from}
use Rattle.simulator.specs.declared.replay.Replay.{Replay}
use Rattle.simulator.specs.inner.Settled.{settled_of}

module _ (rows : Rows) (c : CraftContext) (mode : Mode) (s : CraftState) where
  -- ---- the result of a state that has ended, and of one that has not

  ended_stops : ended c s ≡ true → goes_on (result_by rows c s mode) ≡ false
  unfolding judged_by
  ended_stops = by (leb c.progress_target s.progress) (leb c.step_max s.step) (le_z s.durability (pos 0)) (eqb (moves_by rows c s mode) 0)
    where
      by : (a b d m : Bool) → a || b || d ≡ true
          → goes_on (cond a (R.Finished (score_of c s)) (cond d R.DurabilityFailure (cond b R.MaxStepsFailure (cond m R.InvalidActionFailure R.Continuing))))
          ≡ false
      by true b d m e = refl
      by false b true m e = refl
      by false true false m e = refl
      by false false false m e = absurd (true_false (sym e))

  pub going_result : ended c s ≡ false → result_by rows c s mode ≡ cond (eqb (moves_by rows c s mode) 0) R.InvalidActionFailure R.Continuing
  unfolding judged_by
  going_result = by (leb c.progress_target s.progress) (leb c.step_max s.step) (le_z s.durability (pos 0))
    where
      by : (a b d : Bool) → a || b || d ≡ false
          → cond a (R.Finished (score_of c s))
          (cond d R.DurabilityFailure (cond b R.MaxStepsFailure (cond (eqb (moves_by rows c s mode) 0) R.InvalidActionFailure R.Continuing)))
          ≡ cond (eqb (moves_by rows c s mode) 0) R.InvalidActionFailure R.Continuing
      by false false false e = refl
      by true b d e = absurd (true_false e)
      by false true d e = absurd (true_false e)
      by false false true e = absurd (true_false e)

  -- ---- the same by the result that is found without the moves

  settled_ended : ended c s ≡ true → result_by rows c s mode ≡ settled_of (judged_by c s 0) (moves_by rows c s mode)
  unfolding judged_by
  settled_ended = by (leb c.progress_target s.progress) (leb c.step_max s.step) (le_z s.durability (pos 0))
    where
      by : (a b d : Bool) → a || b || d ≡ true
          → cond a (R.Finished (score_of c s))
          (cond d R.DurabilityFailure (cond b R.MaxStepsFailure (cond (eqb (moves_by rows c s mode) 0) R.InvalidActionFailure R.Continuing)))
          ≡ settled_of
          (cond a (R.Finished (score_of c s)) (cond d R.DurabilityFailure (cond b R.MaxStepsFailure (cond true R.InvalidActionFailure R.Continuing))))
          (moves_by rows c s mode)
      by true b d e = refl
      by false b true e = refl
      by false true false e = refl
      by false false false e = absurd (true_false (sym e))

  -- what is reported where the loop was broken with a result
  abbrev pub broken_with : ℕ → CraftResult → Replay
  broken_with k result = stopped_at rows c mode s k (settled_of result (moves_by rows c s mode))

  -- a legal move keeps the craft going
  legal_on : (n : ℕ) → ended c s ≡ false → has (moves_by rows c s mode) n ≡ true → goes_on (result_by rows c s mode) ≡ true
  legal_on n e t = rw (going_result e) (by (eqb (moves_by rows c s mode) 0) (eqb-true (moves_by rows c s mode) 0))
    where
      by : (b : Bool) → (b ≡ true → moves_by rows c s mode ≡ 0) → goes_on (cond b R.InvalidActionFailure R.Continuing) ≡ true
      by true f = absurd (true_false (sym t ∙ ap (λ (set : ℕ). has set n) (f refl) ∙ has_high 0 n (pow_pos n)))
      by false f = refl

  -- ---- the next action

  module _ (n : ℕ) (h : n < actions) where
    pub legal_is : {b : Bool} → ended c s ≡ false → passes_by rows c s mode n ≡ b → has (moves_by rows c s mode) n ≡ b
    legal_is e p = has_moves rows c s mode n h ∙ rw e p

    pub replay_on : (k : ℕ) (rest : List ℕ) → ended c s ≡ false → passes_by rows c s mode n ≡ true
        → replay_from rows c mode s k (n ∷ rest) ≡ replay_from rows c mode (execute_by rows c s n) (k + 1) rest
    unfolding replay_from
    replay_on k rest e p = rw (legal_on n e (legal_is e p), legal_is e p)

    pub replay_slip : (k : ℕ) (rest : List ℕ) → ended c s ≡ false → passes_by rows c s mode n ≡ false → replay_from rows c mode s k (n ∷ rest) ≡ slip_by rows c mode s k
    unfolding replay_from stop_by slip_by
    replay_slip k rest e p = rw (legal_is e p, going_result e) (by (eqb (moves_by rows c s mode) 0))
      where
        by : (b : Bool)
            → cond (goes_on (cond b R.InvalidActionFailure R.Continuing)) (slip_by rows c mode s k)
            (record { state = s; moves = record { 0 = moves_by rows c s mode }; result = cond b R.InvalidActionFailure R.Continuing; executed = k })
            ≡ record { state = s; moves = record { 0 = moves_by rows c s mode }; result = R.InvalidActionFailure; executed = k }
        by true = refl
        by false = refl

  pub replay_ended : (k : ℕ) (list : List ℕ) → ended c s ≡ true → replay_from rows c mode s k list ≡ broken_with k (judged_by c s 0)
  unfolding replay_from stop_by
  replay_ended k [] e = ap (stopped_at rows c mode s k) (settled_ended e)
  replay_ended k (n ∷ rest) e = rw (ended_stops e) (ap (stopped_at rows c mode s k) (settled_ended e))

  replay_none : (k : ℕ) → ended c s ≡ false → replay_from rows c mode s k [] ≡ broken_with k R.Continuing
  unfolding replay_from stop_by
  replay_none k e = ap (stopped_at rows c mode s k) (going_result e)

  -- ---- the same of a list from a place on

  module _ (list : List ℕ) (i : ℕ) where
    pub place_on : i < length list → get_or list i 0 < actions → ended c s ≡ false → passes_by rows c s mode (get_or list i 0) ≡ true
        → replay_from rows c mode s i (drop i list) ≡ replay_from rows c mode (execute_by rows c s (get_or list i 0)) (i + 1) (drop (i + 1) list)
    place_on l h e p = ap (replay_from rows c mode s i) (drop_at list i l) ∙ replay_on (get_or list i 0) h i (drop (i + 1) list) e p

    pub place_slip : i < length list → get_or list i 0 < actions → ended c s ≡ false → passes_by rows c s mode (get_or list i 0) ≡ false
        → replay_from rows c mode s i (drop i list) ≡ broken_with i R.InvalidActionFailure
    unfolding slip_by
    place_slip l h e p = ap (replay_from rows c mode s i) (drop_at list i l) ∙ replay_slip (get_or list i 0) h i (drop (i + 1) list) e p

    pub place_end : i ≤ length list → length list ≤ i → ended c s ≡ false → replay_from rows c mode s i (drop i list) ≡ broken_with i R.Continuing
    place_end l m e =
        ap (replay_from rows c mode s i) (ap (λ (k : ℕ). drop k list) (le_antisymm l m) ∙ drop-length list) ∙ replay_none i e
