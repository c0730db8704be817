-- `rollout::rollout::roll_out` meets its contract.
-- Assumes nothing.
use mathlib.Core.Path.{◌≡◌, sym, ap, ◌∙◌}
use mathlib.Core.Bool.{true}
use mathlib.Core.List.{List}
use Prim.Native.Nat.{ℕ, ◌+◌, ◌<◌}
use native.Mathlib.Omega.{arith}
use lib.ListN.{length, drop}
use Rattle.std.proofs.Common.{Ok, Err, rules}
use Rattle.laws.specs.Bits.{has}
use Rattle.action.specs.Known.{actions}
use Rattle.action.specs.Table.{attributes_of}
use Rattle.action.specs.laws.Bounds.{rows_bounded}
use Rattle.craft_context.specs.declared.context.CraftContext.{CraftContext}
use Rattle.craft_state.specs.declared.state.CraftState.{CraftState}
use Rattle.craft_state.specs.Inside.{CraftIn}
use Rattle.step.specs.Step.{executed_of, execute_of}
use Rattle.moves.specs.Modes.{plain, strict}
use Rattle.moves.specs.Moves.{moves_of}
use Rattle.moves.specs.laws.Moves.{strict_part, legal_known, legal_playable, legal_keeps}
use Rattle.score.specs.declared.result.CraftResult.{CraftResult}
use Rattle.rollout.specs.Draws.{drawn_of}
use Rattle.rollout.specs.Rollout.{strict_moves, Rolled, ends, rolled_from}
use Rattle.rollout.specs.inner.Movable.{Movable}
use Rattle.rollout.specs.laws.Draws.{drawn_there, drawn_is}
use Rattle.rollout.specs.laws.Rollout.{roll_over, roll_refused, roll_sampled}
use Rattle.rollout.proofs.rollout.roll_out.Goals as goal
use Rattle.rollout.proofs.rollout.roll_out.Goals.{After-draw, After-attributes_of-row, After-execute-state, After-moves_at_once-moves}

-- what is drawn is drawn of the moves
drawn : (c : After-draw)
    → let l = c.loop-moves in
    drawn_of l.moves.bits (drop l.at c.args.draws.now) ≡ c.draw.result
drawn c = sym c.draw.ensures

-- ---- where it names one of them
module _ (c : After-attributes_of-row) where
  abbrev context : CraftContext
  context = c.args.context

  abbrev draws : List ℕ
  draws = c.args.draws.now

  abbrev state : CraftState
  state = c.loop-moves.state

  abbrev at : ℕ
  at = c.loop-moves.at

  abbrev n : ℕ
  n = c.in_ok-n.n

  abbrev set : ℕ
  set = c.loop-moves.moves.bits

  named : drawn_of set (drop at draws) ≡ Ok n
  named = drawn (goal.at.After-attributes_of-row c).After-draw ∙ c.in_ok-n.was

  there : at < length draws
  there = drawn_there set draws at named

  movable : Movable context state set
  movable = c.loop-moves.invariant.1

  known : n < actions
  known = (drawn_is set (drop at draws) named).known

  legal : has (moves_of context state plain) n ≡ true
  legal = movable.legal n (drawn_is set (drop at draws) named).is

-- the turn leaves the state after it
module _ (c : After-execute-state) where
  moved : c.execute-state.result ≡ execute_of (context (goal.at.After-execute-state c).After-attributes_of-row) (state (goal.at.After-execute-state c).After-attributes_of-row) (n (goal.at.After-execute-state c).After-attributes_of-row)
  moved = c.execute-state.ensures ∙ ap (executed_of _ _ _) c.attributes_of-row.ensures

  kept : CraftIn (context (goal.at.After-execute-state c).After-attributes_of-row) c.execute-state.result
  kept =
      let t = (goal.at.After-execute-state c).After-attributes_of-row in
      rw moved (legal_keeps attributes_of rows_bounded (context t) (state t) plain (n t) (movable t).inside (known t) (legal t))

-- the strict moves of the state after it are moves of it
strictly : (c : After-moves_at_once-moves) → Movable (context (goal.at.After-moves_at_once-moves c).After-attributes_of-row) c.execute-state.result c.moves_at_once-moves.result.bits
strictly c =
    let t = (goal.at.After-moves_at_once-moves c).After-attributes_of-row in
    let next = c.execute-state.result in
    record {
      inside = kept (goal.at.After-moves_at_once-moves c).After-execute-state;
      known = c.moves_at_once-moves.result.inside;
      legal = λ n t_has.
          let is : has (moves_of (context t) next strict) n ≡ true = ap (λ (set : ℕ). has set n) (sym c.moves_at_once-moves.ensures) ∙ t_has in
          strict_part attributes_of (context t) next n (legal_known attributes_of (context t) next strict n is) is;
    }

pub invariant_of-execute : goal.invariant_of-execute
invariant_of-execute c = record { bounds = rw c.attributes_of-row.ensures (known c, rows_bounded (n c) (known c)) }

pub execute-state-requires : goal.execute-state-requires
execute-state-requires c =
    let t = (goal.at.execute-state-requires c).After-attributes_of-row in
    rw c.attributes_of-row.ensures (legal_playable attributes_of rows_bounded (context t) (state t) plain (n t) (movable t).inside (known t) (legal t))

pub invariant_of-moves_at_once : goal.invariant_of-moves_at_once
invariant_of-moves_at_once c = record { inside = kept (goal.at.invariant_of-moves_at_once c).After-execute-state }

pub loop-moves-preserved : goal.loop-moves-preserved
loop-moves-preserved c =
    let t = (goal.at.loop-moves-preserved c).After-attributes_of-row in
    let on = roll_sampled (context t) (state t) (set t) (at t) c.loop-moves-test.true (draws t) (named t) in
    let roll : CraftState → ℕ → Rolled = λ x m. rolled_from (context t) x m (at t + 1) (drop (at t + 1) (draws t)) in (
      ap (roll c.execute-state.result) c.moves_at_once-moves.ensures
          ∙ ap (λ (x : CraftState). roll x (strict_moves (context t) x)) (moved (goal.at.loop-moves-preserved c).After-execute-state)
          ∙ sym on ∙ c.loop-moves.invariant.0,
      strictly c,
      omega (arith, there t),
    )

pub loop-moves-smaller : goal.loop-moves-smaller
loop-moves-smaller c = omega (arith, there (goal.at.loop-moves-smaller c).After-attributes_of-row)

-- ---- where it ends
pub returns-in_err-n : goal.returns-in_err-n
returns-in_err-n c =
    let l = c.loop-moves in
    let refused : c.from_residual.result ≡ Err c.in_err-n.field-0.0 = search rules in (
      refused
          ∙ roll_refused c.args.context l.state l.moves.bits l.at c.loop-moves-test.true (drop l.at c.args.draws.now) (drawn (goal.at.returns-in_err-n c).After-draw ∙ c.in_err-n.was)
          ∙ l.invariant.0,
      rw refused tt,
    )

pub returns : goal.returns
returns c =
    let l = c.loop-moves in (
      ap (λ (r : CraftResult). ends r l.at) c.judge.ensures.0
          ∙ roll_over c.args.context l.state l.moves.bits l.at c.loop-moves-test.false (drop l.at c.args.draws.now)
          ∙ l.invariant.0,
      (c.judge.ensures.1, l.invariant.2),
    )
