-- `simulator::replay::execute_actions` meets its contract.
-- Assumes nothing.
use mathlib.Core.Path.{◌≡◌, sym, ap, subst, ◌∙◌}
use mathlib.Core.Bool.{Bool, false}
use Prim.Native.Nat.{◌+◌, ◌<◌}
use native.Mathlib.Omega.{arith}
use lib.ListN.{drop, get_or}
use Rattle.action.specs.Bounds.{RowBounds}
use Rattle.action.specs.Known.{actions}
use Rattle.action.specs.Table.{attributes_of}
use Rattle.action.specs.laws.Known.{known_each}
use Rattle.action.specs.laws.Bounds.{rows_bounded}
use Rattle.craft_state.specs.declared.state.CraftState.{CraftState}
use Rattle.craft_state.specs.Inside.{CraftIn}
use Rattle.craft_state.specs.laws.Inside.{start_in}
use Rattle.step.specs.inner.Asked.{Playable}
use Rattle.step.specs.Step.{executed_of, execute_of}
use Rattle.moves.specs.Moves.{ended}
use Rattle.moves.specs.inner.Legal.{passed_of, passes_by}
use Rattle.score.specs.Result.{ScoreIsNumber}
use Rattle.moves.specs.laws.Moves.{legal_keeps, legal_playable}
use Rattle.simulator.specs.Replay.{replay_from, replay_by, replay_of}
use Rattle.simulator.specs.laws.Replay.{legal_is, replay_ended, place_on, place_slip, place_end, broken_with}
use Rattle.simulator.proofs.replay.execute_actions.Goals as goal
use Rattle.simulator.proofs.replay.execute_actions.Goals.{After-attributes_of-row, After-passes-legal, After-play-state, Else-has_ended, Joined-has_ended, then-has_ended, else-has_ended+then-i-list, else-has_ended+else-i-list+then-not-legal}

-- ---- the next action
going : (c : Else-has_ended) → ended c.args.context c.turns.state ≡ false
going c = sym c.has_ended.ensures ∙ c.if-has_ended.false

-- it is known
known : (c : After-attributes_of-row)
    → get_or c.args.list.now c.turns.i 0 < actions
known c = known_each _ c.requires.1 _ (omega arith)

-- and its row is in the bounds
bounded : (c : After-attributes_of-row)
    → RowBounds (get_or c.args.list.now c.turns.i 0) c.attributes_of-row.result
bounded c = rw c.attributes_of-row.ensures (rows_bounded _ (known c))

-- the test is that of its row of the table
tested : (c : After-passes-legal) {b : Bool}
    → c.passes-legal.result ≡ b
    → passes_by attributes_of c.args.context c.turns.state c.args.mode (get_or c.args.list.now c.turns.i 0) ≡ b
tested c e = sym (ap (passed_of _ _ _ _) c.attributes_of-row.ensures) ∙ sym c.passes-legal.ensures ∙ e

-- where it passes, the turn leaves the state after it
moved : (c : After-play-state)
    → let l = c.turns in
    c.play-state.result ≡ execute_of c.args.context l.state (get_or c.args.list.now l.i 0)
moved c =
    c.play-state.ensures ∙ rw c.if-not-legal.false (ap (executed_of _ _ _) c.attributes_of-row.ensures)

-- ---- where the loop stops
stops : (c : Joined-has_ended)
    → let l = c.turns in
    (replay_of c.args.context c.args.mode c.args.list.now ≡ broken_with attributes_of c.args.context c.args.mode l.state l.i c.if-has_ended.result)
    × ScoreIsNumber c.if-has_ended.result
stops c =
    let l = c.turns in
    let broken = broken_with attributes_of c.args.context c.args.mode l.state l.i in
    let at_end = sym c.has_ended.ensures in
    elim c.if-has_ended.branch [
      | then-has_ended w ↦ (
        sym l.invariant.1 ∙ replay_ended attributes_of _ _ l.state l.i _ (at_end ∙ w.if-has_ended.true) ∙ ap broken (sym (w.result-is ∙ w.judge-result.ensures.0)),
        subst ScoreIsNumber (sym w.result-is) w.judge-result.ensures.1,
      )
      | else-has_ended+then-i-list w ↦ (
        sym l.invariant.1 ∙ place_end attributes_of _ _ l.state c.args.list.now l.i l.invariant.0 w.if-i-list.true (at_end ∙ w.if-has_ended.false) ∙ ap broken (sym w.result-is),
        subst ScoreIsNumber (sym w.result-is) tt,
      )
      | else-has_ended+else-i-list+then-not-legal w ↦
          let row = w.attributes_of-row.ensures in
          let fails = sym (ap (passed_of _ _ _ _) row) ∙ sym w.passes-legal.ensures ∙ w.if-not-legal.true in (
            sym l.invariant.1
                ∙ place_slip attributes_of _ _ l.state c.args.list.now l.i w.if-i-list.false (known_each _ c.requires.1 _ w.if-i-list.false) (at_end ∙ w.if-has_ended.false) fails
                ∙ ap broken (sym w.result-is),
            subst ScoreIsNumber (sym w.result-is) tt,
          )
    ]

pub turns-init : goal.turns-init
unfolding replay_by
turns-init c = (omega arith, simp c.fresh-state.ensures, subst (CraftIn _) (sym c.fresh-state.ensures) (start_in _ c.requires.0))

pub invariant_of-candidate : goal.invariant_of-candidate
invariant_of-candidate c =
    let at_attributes_of = (goal.at.invariant_of-candidate c).After-attributes_of-row in
    record { bounds = (known at_attributes_of, bounded at_attributes_of) }

pub play-state-requires : goal.play-state-requires
play-state-requires c =
    let at_attributes_of = (goal.at.play-state-requires c).After-attributes_of-row in
    let inside = c.turns.invariant.2 in
    λ t.
    subst (Playable _ _ _) (sym c.attributes_of-row.ensures)
    (legal_playable attributes_of rows_bounded _ _ _ _ inside (known at_attributes_of) (legal_is attributes_of _ _ _ _ (known at_attributes_of) (going (goal.at.play-state-requires c).Else-has_ended) (tested (goal.at.play-state-requires c).After-passes-legal t)))

pub turns-preserved : goal.turns-preserved
turns-preserved c =
    let at_attributes_of = (goal.at.turns-preserved c).After-attributes_of-row in
    let at_has_ended = (goal.at.turns-preserved c).Else-has_ended in
    let l = c.turns in
    let passed = tested (goal.at.turns-preserved c).After-passes-legal c.if-not-legal.false in
    let on = place_on attributes_of _ _ l.state c.args.list.now l.i c.if-i-list.false (known at_attributes_of) (going at_has_ended) passed in
    let legal = legal_is attributes_of _ _ l.state _ (known at_attributes_of) (going at_has_ended) passed in
    let inside = legal_keeps attributes_of rows_bounded _ l.state _ _ l.invariant.2 (known at_attributes_of) legal in
    let next = replay_from attributes_of c.args.context c.args.mode in (
      omega (arith, c.if-i-list.false),
      ap (λ (x : CraftState). next x (l.i + 1) (drop (l.i + 1) c.args.list.now)) (moved c) ∙ sym on ∙ l.invariant.1,
      subst (CraftIn c.args.context) (sym (moved c)) inside,
    )

pub returns : goal.returns
returns c = (simp (c.settled.ensures.0, c.moves_at_once-moves.ensures) (sym (stops (goal.at.returns c).Joined-has_ended).0), c.settled.ensures.1)
