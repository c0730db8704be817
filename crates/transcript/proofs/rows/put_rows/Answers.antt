-- `transcript::rows::put_rows` meets its contract.
-- Assumes nothing.
use mathlib.Core.Path.{sym, ap, subst, ◌∙◌}
use native.Mathlib.Omega.{arith}
use lib.ListN.{length}
use Rattle.text.specs.Over.{over}
use Rattle.text.specs.laws.Over.{over_none}
use Rattle.action.specs.Table.{attributes_of}
use Rattle.action.specs.laws.Bounds.{rows_bounded}
use Rattle.craft_state.specs.Inside.{CraftIn}
use Rattle.step.specs.Step.{executed_of}
use Rattle.moves.specs.Modes.{plain}
use Rattle.moves.specs.laws.Moves.{legal_playable, legal_keeps}
use Rattle.transcript.specs.laws.Transcript.{next_known, next_legal, rest_played, rows_over, rows_count, rows_end, rows_short}
use Rattle.transcript.proofs.rows.put_rows.Goals as goal

-- the row that is looked up is the table's
pub invariant_of-execute : goal.invariant_of-execute
invariant_of-execute c =
    let l = c.loop-n in
    let known = next_known _ l.state _ c.loop-n-test.true l.invariant.1 in
    record { bounds = rw c.attributes_of-row.ensures (known, rows_bounded _ known) }

pub execute-state-requires : goal.execute-state-requires
execute-state-requires c =
    let l = c.loop-n in
    let h = c.loop-n-test.true in
    let known = next_known _ l.state _ h l.invariant.1 in
    rw c.attributes_of-row.ensures
    (legal_playable attributes_of rows_bounded _ l.state plain _ l.invariant.0 known (next_legal _ l.state _ h l.invariant.1))

pub loop-n-preserved : goal.loop-n-preserved
loop-n-preserved c =
    let l = c.loop-n in
    let h = c.loop-n-test.true in
    let known = next_known _ l.state _ h l.invariant.1 in
    let e = c.execute-state.ensures ∙ ap (executed_of _ _ _) c.attributes_of-row.ensures in
    let p = c.put_row-end.ensures.0 in (
      subst (CraftIn _) (sym e) (legal_keeps attributes_of rows_bounded _ l.state plain _ l.invariant.0 known (next_legal _ l.state _ h l.invariant.1)),
      rest_played _ l.state _ h e l.invariant.1,
      rows_over _ l.state _ h e p ∙ l.invariant.2,
      rows_count _ l.state _ h e p ∙ l.invariant.3,
      omega (arith, c.put_row-end.ensures.1, l.invariant.4),
      c.put_row-end.auto.out ∙ l.invariant.5,
    )

pub returns : goal.returns
returns c =
    let l = c.loop-n in
    let none = rows_end c.args.start.context l.state c.args.part.now c.loop-n-test.false in (
      record {
        next = omega (arith, ap length none, l.invariant.3);
        same = sym (over_none l.out l.end) ∙ ap (over l.out l.end) (sym none) ∙ l.invariant.2;
      },
      omega (arith, ap length none, l.invariant.3, rows_short c.args.start.context c.args.start.state c.args.part.now),
    )
