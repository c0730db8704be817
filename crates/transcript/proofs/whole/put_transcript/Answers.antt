-- `transcript::whole::put_transcript` meets its contract.
-- Assumes nothing.
use mathlib.Core.Path.{◌≡◌, sym, subst, ◌∙◌}
use native.Mathlib.Nat.{min-eq_left}
use native.Mathlib.Omega.{arith}
use lib.ListN.{length, take, length-take}
use mir.Syntax.{w8}
use mir.Val.{Fits}
use Rattle.text.specs.laws.Over.{then, put_as}
use Rattle.craft_state.specs.declared.state.CraftState.{CraftState}
use Rattle.craft_state.specs.Inside.{CraftIn}
use Rattle.craft_state.specs.laws.Inside.{start_in}
use Rattle.moves.specs.Modes.{plain}
use Rattle.simulator.specs.Promise.{Promise}
use Rattle.transcript.specs.inner.Played.{Played}
use Rattle.transcript.specs.laws.Transcript.{transcript_is, kept, executed_played}
use borrow.Author.Rules.{rules}
use Rattle.transcript.proofs.whole.put_transcript.Goals as goal
use Rattle.transcript.proofs.whole.put_transcript.Goals.{After-execute_actions-replay, Start}

-- step_max is a byte
byte : (c : Start) → Fits w8 c.args.context.step_max
byte c = search rules

abbrev start_of : After-execute_actions-replay → Start
start_of c = (goal.at.After-execute_actions-replay c).Start

-- what is reported keeps the promise
promise : (c : After-execute_actions-replay) → Promise (start_of c).args.context plain (start_of c).args.list.now c.execute_actions-replay.result
promise c = let s = start_of c in kept s.args.context s.args.list.now s.requires.0 (omega (arith, byte s)) s.requires.1 c.execute_actions-replay.ensures.0

-- the executed part
part_length : (c : After-execute_actions-replay) → length (take c.execute_actions-replay.result.executed (start_of c).args.list.now) ≡ c.execute_actions-replay.result.executed
part_length c = length-take _ (start_of c).args.list.now ∙ min-eq_left (promise c).executed.part

pub slice_bounds-put_rows-end : goal.slice_bounds-put_rows-end
slice_bounds-put_rows-end c = sym (part_length (goal.at.slice_bounds-put_rows-end c).After-execute_actions-replay)

-- a craft starts inside the limits
pub invariant_of-start : goal.invariant_of-start
invariant_of-start c =
    let s = start_of (goal.at.invariant_of-start c).After-execute_actions-replay in
    record { inside = subst (CraftIn s.args.context) (sym c.fresh-state.ensures) (start_in s.args.context s.requires.0) }

pub put_rows-last-requires : goal.put_rows-last-requires
put_rows-last-requires c =
    let at_execute_actions = (goal.at.put_rows-last-requires c).After-execute_actions-replay in
    let s = start_of at_execute_actions in
    let e = c.fresh-state.ensures in (
      subst (λ (x : CraftState). Played s.args.context x (take c.execute_actions-replay.result.executed s.args.list.now)) (sym e)
          (executed_played s.args.context s.args.list.now s.requires.0 (omega (arith, byte s)) s.requires.1 c.execute_actions-replay.ensures.0),
      omega (arith, c.put_row-rows.ensures.1, (promise at_execute_actions).few, part_length at_execute_actions),
    )

pub overflow_cast-executed : goal.overflow_cast-executed
overflow_cast-executed c = omega (arith, (promise (goal.at.overflow_cast-executed c).After-execute_actions-replay).few)

pub put_last-requires : goal.put_last-requires
put_last-requires c =
    let at_execute_actions = (goal.at.put_last-requires c).After-execute_actions-replay in
    (c.execute_actions-replay.ensures.1, omega (arith, c.put_row-rows.ensures.1, c.put_rows-last.ensures.1, (promise at_execute_actions).few, part_length at_execute_actions))

pub returns : goal.returns
returns c =
    let s = start_of (goal.at.returns c).After-execute_actions-replay in
    put_as (transcript_is s.args.context s.args.list.now c.fresh-state.ensures c.execute_actions-replay.ensures.0) (then (then c.put_row-rows.ensures.0 c.put_rows-last.ensures.0) c.put_last.ensures)
