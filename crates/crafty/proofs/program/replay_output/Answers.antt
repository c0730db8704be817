-- `crafty::program::replay_output` meets its contract.
-- Assumes nothing.
use mathlib.Core.Path.{◌≡◌, ◌∙◌}
use mathlib.Core.List.{List}
use Prim.Native.Nat.{ℕ}
use native.Mathlib.Omega.{arith}
use lib.ListN.{replicate}
use Rattle.refusal.specs.Judge.{pass, checks_of}
use Rattle.text.specs.laws.Over.{Rendered}
use Rattle.transcript.specs.Transcript.{transcript_most}
use Rattle.crafty.specs.laws.Room.{fits_as}
use Rattle.crafty.specs.Program.{input_tests, replay_text_of}
use Rattle.crafty.specs.laws.Program.{input_accepted, input_refused, prints_text, prints_refused}
use Rattle.crafty.proofs.program.replay_output.Goals as goal
use Rattle.crafty.proofs.program.replay_output.Goals.{After-render, In-Ok, Start}

abbrev start_of : After-render → Start
start_of c = (goal.at.After-render c).Start

abbrev input_of : In-Ok → List ℕ
input_of c = (start_of (goal.at.In-Ok c).After-render).args.input.now

-- every test passed, and the text stands in the room
text : (c : In-Ok) → (pass ≡ checks_of (input_tests (input_of c))) × Rendered (replay_text_of (input_of c)) c.in-Ok.k c.render.new.room
text c = input_accepted (input_of c) (replicate transcript_most 0) c.render.ensures (omega arith) c.in-Ok.is

pub slice_bounds-room-end : goal.slice_bounds-room-end
slice_bounds-room-end c = (text (goal.at.slice_bounds-room-end c).In-Ok).1.within

pub slice_bounds-write-end : goal.slice_bounds-write-end
slice_bounds-write-end c = (text (goal.at.slice_bounds-write-end c).In-Ok).1.count

pub returns-in-Err : goal.returns-in-Err
returns-in-Err c =
    fits_as (prints_refused _ (input_refused (start_of (goal.at.returns-in-Err c).After-render).args.input.now (replicate transcript_most 0) c.render.ensures c.in-Err.is)) c.write_refused.ensures

pub returns-in-Ok : goal.returns-in-Ok
returns-in-Ok c =
    fits_as ((text (goal.at.returns-in-Ok c).In-Ok).1.same ∙ prints_text (input_of (goal.at.returns-in-Ok c).In-Ok) (text (goal.at.returns-in-Ok c).In-Ok).0) c.write.ensures
