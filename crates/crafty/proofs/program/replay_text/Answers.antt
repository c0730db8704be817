-- `crafty::program::replay_text` meets its contract.
-- Assumes nothing.
use mathlib.Core.Path.{◌≡◌, refl}
use mathlib.Core.List.{List, [], ◌∷◌}
use native.Mathlib.Omega.{arith}
use lib.ListN.{length, replicate}
use Rattle.refusal.specs.Judge.{Test, pass, checks_of, room_test}
use Rattle.text.specs.laws.Over.{Rendered}
use Rattle.transcript.specs.Transcript.{transcript_most}
use Rattle.crafty.specs.laws.Ways.{refused_room_by, passed_room_by}
use Rattle.crafty.specs.laws.Room.{fits_as}
use Rattle.crafty.specs.Program.{input_tests, replay_text_of}
use Rattle.crafty.specs.laws.Program.{input_accepted, input_refused, replays_whole}
use Rattle.crafty.proofs.program.replay_text.Goals as goal
use Rattle.crafty.proofs.program.replay_text.Goals.{In_ok-k, Start}

abbrev start_of : In_ok-k → Start
start_of c = (goal.at.In_ok-k c).Start

-- every test passed, and the text stands in the room
text : (c : In_ok-k) → (pass ≡ checks_of (input_tests (start_of c).args.input.now)) × Rendered (replay_text_of (start_of c).args.input.now) c.in_ok-k.k c.render-2.new.room
text c = input_accepted (start_of c).args.input.now (replicate transcript_most 0) c.in_ok-k.ensures (omega arith) refl

-- refusal 6 last
abbrev room-last : Start → List Test
room-last c = room_test (length c.args.out.now) (length (replay_text_of c.args.input.now)) ∷ []

-- the lent room is always enough
pub returns-then-out-ge-TRANSCRIPT_MOST : goal.returns-then-out-ge-TRANSCRIPT_MOST
returns-then-out-ge-TRANSCRIPT_MOST c = replays_whole _ _ c.render.ensures c.if-out-ge-TRANSCRIPT_MOST.true

pub slice_bounds-room-end : goal.slice_bounds-room-end
slice_bounds-room-end c = (text (goal.at.slice_bounds-room-end c).In_ok-k).1.within

pub slice_bounds-write-end : goal.slice_bounds-write-end
slice_bounds-write-end c = (text (goal.at.slice_bounds-write-end c).In_ok-k).1.count

pub returns-in_err-k : goal.returns-in_err-k
returns-in_err-k c =
    let s = (goal.at.returns-in_err-k c).Start in
    refused_room_by (input_tests s.args.input.now) (room-last s) (input_refused s.args.input.now (replicate transcript_most 0) c.in_err-k.ensures refl) c.from_residual.ensures

pub returns : goal.returns
returns c =
    let k = (goal.at.returns c).In_ok-k in
    let s = start_of k in
    passed_room_by (input_tests s.args.input.now) (room-last s) (text k).0 (fits_as (text k).1.same c.write.ensures)
