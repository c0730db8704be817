-- `crafty::program::render_list` meets its contract.
-- Assumes nothing.
use mathlib.Core.Path.{◌≡◌, refl, ap, ◌∙◌}
use Prim.Native.Nat.{ℕ, ◌≤◌}
use native.Mathlib.Nat.{zero-add}
use native.Mathlib.Omega.{arith}
use lib.ListN.{length}
use Rattle.refusal.specs.Judge.{size_most}
use Rattle.refusal.specs.laws.Judge.{stopped_room, onward_room, answered_room}
use Rattle.text.specs.laws.Over.{Rendered, rendered, put_as}
use Rattle.rotation.specs.Words.{actions_in}
use Rattle.rotation.specs.laws.Words.{actions_most, actions_known}
use Rattle.rotation.specs.laws.Count.{words_put, words_pass, words_stop, stop_within}
use Rattle.transcript.specs.Transcript.{transcript_of}
use Rattle.std.specs.Prelude.{Ok}
use Rattle.crafty.proofs.program.render_list.Goals as goal
use Rattle.crafty.proofs.program.render_list.Goals.{After-read_words, Start}

abbrev start_of : After-read_words → Start
start_of c = (goal.at.After-read_words c).Start

module _ (read : After-read_words) where
  within : length (actions_in (start_of read).args.words.now) ≤ size_most
  within = omega (arith, actions_most (start_of read).args.words.now, (start_of read).requires.1)

  -- all words are known, and their actions stand in the list's room
  listed : {k : ℕ} → read.read_words.result ≡ Ok k → Rendered (actions_in (start_of read).args.words.now) k read.read_words.new.out
  listed known =
      rendered (words_put _ read.read_words.ensures.0 known read.read_words.ensures.1)
      (omega (arith, actions_most (start_of read).args.words.now, (start_of read).requires.2))

pub overflow_add-result : goal.overflow_add-result
overflow_add-result c =
    omega (arith, stop_within _ c.read_words.ensures.0 c.in-Err.is, (start_of (goal.at.overflow_add-result c).After-read_words).requires.1)

pub slice_bounds-put_transcript-end : goal.slice_bounds-put_transcript-end
slice_bounds-put_transcript-end c = (listed (goal.at.slice_bounds-put_transcript-end c).After-read_words c.in-Ok.is).within

pub slice_bounds-put_transcript-end-in-Ok : goal.slice_bounds-put_transcript-end-in-Ok
slice_bounds-put_transcript-end-in-Ok c = (listed (goal.at.slice_bounds-put_transcript-end-in-Ok c).After-read_words c.in-Ok.is).count

pub put_transcript-requires : goal.put_transcript-requires
put_transcript-requires c =
    let s = start_of (goal.at.put_transcript-requires c).After-read_words in
    let list = listed (goal.at.put_transcript-requires c).After-read_words c.in-Ok.is in
    (s.requires.0, rw list.same (actions_known s.args.words.now), rw list.same (within (goal.at.put_transcript-requires c).After-read_words), s.requires.3)

-- an unknown word
pub returns-in-Err : goal.returns-in-Err
returns-in-Err c =
    (c.read_words.ensures.1, stopped_room (words_stop _ c.read_words.ensures.0 c.in-Err.is (start_of (goal.at.returns-in-Err c).After-read_words).args.base refl) refl refl)

-- the replay stands in the room
pub returns-in-Ok : goal.returns-in-Ok
returns-in-Ok c =
    let s = start_of (goal.at.returns-in-Ok c).After-read_words in
    let list = listed (goal.at.returns-in-Ok c).After-read_words c.in-Ok.is in
    let p = put_as (ap (transcript_of s.args.context) list.same) c.put_transcript.ensures in
    let known = words_pass _ c.read_words.ensures.0 c.in-Ok.is s.args.base in
    (c.read_words.ensures.1, onward_room known refl (answered_room refl (ap Ok (p.next ∙ zero-add _)) p.same))
