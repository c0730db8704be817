-- `crafty::program::render` meets its contract.
-- Assumes nothing.
use mathlib.Core.Path.{◌≡◌, refl}
use mathlib.Core.List.{List, [], ◌∷◌, ◌++◌}
use Prim.Native.Nat.{ℕ, ◌+◌, ◌≤◌, ◌<◌}
use native.Mathlib.Omega.{arith}
use lib.ListN.{length, take, length-drop}
use Rattle.std.specs.Prelude.{Result, Ok}
use Rattle.refusal.specs.declared.Refusal.{Refusal}
use Rattle.craft_context.specs.declared.context.CraftContext.{CraftContext}
use Rattle.refusal.specs.Judge.{size_most, Says, Writes, answering}
use Rattle.refusal.specs.laws.Judge.{size_shown, stopped_room, onward_room}
use Rattle.rotation.specs.Words.{words_test}
use Rattle.context_line.specs.Shape.{line_end, numbers_of}
use Rattle.context_line.specs.Fields.{context_of}
use Rattle.context_line.specs.Read.{line_tests}
use Rattle.context_line.specs.laws.Read.{line_inside}
use Rattle.crafty.specs.Program.{line_in, words_in, replay_text_of}
use Rattle.text.specs.Over.{over}
use Rattle.crafty.specs.inner.Program.{Renders}
use Rattle.crafty.specs.laws.Ways.{refused_room_by, passed_room_by}
use Rattle.crafty.specs.laws.Program.{end_none, end_some, line_refused, line_accepted, words_rendered}
use Rattle.crafty.proofs.program.render.Goals as goal
use Rattle.crafty.proofs.program.render.Goals.{After-line_end-end, Start}

abbrev start_of : After-line_end-end → Start
start_of c = (goal.at.After-line_end-end c).Start

-- the line's end, and that it is one
ends : (c : After-line_end-end) → c.line_end-end.result ≡ line_end (start_of c).args.input.now
ends c = c.line_end-end.ensures

-- what the reader answered of the line
abbrev line_of : After-line_end-end → List ℕ
line_of c = take c.line_end-end.result (start_of c).args.input.now

abbrev Reading : After-line_end-end → Result CraftContext Refusal → Type 0
Reading c r = Says answering (line_tests (line_of c)) (Ok (context_of (numbers_of (line_of c)))) r

sized : (c : After-line_end-end) → length (start_of c).args.input.now ≤ size_most
sized c = size_shown c.in_ok-check_size.ensures refl

-- the size and the line's end have let it on, and the line's tests and the words' decide
ended : (c : After-line_end-end) → c.line_end-end.result < length (start_of c).args.input.now → {r : Result ℕ Refusal} {after : List ℕ}
    → Writes answering (line_tests (line_in (start_of c).args.input.now) ++ (words_test (line_end (start_of c).args.input.now + 1) (words_in (start_of c).args.input.now) ∷ []))
    (Ok (length (replay_text_of (start_of c).args.input.now))) (start_of c).args.room.now (over (start_of c).args.room.now 0 (replay_text_of (start_of c).args.input.now)) r after
    → Renders (start_of c).args.input.now (start_of c).args.room.now r after
ended c h w = onward_room c.in_ok-check_size.ensures refl (onward_room (end_some (start_of c).args.input.now (omega (arith, ends c))) refl w)

pub returns-then-end-input : goal.returns-then-end-input
returns-then-end-input c =
    let input = (start_of (goal.at.returns-then-end-input c).After-line_end-end).args.input.now in
    onward_room c.in_ok-check_size.ensures refl (stopped_room (end_none input (omega (arith, ends (goal.at.returns-then-end-input c).After-line_end-end, c.if-end-input.true))) refl refl)

pub render_words-requires : goal.render_words-requires
render_words-requires c = (
  line_inside (line_of (goal.at.render_words-requires c).After-line_end-end) c.in_ok-context.ensures,
  omega (arith, sized (goal.at.render_words-requires c).After-line_end-end, c.if-end-input.false, length-drop (c.line_end-end.result + 1) (start_of (goal.at.render_words-requires c).After-line_end-end).args.input.now),
  (start_of (goal.at.render_words-requires c).After-line_end-end).requires,
)

pub returns-in_err-context : goal.returns-in_err-context
returns-in_err-context c =
    let a = (goal.at.returns-in_err-context c).After-line_end-end in
    let input = (start_of a).args.input.now in
    ended a c.if-end-input.false
    (refused_room_by (line_tests (line_in input)) (words_test (line_end input + 1) (words_in input) ∷ []) (line_refused input (ends a) c.in_err-context.ensures) c.from_residual-in_err-context.ensures)

pub returns : goal.returns
unfolding replay_text_of
returns c =
    let a = (goal.at.returns c).After-line_end-end in
    let input = (start_of a).args.input.now in
    let on = line_accepted input (ends a) c.in_ok-context.ensures in
    ended a c.if-end-input.false
    (passed_room_by (line_tests (line_in input)) (words_test (line_end input + 1) (words_in input) ∷ []) on.1 (words_rendered input (ends a) on.0 c.render_words.ensures))
