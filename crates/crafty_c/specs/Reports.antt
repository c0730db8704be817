-- Document 01, Results and scores, for hosts: what the replay of a list of numbers answers, refused by 1, 3 and 6, and what the lent numbers hold then.
-- Assumes nothing.
use Rattle.std.specs.Prelude.{List, [], ◌∷◌, ◌++◌, ℕ, length}
use Rattle.refusal.specs.Judge.{Test, Writes, room_test}
use Rattle.text.specs.Over.{over}
use Rattle.action.specs.Known.{list_test}
use Rattle.craft_context.specs.declared.context.CraftContext.{CraftContext}
use Rattle.context_line.specs.Fields.{context_of, number_tests}
use Rattle.moves.specs.declared.mode.Mode.{Mode}
use Rattle.simulator.specs.Replay.{replay_of}
use Rattle.crafty_c.specs.declared.answer.CraftyAnswer.{CraftyAnswer}
use Rattle.crafty_c.specs.Answer.{done_of, answered}
use Rattle.crafty_c.specs.Numbers.{numbers_length, replay_numbers}

-- refusal 3 over the whole list, and refusal 6 of the lent numbers
abbrev pub report_tests : List ℕ → List ℕ → List Test
report_tests list out = list_test list ∷ room_test (length out) numbers_length ∷ []

-- what is written from the start of the lent numbers, and none further
abbrev pub reported : CraftContext → Mode → List ℕ → List ℕ → List ℕ
reported context mode list out = over out 0 (replay_numbers (replay_of context mode list))

-- in a context given by its numbers: refusal 1 for one that does not fit its field or is outside its limit
abbrev pub TellsNumbers : List ℕ → Mode → List ℕ → List ℕ → CraftyAnswer → List ℕ → Type 0
TellsNumbers values mode list out r after =
    Writes answered (number_tests values ++ report_tests list out) (done_of numbers_length) out (reported (context_of values) mode list out) r after
