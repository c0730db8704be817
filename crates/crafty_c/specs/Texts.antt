-- Document 01, Text and The replay program, and document 02, E5, for hosts: what each function on text answers, for any bytes, and what the lent room
-- holds then. As its entry in crafty, told in a number and a value.
-- Assumes nothing.
use Rattle.std.specs.Prelude.{List, [], ◌∷◌, ◌++◌, ℕ, length}
use Rattle.refusal.specs.Judge.{Test, Says, Writes, room_test, size_test}
use Rattle.text.specs.Over.{over}
use Rattle.action.specs.Known.{list_test}
use Rattle.rotation.specs.Words.{actions_in, words_test}
use Rattle.rotation.specs.Lines.{list_text_of}
use Rattle.rotation.specs.Seconds.{seconds_of}
use Rattle.crafty.specs.Program.{input_tests, replay_text_of, printed_of}
use Rattle.crafty_c.specs.declared.answer.CraftyAnswer.{CraftyAnswer}
use Rattle.crafty_c.specs.Answer.{done_of, answered}

-- tests of its own, and refusal 6 last: the text from the room's start, and no byte further
abbrev TellsText : List Test → List ℕ → List ℕ → CraftyAnswer → List ℕ → Type 0
TellsText tests text out r after = Writes answered (tests ++ (room_test (length out) (length text) ∷ [])) (done_of (length text)) out (over out 0 text) r after

-- 13, 12, 1, 5, then 6
abbrev pub TellsReplay : List ℕ → List ℕ → CraftyAnswer → List ℕ → Type 0
TellsReplay input out r after = TellsText (input_tests input) (replay_text_of input) out r after

-- what the program prints, refused or not: 6 alone
abbrev pub TellsPrinted : List ℕ → List ℕ → CraftyAnswer → List ℕ → Type 0
TellsPrinted input out r after = TellsText [] (printed_of input) out r after

-- 5, then 6 in actions
abbrev pub TellsActions : List ℕ → List ℕ → CraftyAnswer → List ℕ → Type 0
TellsActions text out r after = TellsText (words_test 0 text ∷ []) (actions_in text) out r after

-- 13, 3, then 6 in bytes
abbrev pub TellsList : List ℕ → List ℕ → CraftyAnswer → List ℕ → Type 0
TellsList list out r after = TellsText (size_test (length list) ∷ list_test list ∷ []) (list_text_of list) out r after

-- 13, 3
abbrev pub TellsSeconds : List ℕ → CraftyAnswer → Type 0
TellsSeconds list r = Says answered (size_test (length list) ∷ list_test list ∷ []) (done_of (seconds_of list)) r
