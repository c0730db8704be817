-- Document 01, 'What comes back on refusal': 'a refusal writes nothing; a success writes its length and no further'. What an entry that writes text
-- answers, and what the room holds then.
-- Assumes nothing.
use Rattle.std.specs.Prelude.{List, [], ◌∷◌, ◌++◌, ℕ, length, Result, Ok}
use Rattle.refusal.specs.declared.Refusal.{Refusal}
use Rattle.refusal.specs.Judge.{Test, Writes, answering, room_test}
use Rattle.text.specs.Over.{over}

-- tests of its own, and refusal 6 last: the text from the room's start, and no byte further
abbrev pub WritesText : List Test → List ℕ → List ℕ → Result ℕ Refusal → List ℕ → Type 0
WritesText tests text out r after = Writes answering (tests ++ (room_test (length out) (length text) ∷ [])) (Ok (length text)) out (over out 0 text) r after

abbrev pub Fits : List ℕ → List ℕ → Result ℕ Refusal → List ℕ → Type 0
Fits text out r after = WritesText [] text out r after
