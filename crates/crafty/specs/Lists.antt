-- Document 01, 'Text', and document 02, E5, for the macro time: what each public entry over a list of actions as text answers, for any bytes: its tests
-- in the order of the refusals, then its answer.
-- Assumes nothing.
use Rattle.std.specs.Prelude.{List, [], ◌∷◌, ℕ, length, Result, Ok}
use Rattle.refusal.specs.declared.Refusal.{Refusal}
use Rattle.refusal.specs.Judge.{Says, answering, size_test}
use Rattle.action.specs.Known.{list_test}
use Rattle.rotation.specs.Words.{actions_in, words_test}
use Rattle.rotation.specs.Lines.{list_text_of}
use Rattle.rotation.specs.Seconds.{seconds_of}
use Rattle.crafty.specs.Room.{WritesText}

-- 5, then 6 in actions
abbrev pub ReadsList : List ℕ → List ℕ → Result ℕ Refusal → List ℕ → Type 0
ReadsList text out r after = WritesText (words_test 0 text ∷ []) (actions_in text) out r after

-- 13, 3, then 6 in bytes
abbrev pub WritesList : List ℕ → List ℕ → Result ℕ Refusal → List ℕ → Type 0
WritesList list out r after = WritesText (size_test (length list) ∷ list_test list ∷ []) (list_text_of list) out r after

-- 13, 3
abbrev pub Lasts : List ℕ → Result ℕ Refusal → Type 0
Lasts list r = Says answering (size_test (length list) ∷ list_test list ∷ []) (Ok (seconds_of list)) r
