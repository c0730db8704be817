-- For the contracts of inner functions: the program rendered into a room that is always enough.
-- Assumes nothing.
use Rattle.std.specs.Prelude.{List, [], ◌∷◌, ℕ, length, Result, Ok}
use Rattle.refusal.specs.declared.Refusal.{Refusal}
use Rattle.refusal.specs.Judge.{Writes, answering}
use Rattle.text.specs.Over.{over}
use Rattle.rotation.specs.Words.{actions_in, words_test}
use Rattle.craft_context.specs.declared.context.CraftContext.{CraftContext}
use Rattle.transcript.specs.Transcript.{transcript_of}
use Rattle.crafty.specs.Program.{input_tests, replay_text_of}

-- ---- of the inner functions, whose room is always enough

abbrev pub RendersWords : CraftContext → ℕ → List ℕ → List ℕ → Result ℕ Refusal → List ℕ → Type 0
RendersWords context base words room r after =
    let text = transcript_of context (actions_in words) in Writes answering (words_test base words ∷ []) (Ok (length text)) room (over room 0 text) r after

abbrev pub Renders : List ℕ → List ℕ → Result ℕ Refusal → List ℕ → Type 0
Renders input room r after = Writes answering (input_tests input) (Ok (length (replay_text_of input))) room (over room 0 (replay_text_of input)) r after
