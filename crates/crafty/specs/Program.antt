-- Document 01, 'The replay program', for any bytes: its tests in the order of the refusals, its text, and what it prints.
-- Assumes nothing.
use Rattle.std.specs.Prelude.{List, [], ◌∷◌, ◌++◌, ℕ, ◌+◌, ltb, length, take, drop, Result}
use Rattle.refusal.specs.declared.Refusal.{Refusal}
use Rattle.refusal.specs.declared.Refusal.TheVariants.{MalformedLine}
use Rattle.refusal.specs.Report.{report_of}
use Rattle.refusal.specs.Judge.{Test, judged, size_test}
use Rattle.text.specs.Bytes.{bytes}
use Rattle.text.specs.Decimal.{decimal_of}
use Rattle.rotation.specs.Words.{actions_in, words_test}
use Rattle.craft_context.specs.declared.context.CraftContext.{CraftContext}
use Rattle.context_line.specs.Shape.{line_end, numbers_of}
use Rattle.context_line.specs.Fields.{context_of}
use Rattle.context_line.specs.Read.{line_tests}
use Rattle.transcript.specs.Transcript.{transcript_of}
use Rattle.crafty.specs.Room.{WritesText, Fits}

-- ---- an input: a line up to its first byte 10, and the words after it

abbrev pub line_in : List ℕ → List ℕ
line_in input = take (line_end input) input

abbrev pub words_in : List ℕ → List ℕ
words_in input = drop (line_end input + 1) input

abbrev pub context_in : List ℕ → CraftContext
context_in input = context_of (numbers_of (line_in input))

-- refusal 12, where there is no byte 10
abbrev pub end_test : List ℕ → Test
end_test input = record { passed = ltb (line_end input) (length input); otherwise = MalformedLine }

-- 13, then 12, then 1, then 5 with its offset from the input's first byte
abbrev pub input_tests : List ℕ → List Test
input_tests input = (size_test (length input) ∷ end_test input ∷ line_tests (line_in input)) ++ (words_test (line_end input + 1) (words_in input) ∷ [])

unfoldable pub replay_text_of : List ℕ → List ℕ
replay_text_of input = transcript_of (context_in input) (actions_in (words_in input))

-- and 6 last
abbrev pub ReplaysText : List ℕ → List ℕ → Result ℕ Refusal → List ℕ → Type 0
ReplaysText input out r after = WritesText (input_tests input) (replay_text_of input) out r after

-- ---- what the program prints: that text, or the refusal's number alone

unfoldable pub refused_text_of : Refusal → List ℕ
refused_text_of x = bytes "refused " ++ decimal_of (report_of x).0 ++ bytes "\n"

unfoldable pub printed_of : List ℕ → List ℕ
printed_of input = judged refused_text_of (replay_text_of input) (input_tests input)

abbrev pub Prints : List ℕ → List ℕ → Result ℕ Refusal → List ℕ → Type 0
Prints input out r after = Fits (printed_of input) out r after
