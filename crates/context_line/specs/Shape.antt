-- Document 01, "The replay program": "line one holds the fifteen `CraftContext` fields in order, 1 to 10 digits each, single spaces, byte 10".
-- Where a line ends, its shape, its numbers, and refusal 12, "first line malformed".
-- Assumes nothing.
use Rattle.std.specs.Prelude.{Bool, not, ◌&&◌, List, [], ◌∷◌, ℕ, zero, suc, ◌-◌, leb, eqb, length, take, drop, get_or}
use Rattle.laws.specs.Lists.{front}
use Rattle.refusal.specs.Judge.{Test}
use Rattle.refusal.specs.declared.Refusal.TheVariants.{MalformedLine}
use Rattle.text.specs.Reading.{value_of}

-- byte 10 ends a line
abbrev pub in_line : ℕ → Bool
in_line b = not (eqb b 10)

-- the place of the first byte 10, or the length where there is none
abbrev pub line_end : List ℕ → ℕ
line_end input = front in_line input

-- 0 to 9
abbrev pub digit : ℕ → Bool
digit b = leb 48 b && leb b 57

-- how many digits a text starts with
abbrev pub digits : List ℕ → ℕ
digits text = front digit text

abbrev pub digits_most : ℕ
digits_most = 10

-- a number has 1 to 10 digits
abbrev pub wide : ℕ → Bool
wide w = leb 1 w && leb w digits_most

-- a number and `more` others, each after one byte 32, and nothing else
unfoldable pub shaped : ℕ → List ℕ → Bool
shaped zero text = wide (digits text) && leb (length text) (digits text)
shaped (suc more) text =
    wide (digits text) && (eqb (get_or text (digits text) 0) 32 && shaped more (drop (suc (digits text)) text))

-- the numbers of such a text; zeros may lead
unfoldable pub values_of : ℕ → List ℕ → List ℕ
values_of zero text = value_of (take (digits text) text) ∷ []
values_of (suc more) text = value_of (take (digits text) text) ∷ values_of more (drop (suc (digits text)) text)

-- a context's fields, and those after the first
abbrev pub fields : ℕ
fields = 15

abbrev pub others : ℕ
others = fields - 1

-- of a line without its byte 10
abbrev pub line_shaped : List ℕ → Bool
line_shaped line = shaped others line

abbrev pub numbers_of : List ℕ → List ℕ
numbers_of line = values_of others line

-- refusal 12
abbrev pub line_test : List ℕ → Test
line_test line = record { passed = line_shaped line; otherwise = MalformedLine }
