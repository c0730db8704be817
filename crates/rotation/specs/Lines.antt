-- Document 01, 'Text': a list is 'written as each name and byte 10'.
-- Assumes nothing.
use Rattle.std.specs.Prelude.{List, [], ◌∷◌, ◌++◌, ℕ}
use Rattle.action.specs.Names.{name_of}
use Rattle.rotation.specs.Gaps.{newline}

unfoldable pub line_of : ℕ → List ℕ
line_of n = name_of n ++ (newline ∷ [])

unfoldable pub list_text_of : List ℕ → List ℕ
list_text_of [] = []
list_text_of (n ∷ rest) = line_of n ++ list_text_of rest
