-- For the contracts of the inner iterator `Words`: what a text's words tell, one after another.
-- Assumes nothing.
use Rattle.std.specs.Prelude.{List, [], ℕ, map, drop, ok_or, Result}
use Rattle.rotation.specs.Words.{Word, words_from, words_of}
use Rattle.rotation.specs.declared.words.Words.{Words}

-- the action that a word names, or where it starts if it names none
abbrev pub told : Word → Result ℕ ℕ
told w = ok_or w.found w.at

-- the words from a place of a text on
abbrev pub words_at : List ℕ → ℕ → List Word
words_at text at = words_from at [] (drop at text)

abbrev pub told_from : Words → List (Result ℕ ℕ)
told_from s = map told (words_at s.text.now s.at)

abbrev pub told_of : List ℕ → List (Result ℕ ℕ)
told_of text = map told (words_of text)
