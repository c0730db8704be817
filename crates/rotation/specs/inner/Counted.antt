-- For the contracts of the inner functions `count` and `read_words`: how many words a text has, or where its first unknown word starts, and the
-- actions before that one.
-- Assumes nothing.
use Rattle.std.specs.Prelude.{Option, Some, None, Result, Ok, Err, cond, List, [], ◌∷◌, ℕ, length}
use Rattle.rotation.specs.Words.{Word, words_of, actions_in, words_known, unknown_at}

abbrev pub counted_of : List ℕ → Result ℕ ℕ
counted_of text = cond (words_known text) (Ok (length (actions_in text))) (Err (unknown_at text))

-- an unknown word ends them
abbrev pub known_then : Option ℕ → List ℕ → List ℕ
known_then (Some n) rest = n ∷ rest
known_then None rest = []

abbrev pub leading : List Word → List ℕ
leading [] = []
leading (w ∷ more) = known_then w.found (leading more)

unfoldable pub leading_in : List ℕ → List ℕ
leading_in text = leading (words_of text)
