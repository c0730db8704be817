-- Document 01, 'Text': 'a list is words .., each exactly a name', and refusal 5, an 'unknown word', with 'the first's byte offset'.
-- Assumes nothing.
use Rattle.std.specs.Prelude.{Option, Some, None, Bool, true, cond, ◌&&◌, List, [], ◌∷◌, ◌++◌, ℕ, ◌+◌, length}
use Rattle.refusal.specs.Judge.{Test}
use Rattle.refusal.specs.declared.Refusal.TheVariants.{UnknownWord}
use Rattle.action.specs.Names.{found_of, is_found}
use Rattle.rotation.specs.Gaps.{gap}

-- ---- the words of a text

-- where a word starts, and the action that it names
pub record Word : Type 0 where
  pub at : ℕ
  pub found : Option ℕ

-- a word that has ended, where it has a byte
abbrev pub word_ended : ℕ → List ℕ → List Word → List Word
word_ended at [] more = more
word_ended at (b ∷ word) more = record { at = at; found = found_of (b ∷ word) } ∷ more

-- `word` has started at `at`, and `text` follows it
unfoldable pub words_from : ℕ → List ℕ → List ℕ → List Word
words_from at word [] = word_ended at word []
words_from at word (b ∷ text) = cond (gap b) (word_ended at word (words_from (at + length word + 1) [] text)) (words_from at (word ++ (b ∷ [])) text)

unfoldable pub words_of : List ℕ → List Word
words_of text = words_from 0 [] text

-- ---- the actions that they name

abbrev pub found_then : Option ℕ → List ℕ → List ℕ
found_then (Some n) rest = n ∷ rest
found_then None rest = rest

abbrev pub numbers : List Word → List ℕ
numbers [] = []
numbers (w ∷ more) = found_then w.found (numbers more)

-- each word is a name
abbrev pub all_found : List Word → Bool
all_found [] = true
all_found (w ∷ more) = is_found w.found && all_found more

-- where the first that is none starts
abbrev pub first_unknown : List Word → ℕ
first_unknown [] = 0
first_unknown (w ∷ more) = cond (is_found w.found) (first_unknown more) w.at

-- ---- of a text

unfoldable pub actions_in : List ℕ → List ℕ
actions_in text = numbers (words_of text)

unfoldable pub words_known : List ℕ → Bool
words_known text = all_found (words_of text)

unfoldable pub unknown_at : List ℕ → ℕ
unknown_at text = first_unknown (words_of text)

-- refusal 5, of a text before which `base` bytes of the input stand
abbrev pub words_test : ℕ → List ℕ → Test
words_test base text = record { passed = words_known text; otherwise = UnknownWord (base + unknown_at text) }
