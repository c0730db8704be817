-- Document 01, refusal 5, 'the first's byte offset': the start of the first word that is no name, said of the text and not of its words.
-- No contract cites it: the theorem `unknown_first` says that the definition's offset is this one, and `first_unknown_lem` that no other is.
-- Assumes nothing.
use Rattle.std.specs.Prelude.{None, ◌≡◌, true, List, ℕ, zero, suc, ◌<◌, length, take, drop, get_or}
use Rattle.laws.specs.Lists.{front}
use Rattle.action.specs.Names.{found_of}
use Rattle.rotation.specs.Gaps.{gap, letter}
use Rattle.rotation.specs.Words.{words_known}

-- a word can start at the text's start, and after a gap
abbrev pub StartsAt : List ℕ → ℕ → Type 0
StartsAt text zero = Unit {0}
StartsAt text (suc j) = gap (get_or text j 0) ≡ true

-- the bytes from place k up to the next gap, or the end
abbrev pub word_at : List ℕ → ℕ → List ℕ
word_at text k = take (front letter (drop k text)) (drop k text)

pub record FirstUnknown (text : List ℕ) (k : ℕ) : Type 0 where
  pub starts : StartsAt text k
  pub some : 0 < length (word_at text k)
  pub unknown : found_of (word_at text k) ≡ None
  pub before : words_known (take k text) ≡ true
