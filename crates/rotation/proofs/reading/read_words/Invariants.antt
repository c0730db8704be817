-- `rotation::reading::read_words` meets its contract: what is counted and what is left decide as the whole text does, and the rest is stored where
-- the next word goes.
-- Assumes nothing.
use Rattle.std.proofs.Common.{◌≡◌, ◌+◌, length}
use Rattle.text.specs.Over.{over}
use Rattle.rotation.specs.Words.{actions_in}
use Rattle.rotation.specs.inner.Counted.{counted_of, leading_in}
use Rattle.rotation.specs.inner.Told.{told_from}
use Rattle.rotation.specs.laws.Told.{named, named_first, tally}
use Rattle.rotation.proofs.reading.read_words.Given as goal

abbrev pub invariant-loop-word : goal.invariant-loop-word
invariant-loop-word l =
    goal.iterator-loop-word.can_next l.word-iterator
    × goal.iterator-loop-word.is_finite l.word-iterator
    × (tally l.k (told_from l.word-iterator) ≡ counted_of l.text)
    × (l.k + length (named (told_from l.word-iterator)) ≡ length (actions_in l.text))
    × (over l.out l.k (named_first (told_from l.word-iterator)) ≡ over l.initial.out 0 (leading_in l.text))
    × (length l.out ≡ length l.initial.out)
