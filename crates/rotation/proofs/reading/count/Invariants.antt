-- `rotation::reading::count` meets its contract: what is counted and what is left decide as the whole text does.
-- Assumes nothing.
use Rattle.std.proofs.Common.{◌≡◌, ◌+◌, length}
use Rattle.rotation.specs.Words.{actions_in}
use Rattle.rotation.specs.inner.Counted.{counted_of}
use Rattle.rotation.specs.inner.Told.{told_from}
use Rattle.rotation.specs.laws.Told.{named, tally}
use Rattle.rotation.proofs.reading.count.Given as goal

abbrev pub invariant-loop-word : goal.invariant-loop-word
invariant-loop-word l =
    goal.iterator-loop-word.can_next l.word-iterator
    × goal.iterator-loop-word.is_finite l.word-iterator
    × (tally l.k (told_from l.word-iterator) ≡ counted_of l.text)
    × (l.k + length (named (told_from l.word-iterator)) ≡ length (actions_in l.text))
