-- `rotation::reading::put_words` meets its contract: the rest of the actions, stored where the next one goes, are all of them stored at the start.
-- Assumes nothing.
use Rattle.std.proofs.Common.{◌≡◌, ◌+◌, length}
use Rattle.text.specs.Over.{over}
use Rattle.rotation.specs.Words.{actions_in}
use Rattle.rotation.specs.inner.Told.{told_from}
use Rattle.rotation.specs.laws.Told.{named}
use Rattle.rotation.proofs.reading.put_words.Given as goal

abbrev pub invariant-loop-word : goal.invariant-loop-word
invariant-loop-word l =
    goal.iterator-loop-word.can_next l.word-iterator
    × goal.iterator-loop-word.is_finite l.word-iterator
    × (over l.out l.k (named (told_from l.word-iterator)) ≡ over l.initial.out 0 (actions_in l.text))
    × (l.k + length (named (told_from l.word-iterator)) ≡ length (actions_in l.text))
    × (length l.out ≡ length l.initial.out)
