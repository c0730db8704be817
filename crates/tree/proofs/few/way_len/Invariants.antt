-- `tree::few::way_len` meets its contract: what was counted, and what is left from record k on, make the whole.
-- Assumes nothing.
use Rattle.std.proofs.Common.{◌≡◌, ◌+◌, ◌<◌, length}
use Rattle.tree.specs.inner.Few.{way_of}
use Rattle.tree.specs.laws.Few.{left_of}
use Rattle.tree.proofs.few.way_len.Given as goal

abbrev pub invariant-loop-k : goal.invariant-loop-k
invariant-loop-k l = record { inside : l.k < length l.best; whole : l.len + left_of l.best l.k ≡ length (way_of l.best) }

abbrev pub decreases-loop-k : goal.decreases-loop-k
decreases-loop-k l = left_of l.best l.k
