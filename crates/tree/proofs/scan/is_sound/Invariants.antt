-- `tree::scan::is_sound` meets its contract: the records before the next are sound.
-- Assumes nothing.
use Rattle.std.proofs.Common.{◌≡◌, true}
use Rattle.tree.specs.Tree.{sound_to}
use Rattle.tree.proofs.scan.is_sound.Given as goal

abbrev pub invariant-loop-k : goal.invariant-loop-k
invariant-loop-k l = sound_to l.k l.nodes ≡ true
