-- `Bits::keep` meets its contract: the walk's laws, at each rule that the test's answers follow. The measure is what remains.
-- Assumes nothing.
use Rattle.std.proofs.Common.{◌≡◌, Bool, ℕ, ◌<◌, ◌≤◌}
use Rattle.laws.specs.laws.Walk.{Walk}
use Rattle.action.specs.Known.{actions}
use Rattle.action_set.proofs.bits.Bits.keep.Given as goal

abbrev pub invariant-loop-remaining : goal.invariant-loop-remaining
invariant-loop-remaining g l = record {
  part : l.remaining ≤ l.kept;
  less : l.kept ≤ l.fn.self.bits;
  walk : (p : ℕ → Bool) → ((n : ℕ) (b : Bool) → n < actions → goal.F-post g l.test n b → b ≡ p n) → Walk actions p l.fn.self.bits l.kept l.remaining;
}

abbrev pub decreases-loop-remaining : goal.decreases-loop-remaining
decreases-loop-remaining g l = l.remaining
