-- `Bits::nth` meets its contract: what is still to be taken off what remains names the same member.
-- Assumes nothing.
use mathlib.Core.Path.{◌≡◌}
use Prim.Native.Nat.{◌-◌, ◌<◌}
use Rattle.action_set.specs.Sets.{size_of, nth_of}
use Rattle.action_set.proofs.bits.Bits.nth.Given as goal

abbrev pub invariant-loop : goal.invariant-loop
invariant-loop l = (nth_of l.remaining.bits (l.n - l.counter) ≡ nth_of l.fn.self.bits l.n) × (l.n - l.counter < size_of l.remaining.bits)
