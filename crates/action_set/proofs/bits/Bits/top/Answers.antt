-- `Bits::top` meets its contract.
-- Assumes nothing.
use Prim.Native.Nat.{◌<◌, ◌^◌}
use native.Mathlib.Omega.{arith}
use Rattle.laws.specs.laws.Bits.{top_place}
use Rattle.action_set.proofs.bits.Bits.top.Goals as goal
use Rattle.action_set.proofs.bits.Bits.top.Goals.{Start}

wide : (c : Start) → c.args.self.bits < 2 ^ 32
wide c = omega (arith, c.args.self.inside)

pub returns : goal.returns
returns c = (top_place c.args.self.bits c.requires (wide (goal.at.returns c).Start)).1
