-- `decimal::U32Decimal::spell` meets its contract: each turn spells the last digit of what is left.
-- Assumes nothing.
use mathlib.Core.Path.{◌≡◌}
use Prim.Native.Nat.{◌^◌, ◌≤◌, ◌<◌}
use lib.ListN.{length}
use Rattle.text.proofs.Spelling.{Spelling}
use Rattle.text.specs.Decimal.{decimal, decimal_of}
use Rattle.text.proofs.decimal.U32Decimal.spell.Given as goal

abbrev pub invariant-loop-rest : goal.invariant-loop-rest
invariant-loop-rest l = Spelling decimal (decimal_of l.self) l.from l.rest l.bytes × (l.rest < 10 ^ l.from) × (0 < l.from) × (l.from ≤ 10) × (length l.bytes ≡ 10)

abbrev pub decreases-loop-rest : goal.decreases-loop-rest
decreases-loop-rest l = l.from
