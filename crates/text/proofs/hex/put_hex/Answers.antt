-- `hex::put_hex` meets its contract: each turn spells the last digit of what is left.
-- Assumes nothing.
use mathlib.Core.Path.{refl}
use Rattle.text.specs.laws.Over.{put_as}
use Rattle.text.proofs.Spelling.{unspelled, turn, full}
use Rattle.text.specs.Hex.{hex, hex_of}
use Rattle.text.proofs.hex.put_hex.Goals as goal

pub loop-i-init : goal.loop-i-init
unfolding hex_of
loop-i-init c = unspelled hex 8 c.args.n

pub loop-i-preserved : goal.loop-i-preserved
loop-i-preserved c = rw c.hex_digit.ensures (turn c.loop-i-test.true c.loop-i.invariant refl)

pub returns : goal.returns
returns c = put_as (full c.loop-i.invariant c.loop-i-test.false) c.put.ensures
