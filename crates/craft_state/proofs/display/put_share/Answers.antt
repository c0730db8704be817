-- `craft_state::display::put_share` meets its contract: four appends, one after another.
-- Assumes nothing.
use native.Mathlib.Omega.{arith}
use Rattle.text.specs.laws.Over.{then}
use Rattle.craft_state.specs.Line.{part_of}
use Rattle.craft_state.proofs.display.put_share.Goals as goal

pub returns : goal.returns
unfolding part_of
returns g c = (
  then (then (then c.put_number-slash.ensures.0 c.put_byte-right.ensures) c.put_number-end.ensures.0) c.put.ensures,
  omega (arith, c.put_number-slash.ensures.1, c.put_byte-right.ensures.next, c.put_number-end.ensures.1, c.put.ensures.next),
)
