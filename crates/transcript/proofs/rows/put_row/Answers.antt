-- `transcript::rows::put_row` meets its contract.
-- Assumes nothing.
use native.Mathlib.Omega.{arith}
use Rattle.text.specs.laws.Over.{then}
use Rattle.transcript.specs.Transcript.{row_of}
use Rattle.transcript.proofs.rows.put_row.Goals as goal

pub returns : goal.returns
unfolding row_of
returns c =
    (then c.put_line-end.ensures.0 c.put_byte.ensures, omega (arith, c.put_line-end.ensures.1, c.put_byte.ensures.next))
