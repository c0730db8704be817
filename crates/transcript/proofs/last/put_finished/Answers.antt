-- `transcript::last::put_finished` meets its contract.
-- Assumes nothing.
use native.Mathlib.Omega.{arith}
use lib.Ieee.{binary32, to_bits}
use Rattle.text.specs.laws.Over.{then}
use Rattle.text.specs.laws.Lengths.{hex_length}
use Rattle.transcript.specs.Transcript.{finished_of}
use Rattle.transcript.proofs.last.put_finished.Goals as goal

pub returns : goal.returns
unfolding finished_of
returns c =
    (then c.put-digits.ensures c.put_hex.ensures, omega (arith, c.put-digits.ensures.next, c.put_hex.ensures.next, hex_length (to_bits binary32 c.args.score)))
