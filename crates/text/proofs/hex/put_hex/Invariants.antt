-- `hex::put_hex` meets its contract: each turn spells the last digit of what is left.
-- Assumes nothing.
use Rattle.text.proofs.Spelling.{Spelling}
use Rattle.text.specs.Hex.{hex, hex_of}
use Rattle.text.proofs.hex.put_hex.Given as goal

abbrev pub invariant-loop-i : goal.invariant-loop-i
invariant-loop-i l = Spelling hex (hex_of l.n) l.i l.rest l.bytes
