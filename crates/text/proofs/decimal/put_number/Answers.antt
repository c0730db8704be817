-- `decimal::put_number` meets its contract.
-- Assumes nothing.
use native.Mathlib.Omega.{arith}
use Rattle.text.specs.laws.Over.{put_as}
use Rattle.text.proofs.SpelledLaws.{spelled_count, spelled_right}
use Rattle.text.specs.laws.Lengths.{right_length}
use Rattle.text.proofs.decimal.put_number.Goals as goal

pub returns : goal.returns
returns g c =
    let q = c.spell-digits.ensures in
    let p = put_as (spelled_right q c.args.width c.requires.1 c.min-start.ensures) c.put.ensures in
    (p, omega (arith, p.next, spelled_count q, right_length c.args.width (g.T.Decimal.text c.args.n)))
