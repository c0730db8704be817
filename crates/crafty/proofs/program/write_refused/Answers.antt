-- `crafty::program::write_refused` meets its contract.
-- Assumes nothing.
use mathlib.Core.Path.{ap, ◌∙◌}
use native.Mathlib.Omega.{arith}
use Rattle.refusal.specs.declared.Report.{Report}
use Rattle.text.specs.Decimal.{decimal_of}
use Rattle.text.specs.laws.Lengths.{right_none}
use Rattle.text.specs.laws.Over.{Rendered, rendered, then, put_as}
use Rattle.crafty.specs.laws.Room.{fits_as}
use Rattle.crafty.specs.Program.{refused_text_of}
use Rattle.crafty.proofs.program.write_refused.Goals as goal
use Rattle.crafty.proofs.program.write_refused.Goals.{After-put_byte-k, Start}

abbrev start_of : After-put_byte-k → Start
start_of c = (goal.at.After-put_byte-k c).Start

-- the line in its room
line : (c : After-put_byte-k) → Rendered (refused_text_of (start_of c).args.x) c.put_byte-k.result c.put_byte-k.new.out
unfolding refused_text_of
line c =
    let digits = put_as (right_none _ ∙ ap decimal_of (c.from.ensures ∙ ap (λ (r : Report). r.0) c.reported-report.ensures)) c.put_number-end.ensures.0 in
    let text = then (then c.put-number.ensures digits) c.put_byte-k.ensures in
    rendered text (omega (arith, text.next, c.put-number.ensures.next, c.put_number-end.ensures.1, c.put_byte-k.ensures.next))

pub returns : goal.returns
returns c = fits_as (line (goal.at.returns c).After-put_byte-k).same c.write.ensures
