-- `crafty::states::display` meets its contract.
-- Assumes nothing.
use Rattle.text.specs.laws.Over.{Rendered, rendered}
use Rattle.craft_state.specs.Line.{display_of}
use Rattle.craft_state.specs.laws.Line.{line_short}
use Rattle.crafty.specs.laws.Room.{fits_as}
use Rattle.craft_state.specs.Limits.{given_tests}
use Rattle.crafty.specs.laws.Ways.{refused_room_by, passed_room_by}
use Rattle.crafty.proofs.states.display.Goals as goal
use Rattle.crafty.proofs.states.display.Goals.{After-put_line-k}

lent : (c : After-put_line-k) → Rendered (display_of c.args.context c.args.state) c.put_line-k.result c.put_line-k.new.out
lent c = rendered c.put_line-k.ensures.0 (line_short _ _)

pub returns-in_err-check : goal.returns-in_err-check
returns-in_err-check c = refused_room_by (given_tests c.args.context c.args.state) _ c.in_err-check.ensures.same c.from_residual.ensures

pub returns : goal.returns
returns c = passed_room_by (given_tests c.args.context c.args.state) _ c.in_ok-check.ensures.same (fits_as (lent (goal.at.returns c).After-put_line-k).same c.write.ensures)
