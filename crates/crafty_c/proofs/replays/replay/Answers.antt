-- `crafty_c::replays::replay` meets its contract.
-- Assumes nothing.
use Rattle.std.proofs.Common.{subst}
use Rattle.craft_context.specs.declared.context.CraftContext.{CraftContext}
use Rattle.context_line.specs.Fields.{number_tests}
use Rattle.context_line.specs.inner.Fields.{listed}
use Rattle.context_line.specs.laws.Read.{read_context, read_refused, numbers_inside}
use Rattle.crafty.specs.laws.Ways.{refused_room_by, passed_room_by}
use Rattle.crafty_c.specs.Reports.{report_tests}
use Rattle.crafty_c.specs.inner.Reports.{Reports}
use Rattle.crafty_c.proofs.replays.replay.Goals as goal

pub returns-in_err-context : goal.returns-in_err-context
returns-in_err-context c =
    refused_room_by (number_tests (listed c.args.numbers)) (report_tests c.args.list.now c.args.out.now) (read_refused c.in_err-context.ensures) c.from_residual.ensures

pub report-requires : goal.report-requires
report-requires c = numbers_inside _ c.in_ok-context.ensures

pub returns : goal.returns
returns c =
    let shown = read_context c.in_ok-context.ensures in
    passed_room_by (number_tests (listed c.args.numbers)) (report_tests c.args.list.now c.args.out.now) shown.1
    (subst (λ (context : CraftContext). Reports context c.args.mode c.args.list.now c.args.out.now c.report.result c.report.new.out) shown.0 c.report.ensures)
