-- `search::options::are_logs` meets its contract: number by number, up to one that is no logarithm.
-- Assumes nothing.
use Rattle.std.proofs.Common.{sym, ◌∙◌}
use Rattle.search.specs.laws.Options.{logs_start, logs_next, logs_none}
use Rattle.search.proofs.options.are_logs.Goals as goal

pub loop-v-init : goal.loop-v-init
loop-v-init c = logs_start _

pub returns-then-not-is_log : goal.returns-then-not-is_log
returns-then-not-is_log c = logs_none c.args.logs.now _ c.loop-v-test.true (sym c.is_log.ensures ∙ c.if-not-is_log.true)

pub loop-v-preserved : goal.loop-v-preserved
loop-v-preserved c = logs_next _ _ c.loop-v.invariant (sym c.is_log.ensures ∙ c.if-not-is_log.false)
