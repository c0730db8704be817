-- `action::known::check_list` meets its contract: after i turns the first i numbers are actions.
-- Assumes nothing.
use Rattle.action.specs.laws.Known.{front_more, front_ends, front_all}
use Rattle.action.proofs.known.check_list.Goals as goal

pub returns-then-n-ge-ACTIONS : goal.returns-then-n-ge-ACTIONS
returns-then-n-ge-ACTIONS c = front_ends _ c.loop-i.invariant c.loop-i-test.true c.if-n-ge-ACTIONS.true

pub loop-i-preserved : goal.loop-i-preserved
loop-i-preserved c = front_more _ c.loop-i.invariant c.loop-i-test.true c.if-n-ge-ACTIONS.false

pub returns : goal.returns
returns c = front_all _ c.loop-i.invariant c.loop-i-test.false
