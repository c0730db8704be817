-- `context_line::line::read_numbers` meets its contract: each turn of the walk reads one number.
-- Assumes nothing.
use Rattle.std.proofs.Common.{sym, ◌∙◌}
use Rattle.context_line.proofs.Walk.{start, narrow, longer, whole, parted, onward}
use Rattle.context_line.proofs.line.read_numbers.Goals as goal

pub loop-k-init : goal.loop-k-init
loop-k-init c = start c.args.line.now

pub returns-in_err-value : goal.returns-in_err-value
returns-in_err-value c = rw c.from_residual.ensures (narrow c.loop-k.invariant c.in_err-value.ensures)

pub returns-then-not-is_space : goal.returns-then-not-is_space
returns-then-not-is_space c = parted c.loop-k.invariant c.in_ok-value.ensures c.loop-k-test.true (sym c.is_space.ensures ∙ c.if-not-is_space.true)

pub loop-k-preserved : goal.loop-k-preserved
loop-k-preserved c = onward c.loop-k.invariant c.in_ok-value.ensures c.loop-k-test.true (sym c.is_space.ensures ∙ c.if-not-is_space.false)

pub returns-in_err-last : goal.returns-in_err-last
returns-in_err-last c = rw c.from_residual-in_err-last.ensures (narrow c.loop-k.invariant c.in_err-last.ensures)

pub returns-then-end-line : goal.returns-then-end-line
returns-then-end-line c = longer c.loop-k.invariant c.in_ok-last.ensures c.loop-k-test.false c.if-end-line.true

pub returns : goal.returns
returns c = whole c.loop-k.invariant c.in_ok-last.ensures c.loop-k-test.false c.if-end-line.false
