-- `action::names::key` meets its contract.
-- Assumes nothing.
use native.Mathlib.Omega.{arith}
use Rattle.action.specs.inner.Texts.{key_of}
use Rattle.action.proofs.names.key.Goals as goal

pub returns : goal.returns
unfolding key_of
returns c = (rw (c.wide.ensures.0, c.wide-2.ensures.0), omega arith)
