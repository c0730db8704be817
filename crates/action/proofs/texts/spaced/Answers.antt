-- `action::texts::spaced` meets its contract.
-- Assumes nothing.
use Rattle.std.proofs.Common.{◌∙◌}
use Rattle.action.proofs.Equal.{any_is_elem}
use Rattle.action.proofs.texts.spaced.Goals as goal

pub returns : goal.returns
returns c = c.contains.ensures.value ∙ any_is_elem _ 32
