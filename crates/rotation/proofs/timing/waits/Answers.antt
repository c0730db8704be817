-- `rotation::timing::waits` meets its contract.
-- Assumes nothing.
use Rattle.std.proofs.Common.{◌≡◌, ◌∙◌, rules}
use Rattle.std.specs.Prelude.{map, sum}
use Rattle.action.specs.Table.{attributes_of}
use Rattle.action.specs.Wait.{wait_of}
use Rattle.rotation.specs.laws.Seconds.{waits_sum}
use Rattle.rotation.proofs.timing.waits.Goals as goal

pub returns : goal.returns
returns c = let chain : c.sum.result ≡ sum (map (λ n. wait_of (attributes_of n)) c.args.actions.now) = search rules in chain ∙ waits_sum _
