-- `craft_context::pool::determine_action_pool` meets its contract: of every action, those of the pool are kept.
-- Assumes nothing.
use Rattle.std.proofs.Common.{◌∙◌, rules}
use Rattle.action_set.specs.laws.Sets.{keep_all}
use Rattle.craft_context.specs.Pool.{in_pool}
use Rattle.craft_context.proofs.pool.determine_action_pool.Goals as goal

pub returns : goal.returns
returns c = c.keep.ensures (in_pool c.args.player c.args.recipe) (λ n b h k. search rules) ∙ keep_all _
