-- `search::iterate::carry_out` meets its contract: the path that was stored reaches record 0, and what was written up to there is what the statement has.
-- Assumes nothing.
use Rattle.search.specs.laws.Storing.{stored_reaches, carried}
use Rattle.search.proofs.iterate.carry_out.Goals as goal

pub touch_path-requires : goal.touch_path-requires
touch_path-requires c = stored_reaches c.store_path-end.ensures

pub returns : goal.returns
returns c = carried c.store_path-end.ensures c.touch_path.ensures
