-- `tree::climb::survey_path` meets its contract: what was found, and what is left to find from record k on, make the whole.
-- Assumes nothing.
use Rattle.tree.proofs.Turns.{test_turns, test_ends}
use Rattle.tree.proofs.climb.survey_path.Goals as goal

pub loop-k-preserved : goal.loop-k-preserved
loop-k-preserved c = rw (c.is_full-full.ensures, c.node_at-n.ensures) (test_turns _ _ _ c.requires c.loop-k.invariant c.loop-k-test.true)

pub returns : goal.returns
returns c = rw (c.is_full.ensures, c.node_at.ensures) (test_ends _ _ _ c.requires c.loop-k.invariant c.loop-k-test.false)
