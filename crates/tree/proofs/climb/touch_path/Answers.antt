-- `tree::climb::touch_path` meets its contract: what was written, and what is left to write from record k on, make the whole.
-- Assumes nothing.
use Rattle.std.proofs.Common.{refl, arith}
use Rattle.tree.proofs.Turns.{write_turns, write_arrives, write_ends}
use Rattle.tree.proofs.climb.touch_path.Goals as goal

pub loop-k-preserved : goal.loop-k-preserved
loop-k-preserved c = rw (c.touch.ensures, c.node_at-parent.ensures) (write_turns _ _ _ _ c.requires c.loop-k.invariant c.loop-k-test.true)

pub touch-requires-2 : goal.touch-requires-2
touch-requires-2 c = omega (arith, write_arrives _ _ _ _ c.requires c.loop-k.invariant c.loop-k-test.false)

pub returns : goal.returns
returns c = write_ends _ _ _ _ c.requires c.loop-k.invariant (write_arrives _ _ _ _ c.requires c.loop-k.invariant c.loop-k-test.false) c.touch-2.ensures refl
