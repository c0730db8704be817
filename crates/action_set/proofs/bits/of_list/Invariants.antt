-- `action_set::bits::of_list` meets its contract: what is left of the list is still to be joined.
-- Assumes nothing.
use mathlib.Core.Path.{◌≡◌}
use lib.ListN.{drop}
use Rattle.laws.specs.Lists.{elem}
use Rattle.action_set.specs.Sets.{SetIn, set_of}
use Rattle.action_set.specs.laws.Sets.{joined}
use Rattle.action_set.proofs.bits.of_list.Given as goal

abbrev pub invariant-loop-n : goal.invariant-loop-n
invariant-loop-n l = (joined l.s.0 (drop l.n-index l.list) ≡ set_of (elem l.list)) × SetIn l.s.0
